use Rattle.std.proofs.Common.{map, ap}
use Rattle.fol_base.specs.Literal.{clause_of}
use Rattle.signature.specs.Form.{ClausalForm}
use Rattle.pool_writer.proofs.PoolRefutations.{pool-refutation}
use Rattle.pool_writer.proofs.refuted.prove_refuted.Goals as goal

pub returns : goal.returns
returns c =
    pool-refutation c.args.problem.now.formulas c.args.pool.now.origin c.args.pool.now.history (map clause_of c.args.form.now.clauses)
    (ap (λ (f : ClausalForm). f.clauses) c.requires.form) c.requires.inputs c.history.ensures.inputs c.history.ensures.lawful
    c.lines_are_derived.ensures c.names_rise.ensures c.refuted_is_refutation.ensures c.requires.refuted
