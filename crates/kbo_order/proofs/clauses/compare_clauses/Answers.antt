use Rattle.std.proofs.Common.{ap, ap₂, ◌∙◌, arith}
use Rattle.std.specs.Prelude.{sum_by}
use Rattle.fol_base.specs.Clause.{literal_size}
use Rattle.fol_base.specs.Order.{compare_clauses}
use Rattle.kbo_order.proofs.AboutMultisets.LiteralLemmas.{literals-themselves}
use Rattle.kbo_order.proofs.clauses.compare_clauses.Goals as goal

pub compare_clauses_under-requires : goal.compare_clauses_under-requires
compare_clauses_under-requires g c = record {
  left_size = omega (arith, ap (sum_by literal_size) (literals-themselves (g.L.LendsLiterals.meaning c.args.left.now)), c.requires.left_size);
  right_size = omega (arith, ap (sum_by literal_size) (literals-themselves (g.M.LendsLiterals.meaning c.args.right.now)), c.requires.right_size);
}

pub returns : goal.returns
returns g c =
    c.compare_clauses_under.ensures
    ∙ ap₂ compare_clauses
    (literals-themselves (g.L.LendsLiterals.meaning c.args.left.now)) (literals-themselves (g.M.LendsLiterals.meaning c.args.right.now))
