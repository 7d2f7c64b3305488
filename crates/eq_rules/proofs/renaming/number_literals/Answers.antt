use Rattle.std.proofs.Common.{◌-◌, map, take, drop}
use Rattle.std.specs.Prelude.{flat_map}
use Rattle.fol_base.specs.Clause.{literal_instance, literal_variables}
use Rattle.fol_base.specs.Lent.{lent_of}
use Rattle.eq_rules.proofs.AboutConclusions.RenumberedLemmas.{literals_met}
use Rattle.list_lemmas.proofs.Results.{on-err}
use Rattle.eq_rules.proofs.AboutConclusions.KeptLemmas.{keeps-after}
use Rattle.eq_rules.proofs.renaming.number_literals.Goals as goal

pub loop-index-preserved : goal.loop-index-preserved
loop-index-preserved g c =
    literals_met (g.S.LendsTerms.meaning c.args.bind.now) (g.L.LendsLiterals.meaning c.args.literals.now) c.args.start c.loop-index.index
    (lent_of c.literal.result) c.args.numbers.now c.loop-index.numbers c.number_literal.new.numbers
    c.literal.ensures c.loop-index.auto.index c.loop-index.invariant c.in_ok-number_literal.ensures.met

pub returns-in_err-number_literal-clause-kept : goal.returns-in_err-number_literal-clause-kept
returns-in_err-number_literal-clause-kept g c =
    let σ = g.S.LendsTerms.meaning c.args.bind.now in
    let walked = take (c.loop-index.index - c.args.start) (drop c.args.start (g.L.LendsLiterals.meaning c.args.literals.now)) in
    on-err c.from_residual.result
    (keeps-after c.args.numbers.now (flat_map literal_variables (map (literal_instance σ) walked)) c.loop-index.numbers
    c.number_literal.new.numbers c.loop-index.invariant c.in_err-number_literal.ensures.kept)
