use Rattle.std.proofs.Common.{ap, ◌∙◌, arith}
use Rattle.std.specs.Prelude.{sum_by}
use Rattle.fol_base.specs.Clause.{literal_size}
use Rattle.fol_base.specs.Selection.{eligible}
use Rattle.kbo_order.proofs.AboutMultisets.LiteralLemmas.{literals-themselves}
use Rattle.literal_selection.proofs.eligibility.eligible.Goals as goal

pub eligible_under-requires-clause-size : goal.eligible_under-requires-clause-size
eligible_under-requires-clause-size g c =
    omega (arith, ap (sum_by literal_size) (literals-themselves (g.L.LendsLiterals.meaning c.args.literals.now)), c.requires.size)

pub returns : goal.returns
returns g c =
    c.eligible_under.ensures
    ∙ ap (λ ls. eligible ls c.args.index c.args.chosen c.args.strict) (literals-themselves (g.L.LendsLiterals.meaning c.args.literals.now))
