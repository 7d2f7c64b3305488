use Rattle.std.proofs.Common.{◌∙◌, sym, ap}
use Rattle.sat_core.specs.Clause.{valuation_of}
use Rattle.finite_models.specs.Translation.{value_name}
use Rattle.finite_models.proofs.AboutTables.ChosenLemmas.{passing-later}
use Rattle.finite_models.proofs.table.value_of.Goals as goal

pub loop-value-preserved : goal.loop-value-preserved
loop-value-preserved c =
    c.loop-value.invariant
    ∙ passing-later (λ v. valuation_of c.args.truths.now (value_name c.args.function.first c.args.function.rows c.args.number v)) c.loop-value.value
    c.args.function.size c.loop-value-test.true
    (sym (ap (valuation_of c.args.truths.now) c.name-name.ensures.value) ∙ sym c.is_true.ensures ∙ c.if-is_true.false)
