use Rattle.std.proofs.Common.{arith}
use Rattle.skolem.proofs.AboutBindings.OccurringLemmas.{form-item-is}
use Rattle.clausal_form.proofs.AboutCounts.WeightLemmas.{some-forms-then, all-forms-then, heavy-forms-then, totals-then, totals-end}
use Rattle.clausal_form.proofs.heavy.+form_weight.Goals as goal

pub form_weights-form_weight-requires : goal.form_weights-form_weight-requires
form_weights-form_weight-requires t c = (omega (arith, form-item-is _ _ _ c.loop-form-test.true c.form-item.is, c.decreases), tt)

pub form_weights-loop-form-preserved : goal.form_weights-loop-form-preserved
form_weights-loop-form-preserved t c = (
  some-forms-then _ _ _ _ _ _ _ c.loop-form-test.true c.form-item.is c.form_weight.ensures.clauses c.with_member-weights.ensures.some c.loop-form.invariant.0,
  (
    all-forms-then _ _ _ _ _ _ _ c.loop-form-test.true c.form-item.is c.form_weight.ensures.clauses c.with_member-weights.ensures.all c.loop-form.invariant.1.0,
    (
      heavy-forms-then _ _ _ _ _ _ _ c.loop-form-test.true c.form-item.is c.form_weight.ensures.heavy c.with_member-weights.ensures.heavy c.loop-form.invariant.1.1.0,
      (
        totals-then _ _ _ _ _ _ _ c.loop-form-test.true c.form-item.is c.form_weight.ensures.symbols c.with_member-weights.ensures.symbols
            c.loop-form.invariant.1.1.1.0,
        omega (arith, c.with_member-weights.ensures.symbols),
      ),
    ),
  ),
)

pub form_weights-returns-clause-symbols : goal.form_weights-returns-clause-symbols
form_weights-returns-clause-symbols t c =
    totals-end _ _ c.args.forms.now c.loop-form.form-index (omega (arith, c.loop-form-test.false)) c.loop-form.invariant.1.1.1.1 c.loop-form.invariant.1.1.1.0
