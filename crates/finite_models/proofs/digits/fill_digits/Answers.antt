use Rattle.std.proofs.Common.{ℕ, ◌-◌, ◌/◌, ◌%◌, List, ◌++◌, ap, ◌∙◌}
use Rattle.std.proofs.lemmas.Nat.{mod_below}
use Rattle.finite_models.specs.Digits.{digits}
use Rattle.finite_models.proofs.AboutNumbers.DigitLemmas.{digit-step}
use Rattle.finite_models.proofs.digits.fill_digits.Goals as goal

pub nonzero_div-rest : goal.nonzero_div-rest
nonzero_div-rest c =
    let step = digit-step c.args.base c.loop-left.left c.loop-left.unit c.loop-left.rest c.loop-left.values.items _ c.requires.base c.loop-left-test.true
    c.loop-left.invariant.unit c.loop-left.invariant.digits in
    step.1

pub nonzero_rem-rest : goal.nonzero_rem-rest
nonzero_rem-rest c =
    let step = digit-step c.args.base c.loop-left.left c.loop-left.unit c.loop-left.rest c.loop-left.values.items _ c.requires.base c.loop-left-test.true
    c.loop-left.invariant.unit c.loop-left.invariant.digits in
    step.1

pub loop-left-preserved : goal.loop-left-preserved
loop-left-preserved c =
    let step = digit-step c.args.base c.loop-left.left c.loop-left.unit c.loop-left.rest c.loop-left.values.items _ c.requires.base c.loop-left-test.true
    c.loop-left.invariant.unit c.loop-left.invariant.digits in
    record {
      unit = step.0;
      rest = mod_below c.loop-left.rest (c.loop-left.unit / c.args.base) step.1;
      digits =
          ap
          (λ (vs : List ℕ).
          vs ++ digits c.args.base (c.loop-left.left - 1) (c.loop-left.rest % (c.loop-left.unit / c.args.base))) c.in_ok-push.ensures.items
          ∙ step.2;
    }
