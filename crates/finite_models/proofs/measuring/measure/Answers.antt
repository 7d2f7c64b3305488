use Rattle.std.proofs.Common.{ap, arith}
use Rattle.std.specs.Prelude.{sum_by}
use Rattle.list_lemmas.proofs.Places.{drop-all}
use Rattle.finite_models.specs.Measure.{symbol_measure}
use Rattle.finite_models.proofs.measuring.measure.Goals as goal

pub returns : goal.returns
returns c =
    let none = ap (sum_by (symbol_measure c.args.size)) (drop-all c.as_slice-symbols.result.now c.loop-number.number (omega (arith, c.loop-number-test.false))) in
    omega (arith, c.loop-number.invariant.sum, c.loop-number.invariant.small, none)
