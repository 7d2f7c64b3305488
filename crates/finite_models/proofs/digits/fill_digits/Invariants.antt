use Rattle.std.proofs.Common.{◌≡◌, ◌<◌, ◌^◌, ◌++◌}
use Rattle.finite_models.specs.Digits.{digits}
use Rattle.finite_models.proofs.digits.fill_digits.Given as goal

abbrev pub invariant-loop-left : goal.invariant-loop-left
invariant-loop-left l = record {
  unit : l.unit ≡ l.base ^ l.left;
  rest : l.rest < l.unit;
  digits : l.values.items ++ digits l.base l.left l.rest ≡ digits l.base l.count l.number;
}

abbrev pub decreases-loop-left : goal.decreases-loop-left
decreases-loop-left l = l.left
