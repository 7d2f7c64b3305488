use Rattle.std.proofs.Common.{◌≡◌, ◌<◌, ◌^◌, drop}
use Rattle.tptp_source.specs.Items.{value_behind}
use Rattle.tptp_source.proofs.items.decimal.Given as goal

abbrev pub invariant-loop-digit : goal.invariant-loop-digit
invariant-loop-digit l = (value_behind 0 l.digits ≡ value_behind l.value (drop l.digit-index l.digits)) × (l.value < 2 ^ 64)
