use Rattle.std.proofs.Common.{◌≡◌, ◌≤◌, ◌-◌, ◌^◌, min, drop}
use Rattle.axiom_filter.specs.Tables.{least_length}
use Rattle.axiom_filter.proofs.triggers.rarest_count.Given as goal

abbrev pub invariant-loop-symbol : goal.invariant-loop-symbol
invariant-loop-symbol l = record {
  most : l.least ≤ 2 ^ 64 - 1;
  least : min l.least (least_length l.index (drop l.symbol-index l.row)) ≡ least_length l.index l.row;
}
