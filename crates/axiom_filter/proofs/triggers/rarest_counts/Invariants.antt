use Rattle.std.proofs.Common.{◌≡◌, map, take}
use Rattle.axiom_filter.specs.Tables.{least_length}
use Rattle.axiom_filter.proofs.triggers.rarest_counts.Given as goal

abbrev pub invariant-loop-row : goal.invariant-loop-row
invariant-loop-row l = l.counts.items ≡ map (least_length l.index) (take l.row-index l.rows)
