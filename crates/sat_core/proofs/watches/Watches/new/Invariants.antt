use Rattle.std.proofs.Common.{◌≡◌, length}
use Rattle.sat_core.proofs.watches.Watches.new.Given as goal

abbrev pub invariant-loop-count : goal.invariant-loop-count
invariant-loop-count l = length l.lists.items ≡ l.count-index
