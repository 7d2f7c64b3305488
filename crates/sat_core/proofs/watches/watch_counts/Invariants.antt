use Rattle.std.proofs.Common.{◌≡◌, ◌*◌, length}
use Rattle.sat_core.proofs.watches.watch_counts.Given as goal

abbrev pub invariant-loop-number : goal.invariant-loop-number
invariant-loop-number l = length l.counts.items ≡ 2 * l.names
