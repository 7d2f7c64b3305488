use Rattle.std.proofs.Common.{◌<◌, length}
use Rattle.subsume.proofs.choosing.choose.Given as goal

abbrev pub invariant-loop-index : goal.invariant-loop-index
invariant-loop-index l = l.chosen < length l.patterns
