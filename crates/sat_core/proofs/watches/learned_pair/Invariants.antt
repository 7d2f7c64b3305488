use Rattle.std.proofs.Common.{◌<◌, length}
use Rattle.sat_core.proofs.watches.learned_pair.Given as goal

abbrev pub invariant-loop-index : goal.invariant-loop-index
invariant-loop-index l = (l.pair.first < length l.literals) × (l.pair.second < length l.literals)
