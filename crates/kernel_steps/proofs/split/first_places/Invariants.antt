use Rattle.std.proofs.Common.{take}
use Rattle.kernel_steps.proofs.AboutSplits.SplitTables.{HasPlaces}
use Rattle.kernel_steps.proofs.split.first_places.Given as goal

abbrev pub invariant-loop-number : goal.invariant-loop-number
invariant-loop-number l = HasPlaces (take l.number-index l.numbers) l.places
