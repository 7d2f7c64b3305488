use Rattle.std.proofs.Common.{◌≡◌, ◌++◌, map, take}
use Rattle.plain_types.specs.Names.{opposite}
use Rattle.kernel_steps.proofs.split.push_opposites_of.Given as goal

abbrev pub invariant-loop-other : goal.invariant-loop-other
invariant-loop-other l = l.names.items ≡ l.initial.names.items ++ map opposite (take l.other-index l.others)
