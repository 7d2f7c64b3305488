use Rattle.std.proofs.Common.{◌≡◌, ◌++◌, map, take}
use Rattle.plain_types.specs.Names.{negative_of}
use Rattle.superpose.proofs.concluding.push_asserted.Given as goal

abbrev pub invariant-loop-name : goal.invariant-loop-name
invariant-loop-name l = l.asserted.items ≡ l.initial.asserted.items ++ map negative_of (take l.name-index l.name-items)
