use Rattle.std.proofs.Common.{take}
use Rattle.std.specs.Prelude.{All}
use Rattle.subsume.specs.Tree.{IsBoundedBy, members_of}
use Rattle.subsume.proofs.editing.bound_of.Given as goal

abbrev pub invariant-loop-entry : goal.invariant-loop-entry
invariant-loop-entry l = All (IsBoundedBy l.bound.values) (members_of (take l.entry-index l.entries))
