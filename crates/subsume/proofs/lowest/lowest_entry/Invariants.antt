use Rattle.std.proofs.Common.{take}
use Rattle.subsume.specs.Query.{IsLowestSubsumer}
use Rattle.subsume.specs.Tree.{members_of}
use Rattle.subsume.proofs.lowest.lowest_entry.Given as goal

abbrev pub invariant-loop-entry : goal.invariant-loop-entry
invariant-loop-entry l = IsLowestSubsumer l.query (members_of (take l.entry-index l.entries)) l.fn.bound l.lowest
