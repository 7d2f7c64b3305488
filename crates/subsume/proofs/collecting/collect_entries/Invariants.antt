use Rattle.std.proofs.Common.{take}
use Rattle.subsume.specs.Searching.{AddsSubsumed}
use Rattle.subsume.specs.Tree.{members_of}
use Rattle.subsume.proofs.collecting.collect_entries.Given as goal

abbrev pub invariant-loop-entry : goal.invariant-loop-entry
invariant-loop-entry l = AddsSubsumed l.by (members_of (take l.entry-index l.entries)) l.fn.found.items l.found.items
