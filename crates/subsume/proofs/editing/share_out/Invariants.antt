use Rattle.std.proofs.Common.{◌+◌, ◌≤◌, ◌++◌}
use Rattle.std.specs.Prelude.{All, IsPermutation, vec_len, vec_capacity}
use Rattle.subsume.specs.Editing.{HasAtMost, HasMore}
use Rattle.subsume.proofs.editing.share_out.Given as goal

abbrev pub invariant-loop-entry : goal.invariant-loop-entry
invariant-loop-entry l =
    IsPermutation l.fn.entries.items (l.left.items ++ (l.low.items ++ l.high.items))
    × All (HasAtMost l.cut) l.low.items × All (HasMore l.cut) l.high.items
    × (vec_len l.left + vec_len l.low ≤ vec_capacity l.low) × (vec_len l.left + vec_len l.high ≤ vec_capacity l.high)

abbrev pub decreases-loop-entry : goal.decreases-loop-entry
decreases-loop-entry l = vec_len l.left
