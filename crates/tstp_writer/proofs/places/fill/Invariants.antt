use Rattle.std.proofs.Common.{◌≡◌, ◌+◌, ◌≤◌, ℕ, length, drop}
use Rattle.tstp_writer.specs.LineTrees.{place_in}
use Rattle.tstp_writer.specs.Places.{told_place}
use Rattle.tstp_writer.proofs.places.fill.Given as goal

abbrev pub invariant-loop-left : goal.invariant-loop-left
invariant-loop-left l =
    (l.left ≤ length l.numbers)
    × ((length l.table.items ≡ length l.initial.table.items)
    × ((n : ℕ) → told_place l.table.items (length l.numbers) n ≡ l.left + place_in n (drop l.left l.numbers)))

abbrev pub decreases-loop-left : goal.decreases-loop-left
decreases-loop-left l = l.left
