use Rattle.std.proofs.Common.{◌≡◌, ◌<◌, ◌||◌, ℕ, length, drop}
use Rattle.std.specs.List.{list_any}
use Rattle.tstp_writer.specs.Marks.{comes_at}
use Rattle.kernel_steps.specs.Marks.{is_marked}
use Rattle.tstp_writer.specs.Scripts.{script_in}
use Rattle.tstp_writer.proofs.cited.mark_origins.Given as goal

abbrev pub invariant-loop-number : goal.invariant-loop-number
invariant-loop-number l =
    (length l.marks.items ≡ length l.initial.marks.items)
    × ((n : ℕ) → n < length l.initial.marks.items
    → (is_marked l.marks.items n || list_any (comes_at (script_in l.script) l.lines n) (drop l.number-index l.numbers))
    ≡ (is_marked l.initial.marks.items n || list_any (comes_at (script_in l.script) l.lines n) l.numbers))
