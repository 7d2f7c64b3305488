use Rattle.std.proofs.Common.{◌≡◌, ◌<◌, ◌||◌, ℕ, length}
use Rattle.kernel_steps.specs.Lines.{step_parents}
use Rattle.kernel_steps.specs.Marks.{is_marked}
use Rattle.kernel_steps.specs.ParentNumbers.{parents_left}
use Rattle.tstp_writer.specs.Cone.{has_number}
use Rattle.tstp_writer.proofs.needed.Marks.mark_parents.Given as goal

abbrev pub invariant-loop-parent : goal.invariant-loop-parent
invariant-loop-parent l = record {
  room : length l.self.steps.items ≡ length l.initial.self.steps.items;
  marks : (n : ℕ) → n < length l.initial.self.steps.items
      → (is_marked l.self.steps.items n || has_number (parents_left l.parent-iterator) n)
      ≡ (is_marked l.initial.self.steps.items n || has_number (step_parents l.step) n);
  names : l.self.names ≡ l.initial.self.names;
}
