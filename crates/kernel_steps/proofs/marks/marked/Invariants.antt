use Rattle.std.proofs.Common.{◌≡◌, ◌++◌, drop}
use Rattle.kernel_steps.specs.Marks.{marked_numbers}
use Rattle.kernel_steps.proofs.marks.marked.Given as goal

abbrev pub invariant-loop-number : goal.invariant-loop-number
invariant-loop-number l = l.numbers ++ marked_numbers l.number (drop l.number l.marks) ≡ marked_numbers 0 l.marks
