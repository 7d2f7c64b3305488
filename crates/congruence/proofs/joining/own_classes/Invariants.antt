use Rattle.std.proofs.Common.{◌≡◌, ◌<◌, ℕ, length}
use Rattle.congruence.specs.Congruence.{class_in}
use Rattle.congruence.proofs.joining.own_classes.Given as goal

abbrev pub invariant-loop-number : goal.invariant-loop-number
invariant-loop-number l = (length l.classes.items ≡ l.number) × ((n : ℕ) → n < l.number → class_in l.classes.items n ≡ n)
