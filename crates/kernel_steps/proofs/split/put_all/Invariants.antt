use Rattle.std.proofs.Common.{◌≡◌, ℕ, ◌||◌, nat_eq, take}
use Rattle.std.specs.HashSet.{contains}
use Rattle.kernel_steps.specs.Split.{has_number}
use Rattle.kernel_steps.proofs.split.put_all.Given as goal

abbrev pub invariant-loop-number : goal.invariant-loop-number
invariant-loop-number l =
    (n : ℕ) → contains nat_eq l.met n ≡ (has_number n (take l.number-index l.numbers) || contains nat_eq l.initial.met n)
