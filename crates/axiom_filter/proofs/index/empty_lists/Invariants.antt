use Rattle.std.proofs.Common.{◌≡◌, ℕ, [], length}
use Rattle.axiom_filter.specs.Tables.{row_of}
use Rattle.axiom_filter.proofs.index.empty_lists.Given as goal

abbrev pub invariant-loop-i : goal.invariant-loop-i
invariant-loop-i l = record { count : length l.lists.items ≡ l.i; empty : (n : ℕ) → row_of l.lists.items n ≡ [] }
