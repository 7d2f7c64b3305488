use Rattle.std.proofs.Common.{◌≡◌, ℕ, [], length}
use Rattle.herbrand_list.specs.Worked.{row_at}
use Rattle.herbrand_list.proofs.demands.DemandList.empty.Given as goal

abbrev pub invariant-loop : goal.invariant-loop
invariant-loop l = (length l.by_line.items ≡ l.counter) × ((n : ℕ) → row_at l.by_line.items n ≡ [])
