use Rattle.std.proofs.Common.{ℕ, Bool, take}
use Rattle.std.specs.Prelude.{All}
use Rattle.term_bank.specs.Table.{IsTableOf}
use Rattle.pool_core.specs.Placing.{AreResults, IsFit, KnowsMore, lines_of_removals}
use Rattle.pool_history.specs.declared.batch.Removal.{Removal}
use Rattle.pool_core.proofs.interning.removal_results.Given as goal

abbrev pub invariant-loop-removal : goal.invariant-loop-removal
invariant-loop-removal g l = record {
  table : IsTableOf l.bank l.table;
  knows : KnowsMore l.initial.table l.table;
  results :
      (split : Bool) (count : ℕ) → All (λ (m : Removal). IsFit split count m.fate) l.removals
      → AreResults l.bank l.table split count (lines_of_removals (take l.removal-index l.removals)) l.results;
}
