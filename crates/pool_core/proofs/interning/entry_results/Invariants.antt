use Rattle.std.proofs.Common.{ℕ, Bool, take}
use Rattle.std.specs.Prelude.{All}
use Rattle.term_bank.specs.Table.{IsTableOf}
use Rattle.pool_history.specs.Counting.{lines_of_entries}
use Rattle.pool_core.specs.Placing.{AreResults, IsFit, KnowsMore}
use Rattle.pool_history.specs.declared.batch.Entry.{Entry}
use Rattle.pool_core.proofs.interning.entry_results.Given as goal

abbrev pub invariant-loop-entry : goal.invariant-loop-entry
invariant-loop-entry g l = record {
  table : IsTableOf l.bank l.table;
  knows : KnowsMore l.initial.table l.table;
  results :
      (split : Bool) (count : ℕ) → All (λ (e : Entry). IsFit split count e.fate) l.entries
      → AreResults l.bank l.table split count (lines_of_entries (take l.entry-index l.entries)) l.results;
}
