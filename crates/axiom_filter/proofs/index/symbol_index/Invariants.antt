use Rattle.std.proofs.Common.{take}
use Rattle.axiom_filter.proofs.AboutTables.IndexLemmas.{IsIndex}
use Rattle.axiom_filter.proofs.index.symbol_index.Given as goal

abbrev pub invariant-loop-place : goal.invariant-loop-place
invariant-loop-place l = IsIndex l.symbols (take l.place l.rows) l.index.items
