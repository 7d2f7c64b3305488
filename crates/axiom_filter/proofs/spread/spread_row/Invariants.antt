use Rattle.std.proofs.Common.{length, take}
use Rattle.axiom_filter.specs.Tables.{AreBelow}
use Rattle.axiom_filter.proofs.AboutTables.SpreadLemmas.{Spread}
use Rattle.axiom_filter.proofs.spread.spread_row.Given as goal

abbrev pub invariant-loop-number : goal.invariant-loop-number
invariant-loop-number l = record {
  spread : Spread (take l.number-index l.row) l.initial.marks l.initial.found.items l.marks l.found.items;
  below : AreBelow (length l.marks) l.found.items;
}
