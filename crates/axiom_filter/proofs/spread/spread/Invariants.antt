use Rattle.std.proofs.Common.{[], length, take}
use Rattle.axiom_filter.specs.Tables.{AreBelow, neighbours}
use Rattle.axiom_filter.proofs.AboutTables.SpreadLemmas.{Spread}
use Rattle.axiom_filter.proofs.spread.spread.Given as goal

abbrev pub invariant-loop-number : goal.invariant-loop-number
invariant-loop-number l = record {
  spread : Spread (neighbours l.table (take l.number-index l.from)) l.initial.marks [] l.marks l.found.items;
  below : AreBelow (length l.marks) l.found.items;
}
