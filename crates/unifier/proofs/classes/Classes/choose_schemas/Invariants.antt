use Rattle.std.proofs.Common.{◌≡◌}
use Rattle.unifier.proofs.AboutClasses.ClosingLemmas.{AreChosen}
use Rattle.unifier.proofs.classes.Classes.choose_schemas.Given as goal

abbrev pub invariant-loop-cell : goal.invariant-loop-cell
invariant-loop-cell l = record {
  same : l.self.parents.items ≡ l.initial.self.parents.items;
  chosen : AreChosen l.cells l.self l.cell;
}
