use Rattle.std.proofs.Common.{length}
use Rattle.unifier.proofs.AboutClasses.ClosingLemmas.{IsFlattening}
use Rattle.unifier.proofs.classes.Classes.flatten.Given as goal

abbrev pub invariant-loop-cell : goal.invariant-loop-cell
invariant-loop-cell l = IsFlattening (length l.initial.self.parents.items) l.initial.self l.self l.cell
