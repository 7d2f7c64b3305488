use Rattle.unifier.proofs.AboutClasses.ClassLemmas.{IsIdentity}
use Rattle.unifier.proofs.classes.Classes.new.Given as goal

abbrev pub invariant-loop-cell : goal.invariant-loop-cell
invariant-loop-cell l = IsIdentity l.parents.items l.cell × IsIdentity l.schemas.items l.cell
