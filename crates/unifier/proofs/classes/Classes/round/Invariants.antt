use Rattle.unifier.specs.Classes.{Follows}
use Rattle.unifier.proofs.AboutClasses.ClassLemmas.{RoundSoFar}
use Rattle.unifier.proofs.classes.Classes.round.Given as goal

abbrev pub invariant-loop-cell : goal.invariant-loop-cell
invariant-loop-cell l = record {
  follows : Follows l.cells l.initial.self l.self;
  done : RoundSoFar l.cells l.initial.self l.self l.cell l.joined;
}
