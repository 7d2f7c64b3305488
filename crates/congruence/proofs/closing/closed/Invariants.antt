use Rattle.congruence.specs.Joined.{AreSound}
use Rattle.congruence.proofs.AboutClasses.LoweredLemmas.{total}
use Rattle.congruence.proofs.closing.closed.Given as goal

abbrev pub invariant-gaps : goal.invariant-gaps
invariant-gaps l = AreSound l.nodes l.equations l.classes.items

abbrev pub decreases-gaps : goal.decreases-gaps
decreases-gaps l = total l.classes.items
