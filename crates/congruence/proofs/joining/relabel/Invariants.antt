use Rattle.congruence.specs.Joined.{AreRelabelled}
use Rattle.congruence.proofs.joining.relabel.Given as goal

abbrev pub invariant-loop-member : goal.invariant-loop-member
invariant-loop-member l = AreRelabelled l.from l.to l.initial.classes.items l.classes.items
