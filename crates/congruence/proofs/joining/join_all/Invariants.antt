use Rattle.congruence.specs.Joined.{AreSound}
use Rattle.congruence.proofs.joining.join_all.Given as goal

abbrev pub invariant-loop-number : goal.invariant-loop-number
invariant-loop-number l = AreSound l.problem.nodes.now l.problem.equations.now l.joining.classes.items

abbrev pub invariant-loop-index : goal.invariant-loop-index
invariant-loop-index l = AreSound l.problem.nodes.now l.problem.equations.now l.joining.classes.items
