use Rattle.congruence.specs.Joined.{AreSound}
use Rattle.congruence.proofs.joining.Joining.settle.Given as goal

abbrev pub invariant-pairs : goal.invariant-pairs
invariant-pairs l = AreSound l.problem.nodes.now l.problem.equations.now l.self.classes.items
