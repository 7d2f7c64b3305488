use Rattle.congruence.proofs.AboutClasses.FirstLemmas.{FirstsSoFar}
use Rattle.congruence.proofs.gaps.open_nodes.Given as goal

abbrev pub invariant-loop-number : goal.invariant-loop-number
invariant-loop-number l = FirstsSoFar l.nodes l.classes l.number l.signatures l.firsts.items
