use Rattle.unifier.specs.Solution.{solved_form}
use Rattle.unifier.specs.Renaming.{is_shared}
use Rattle.unifier.proofs.AboutLayouts.RankLemmas.{SoFar}
use Rattle.unifier.proofs.solution.Solution.names.Given as goal

abbrev pub invariant-loop-code : goal.invariant-loop-code
invariant-loop-code l = SoFar (is_shared (solved_form l.self) l.left_vars l.right_vars) l.names.items l.next l.code
