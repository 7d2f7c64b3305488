use Rattle.std.proofs.Common.{◌≡◌, map}
use Rattle.fol_base.specs.Term.{tree_of}
use Rattle.unifier.specs.Solution.{solved_form}
use Rattle.unifier.specs.Renaming.{side_terms}
use Rattle.unifier.proofs.solution.Solution.side.Given as goal

abbrev pub invariant-loop-variable : goal.invariant-loop-variable
invariant-loop-variable g l = map tree_of l.items.items ≡ side_terms (solved_form l.self) (g.N.Naming.meaning l.names) l.side l.variable
