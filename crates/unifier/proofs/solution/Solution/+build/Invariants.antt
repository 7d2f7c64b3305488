use Rattle.unifier.proofs.AboutLayouts.RenameLemmas.{Building}
use Rattle.unifier.proofs.solution.Solution.+build.Given as goal

abbrev pub decreases-term_at : goal.decreases-term_at
decreases-term_at g l = l.cell

abbrev pub decreases-terms_at : goal.decreases-terms_at
decreases-terms_at g l = l.list

abbrev pub invariant-terms_at-loop-first : goal.invariant-terms_at-loop-first
invariant-terms_at-loop-first g l = Building l.self.cells.items (g.N.Naming.meaning l.names) l.items.items l.at l.list

abbrev pub decreases-terms_at-loop-first : goal.decreases-terms_at-loop-first
decreases-terms_at-loop-first g l = l.at
