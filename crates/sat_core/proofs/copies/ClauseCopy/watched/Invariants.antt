use Rattle.std.proofs.Common.{◌∷◌, get_or, take}
use Rattle.sat_core.specs.State.{SameLiterals}
use Rattle.sat_core.proofs.AboutConflicts.AnalysisLemmas.{no_literal}
use Rattle.sat_core.proofs.copies.ClauseCopy.watched.Given as goal

abbrev pub invariant-loop-index : goal.invariant-loop-index
invariant-loop-index l =
    SameLiterals l.copy.items (get_or l.literals l.first no_literal ∷ get_or l.literals l.second no_literal ∷ take l.index l.literals)
