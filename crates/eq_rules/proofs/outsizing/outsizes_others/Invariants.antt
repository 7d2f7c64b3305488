use Rattle.unifier.specs.SolvedForm.{substitution_of}
use Rattle.eq_rules.proofs.AboutConclusions.OutsizeLemmas.{OutsizesBelow}
use Rattle.eq_rules.proofs.outsizing.outsizes_others.Given as goal

abbrev pub invariant-loop-other : goal.invariant-loop-other
invariant-loop-other g l =
    OutsizesBelow (substitution_of l.unifier l.of) (g.L.LendsLiterals.meaning l.literals) l.index l.but l.other l.size
