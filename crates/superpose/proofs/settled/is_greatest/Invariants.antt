use Rattle.fol_base.specs.Lent.{lent_of}
use Rattle.superpose.proofs.AboutSites.SettledLemmas.{IsGreaterBelow}
use Rattle.superpose.proofs.settled.is_greatest.Given as goal

abbrev pub invariant-loop-other : goal.invariant-loop-other
invariant-loop-other l = IsGreaterBelow l.literals l.index (lent_of l.literal) l.other
