use Rattle.std.proofs.Common.{map, take}
use Rattle.fol_base.specs.Lent.{lent_of}
use Rattle.subsume.specs.Choosing.{AreNoPartners}
use Rattle.subsume.proofs.choosing.has_partner.Given as goal

abbrev pub invariant-loop-target : goal.invariant-loop-target
invariant-loop-target l = AreNoPartners l.so_far (lent_of l.literal) (map lent_of (take l.target-index l.targets))
