use Rattle.std.proofs.Common.{◌≡◌, map, take}
use Rattle.fol_base.specs.Lent.{lent_of}
use Rattle.subsume.proofs.target.lent_literals.Given as goal

abbrev pub invariant-loop-index : goal.invariant-loop-index
invariant-loop-index g l = map lent_of l.lent.items ≡ take l.index (g.L.LendsLiterals.meaning l.lender)
