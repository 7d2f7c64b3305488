use Rattle.std.proofs.Common.{◌≡◌, ℕ, ◌<◌, Some}
use Rattle.std.specs.Prelude.{slice_get}
use Rattle.fol_base.specs.Clause.{TreeLiteral}
use Rattle.fol_base.specs.Lent.{lent_of}
use Rattle.unit_cutting.specs.Cutting.{FitsNot}
use Rattle.unit_cutting.proofs.cutting.find_cut.Given as goal

abbrev pub invariant-loop-index : goal.invariant-loop-index
invariant-loop-index g l =
    (j : ℕ) (k : TreeLiteral) → j < l.index → slice_get (g.L.LendsLiterals.meaning l.fn.literals) j ≡ Some k → FitsNot (lent_of l.fn.wanted) k
