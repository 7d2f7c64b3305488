use Rattle.std.proofs.Common.{◌≡◌, ℕ, ◌<◌, false, Some}
use Rattle.std.specs.Prelude.{slice_get}
use Rattle.fol_base.specs.Clause.{TreeLiteral}
use Rattle.fol_base.specs.Literal.{clause_of}
use Rattle.fol_base.specs.Order.{equivalent_literals}
use Rattle.unit_cutting.proofs.dropping.find_before.Given as goal

abbrev pub invariant-loop-stays : goal.invariant-loop-stays
invariant-loop-stays l =
    (i : ℕ) (k m : TreeLiteral) → i < l.stays → slice_get (clause_of l.fn.clause).literals i ≡ Some k
    → slice_get (clause_of l.fn.clause).literals l.fn.goes ≡ Some m → equivalent_literals k m ≡ false
