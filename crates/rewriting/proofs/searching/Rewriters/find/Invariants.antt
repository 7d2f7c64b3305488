use Rattle.std.proofs.Common.{ℕ, ◌≡◌, ◌<◌}
use Rattle.std.specs.Prelude.{Some, slice_get}
use Rattle.fol_base.specs.Clause.{TreeLiteral}
use Rattle.rewriting.specs.Redex.{IsNormalLiteral}
use Rattle.rewriting.specs.NormalTerms.{RemembersNormal}
use Rattle.rewriting.specs.Searching.{usable_by}
use Rattle.rewriting.proofs.searching.Rewriters.find.Given as goal

abbrev pub invariant-loop-index : goal.invariant-loop-index
invariant-loop-index g l = record {
  normal :
      (j : ℕ) (k : TreeLiteral) → j < l.index → slice_get (g.L.LendsLiterals.meaning l.literals) j ≡ Some k → IsNormalLiteral (usable_by l.self) k;
  remembers : RemembersNormal (usable_by l.self) l.normal;
}
