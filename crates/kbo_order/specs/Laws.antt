-- Laws of the order.
use Rattle.std.specs.Prelude.{◌≡◌, ℕ, ◌≤◌, ◌⊎◌, Bool, Some, List, [], slice_get, slice_set, IsTrue, IsFalse}
use Rattle.fol_base.specs.Tree.{Tree, tree_eq}
use Rattle.fol_base.specs.Instance.{Substitution, instance}
use Rattle.fol_base.specs.Place.{subterm, replaced}
use Rattle.fol_base.specs.Clause.{TreeLiteral, literal_instance}
use Rattle.fol_base.specs.Sides.{side_of, with_side}
use Rattle.fol_base.specs.declared.clause.Side.{Side}
use Rattle.fol_base.specs.Ground.{is_ground, is_ground_literal, is_ground_clause, literals_instance}
use Rattle.fol_base.specs.Multiset.{unordered, times}
use Rattle.fol_base.specs.Order.{tree_greater, compare_trees, equivalent_literals, literal_greater, compare_literals, equivalent_clauses, clause_greater, compare_clauses}
use Rattle.kbo_order.specs.StrictOrder.{IsStrictOrder}

-- the order is irreflexive and transitive on all trees, literals and clauses
abbrev pub TreesOrdered : Type 0
TreesOrdered = IsStrictOrder tree_eq tree_greater

abbrev pub LiteralsOrdered : Type 0
LiteralsOrdered = IsStrictOrder equivalent_literals literal_greater

abbrev pub ClausesOrdered : Type 0
ClausesOrdered = IsStrictOrder equivalent_clauses clause_greater

-- greater is kept by every substitution
abbrev pub TreesStable : Type 0
TreesStable = (σ : Substitution) (s t : Tree) → IsTrue (tree_greater s t) → IsTrue (tree_greater (instance σ s) (instance σ t))

abbrev pub LiteralsStable : Type 0
LiteralsStable =
    (σ : Substitution) (l m : TreeLiteral)
    → IsTrue (literal_greater l m) → IsTrue (literal_greater (literal_instance σ l) (literal_instance σ m))

abbrev pub ClausesStable : Type 0
ClausesStable =
    (σ : Substitution) (c d : List TreeLiteral)
    → IsTrue (clause_greater c d) → IsTrue (clause_greater (literals_instance σ c) (literals_instance σ d))

-- a proper subterm is smaller
abbrev pub ProperSubtermsAreSmaller : Type 0
ProperSubtermsAreSmaller =
    (place : List ℕ) (t u : Tree) → (place ≡ [] → ⊥) → subterm place t ≡ Some u → IsTrue (tree_greater t u)

-- a smaller subterm makes the term smaller
abbrev pub SmallerSubtermsMakeSmaller : Type 0
SmallerSubtermsMakeSmaller =
    (place : List ℕ) (t old new made : Tree)
    → subterm place t ≡ Some old → replaced place new t ≡ Some made → IsTrue (tree_greater old new) → IsTrue (tree_greater t made)

-- a smaller side makes a smaller literal
abbrev pub SmallerSidesMakeSmaller : Type 0
SmallerSidesMakeSmaller =
    (side : Side) (l : TreeLiteral) (t : Tree)
    → IsTrue (tree_greater (side_of side l) t) → IsTrue (literal_greater l (with_side side t l))

-- a smaller literal makes a smaller clause
abbrev pub SmallerLiteralsMakeSmaller : Type 0
SmallerLiteralsMakeSmaller =
    (c : List TreeLiteral) (i : ℕ) (l m : TreeLiteral)
    → slice_get c i ≡ Some l → IsTrue (literal_greater l m) → IsTrue (clause_greater c (slice_set c i m))

-- a clause is part of another where no literal stands in it more often, sides in either order
abbrev pub IsPartOf : List TreeLiteral → List TreeLiteral → Type 0
IsPartOf c d = (l : TreeLiteral) → times equivalent_literals l c ≤ times equivalent_literals l d

-- a part of a clause isn't greater than the whole
abbrev pub PartsAreNotGreater : Type 0
PartsAreNotGreater = (c d : List TreeLiteral) → IsPartOf c d → IsFalse (clause_greater c d)

-- a part that isn't the whole is smaller
abbrev pub ProperPartsAreSmaller : Type 0
ProperPartsAreSmaller =
    (c d : List TreeLiteral) → IsPartOf c d → IsFalse (equivalent_clauses c d) → IsTrue (clause_greater d c)

-- of two ground trees that differ, or two ground literals or clauses that aren't equal for the order, one is greater
abbrev pub GroundTreesCompare : Type 0
GroundTreesCompare = (s t : Tree) → IsTrue (is_ground s) → IsTrue (is_ground t) → compare_trees s t ≡ unordered → ⊥

abbrev pub GroundLiteralsCompare : Type 0
GroundLiteralsCompare =
    (l m : TreeLiteral) → IsTrue (is_ground_literal l) → IsTrue (is_ground_literal m) → compare_literals l m ≡ unordered → ⊥

abbrev pub GroundClausesCompare : Type 0
GroundClausesCompare =
    (c d : List TreeLiteral) → IsTrue (is_ground_clause c) → IsTrue (is_ground_clause d) → compare_clauses c d ≡ unordered → ⊥

-- "not greater" is a total preorder on the elements within
pub record IsTotalPreorderOn {X : Type 0} (exceeds : X → X → Bool) (Within : X → Type 0) : Type 0 where
  pub is_transitive :
      (x y z : X) → Within x → Within y → Within z → IsFalse (exceeds x y) → IsFalse (exceeds y z) → IsFalse (exceeds x z)
  pub is_total : (x y : X) → Within x → Within y → IsFalse (exceeds x y) ⊎ IsFalse (exceeds y x)

abbrev pub GroundLiteralsPreordered : Type 0
GroundLiteralsPreordered = IsTotalPreorderOn literal_greater (λ l. IsTrue (is_ground_literal l))

abbrev pub GroundClausesPreordered : Type 0
GroundClausesPreordered = IsTotalPreorderOn clause_greater (λ c. IsTrue (is_ground_clause c))
