-- The Knuth-Bendix order on trees (Knuth and Bendix 1970), with weight 1 for each occurrence of a symbol or a variable and the
-- symbols' numbers as precedence, so that `$true` is lowest; and its extension to literals and clauses (Bachmair and Ganzinger 1994).
use mathlib.Core.Bool.{beq}
use Rattle.std.specs.Prelude.{◌≡◌, ℕ, ◌<◌, ◌≤◌, Bool, false, ◌&&◌, ◌||◌, ◌==◌, nat_lt, nat_le, if◌then◌else◌, List, [], ◌∷◌, ◌⊎◌, IsTrue}
use Rattle.std.specs.Bool.{Decides}
use Rattle.std.specs.Cmp.{IsEquivalence}
use Rattle.std.specs.List.{list_all}
use Rattle.fol_base.specs.Tree.{Tree, variable, application, Trees, no_trees, tree_then, tree_size, tree_eq, tree_variables}
use Rattle.fol_base.specs.Clause.{TreeLiteral}
use Rattle.fol_base.specs.Ground.{is_ground, GroundClause, is_ground_literal, is_ground_clause}
use Rattle.fol_base.specs.Multiset.{Comparison, compared, times, same_multiset, multiset_greater, MultisetGreater, IsTotalOrderOn}

-- how often a variable occurs
abbrev pub occurrences : ℕ → Tree → ℕ
occurrences v t = times ◌==◌ v (tree_variables t)

-- each variable occurs in s at least as often as in t
abbrev pub has_variables_of : Tree → Tree → Bool
has_variables_of s t = list_all (λ v. nat_le (occurrences v t) (occurrences v s)) (tree_variables t)

-- s exceeds t: the variable condition holds, and s has the greater size, or the sizes are equal and the tie is decided for s
abbrev pub exceeds_by_size : Tree → Tree → Bool → Bool
exceeds_by_size s t tie =
    has_variables_of s t && (nat_lt (tree_size t) (tree_size s) || ((tree_size s == tree_size t) && tie))

-- At equal sizes the higher head decides, and at equal heads the first argument in which the two differ. A variable is greater
-- than nothing, and at its own size nothing is greater than it.
abbrev mutual
  pub tree_greater : Tree → Tree → Bool
  tree_greater (variable v) t = exceeds_by_size (variable v) t false
  tree_greater (application f ts) (variable w) = exceeds_by_size (application f ts) (variable w) false
  tree_greater (application f ts) (application g us) =
      exceeds_by_size (application f ts) (application g us) (nat_lt g f || ((f == g) && trees_greater ts us))

  pub trees_greater : Trees → Trees → Bool
  trees_greater no_trees us = false
  trees_greater (tree_then t ts) no_trees = false
  trees_greater (tree_then t ts) (tree_then u us) = tree_greater t u || (tree_eq t u && trees_greater ts us)

-- two trees compared by the order
abbrev pub compare_trees : Tree → Tree → Comparison
compare_trees s t = compared tree_eq tree_greater s t

-- a positive equation is the multiset of its sides, a negative one has each side twice
abbrev pub sides_multiset : TreeLiteral → List Tree
sides_multiset l =
    if l.positive then (l.left ∷ l.right ∷ []) else (l.left ∷ l.left ∷ l.right ∷ l.right ∷ [])

-- equal signs, and equal sides in either order
abbrev pub equivalent_literals : TreeLiteral → TreeLiteral → Bool
equivalent_literals l m =
    beq l.positive m.positive
    && ((tree_eq l.left m.left && tree_eq l.right m.right) || (tree_eq l.left m.right && tree_eq l.right m.left))

-- the order on literals: the multiset extension of the order on trees, on the multisets of their sides
abbrev pub literal_greater : TreeLiteral → TreeLiteral → Bool
literal_greater l m = multiset_greater tree_eq tree_greater (sides_multiset l) (sides_multiset m)

-- two literals compared by the order
abbrev pub compare_literals : TreeLiteral → TreeLiteral → Comparison
compare_literals l m = compared equivalent_literals literal_greater l m

-- two clauses that are equal as multisets of literals
abbrev pub equivalent_clauses : List TreeLiteral → List TreeLiteral → Bool
equivalent_clauses c d = same_multiset equivalent_literals c d

-- the order on clauses: the multiset extension of the order on literals
abbrev pub clause_greater : List TreeLiteral → List TreeLiteral → Bool
clause_greater c d = multiset_greater equivalent_literals literal_greater c d

-- two clauses compared by the order
abbrev pub compare_clauses : List TreeLiteral → List TreeLiteral → Comparison
compare_clauses c d = compared equivalent_clauses clause_greater c d

-- ---- these tests as types, for proofs

abbrev pub HasVariablesOf : Tree → Tree → Type 0
HasVariablesOf s t = (v : ℕ) → occurrences v t ≤ occurrences v s

abbrev pub ExceedsBySize : Tree → Tree → Type 0 → Type 0
ExceedsBySize s t Tie = HasVariablesOf s t × ((tree_size t < tree_size s) ⊎ ((tree_size s ≡ tree_size t) × Tie))

abbrev mutual
  pub TreeGreater : Tree → Tree → Type 0
  TreeGreater (variable v) t = ExceedsBySize (variable v) t ⊥
  TreeGreater (application f ts) (variable w) = ExceedsBySize (application f ts) (variable w) ⊥
  TreeGreater (application f ts) (application g us) =
      ExceedsBySize (application f ts) (application g us) ((g < f) ⊎ ((f ≡ g) × TreesGreater ts us))

  pub TreesGreater : Trees → Trees → Type 0
  TreesGreater no_trees us = ⊥
  TreesGreater (tree_then t ts) no_trees = ⊥
  TreesGreater (tree_then t ts) (tree_then u us) = TreeGreater t u ⊎ ((t ≡ u) × TreesGreater ts us)

abbrev pub LiteralGreater : TreeLiteral → TreeLiteral → Type 0
LiteralGreater l m = MultisetGreater tree_eq tree_greater (sides_multiset l) (sides_multiset m)

abbrev pub ClauseGreater : List TreeLiteral → List TreeLiteral → Type 0
ClauseGreater c d = MultisetGreater equivalent_literals literal_greater c d

-- ---- laws

-- the test of equality decides it
abbrev pub TreeEqualityDecided : Type 0
TreeEqualityDecided = (t u : Tree) → Decides (tree_eq t u) (t ≡ u)

-- each test agrees with its type
abbrev pub TreeGreaterDecided : Type 0
TreeGreaterDecided = (s t : Tree) → Decides (tree_greater s t) (TreeGreater s t)

abbrev pub LiteralGreaterDecided : Type 0
LiteralGreaterDecided = (l m : TreeLiteral) → Decides (literal_greater l m) (LiteralGreater l m)

abbrev pub ClauseGreaterDecided : Type 0
ClauseGreaterDecided = (c d : List TreeLiteral) → Decides (clause_greater c d) (ClauseGreater c d)

-- to be equal in the order is an equivalence of trees, of literals and of clauses
abbrev pub TreesEquivalence : Type 0
TreesEquivalence = IsEquivalence tree_eq

abbrev pub LiteralsEquivalence : Type 0
LiteralsEquivalence = IsEquivalence equivalent_literals

abbrev pub ClausesEquivalence : Type 0
ClausesEquivalence = IsEquivalence equivalent_clauses

-- clauses are equal in the order exactly where each literal, listed or not, stands in both equally often
abbrev pub ClausesCounted : Type 0
ClausesCounted =
    (c d : List TreeLiteral)
    → Decides (equivalent_clauses c d) ((l : TreeLiteral) → times equivalent_literals l c ≡ times equivalent_literals l d)

-- the order is total on ground trees, literals and clauses
abbrev pub TreesTotallyOrdered : Type 0
TreesTotallyOrdered = IsTotalOrderOn tree_eq tree_greater (λ t. IsTrue (is_ground t))

abbrev pub LiteralsTotallyOrdered : Type 0
LiteralsTotallyOrdered = IsTotalOrderOn equivalent_literals literal_greater (λ l. IsTrue (is_ground_literal l))

abbrev pub ClausesTotallyOrdered : Type 0
ClausesTotallyOrdered = IsTotalOrderOn equivalent_clauses clause_greater (λ c. IsTrue (is_ground_clause c))

-- "not greater" is transitive on ground clauses
abbrev pub NotGreaterIsTransitive : Type 0
NotGreaterIsTransitive =
    (b c d : GroundClause)
    → IsTrue (is_ground_clause b) → IsTrue (is_ground_clause c) → IsTrue (is_ground_clause d)
    → clause_greater b c ≡ false → clause_greater c d ≡ false → clause_greater b d ≡ false
