-- Features of clauses: numbers that are no greater in a clause than in each clause that it subsumes (Schulz, Simple and efficient clause
-- subsumption with feature vector indexing, 2013).
use mathlib.Core.Bool.{beq}
use Rattle.std.specs.Prelude.{◌≡◌, ℕ, zero, suc, ◌+◌, ◌*◌, ◌/◌, ◌%◌, ◌<◌, ◌≤◌, Bool, true, false, ◌==◌, List, [], ◌∷◌, min, sum_by, slice_index, if◌then◌else◌}
use Rattle.fol_base.specs.Tree.{Tree, variable, application, Trees, no_trees, tree_then}
use Rattle.fol_base.specs.Clause.{TreeLiteral, TreeClause, literal_size}
use Rattle.fol_base.specs.Subsumption.{Subsumes}
use Rattle.subsume.specs.declared.vector.TheConstants.{DIGITS, HUNDREDS_DIGIT, LAST_DIGIT, MEASURES, MOST, TENS_DIGIT}

-- summed up over the literals of a sign
abbrev pub by_sign : Bool → (TreeLiteral → ℕ) → TreeLiteral → ℕ
by_sign positive measure l = if beq l.positive positive then measure l else 0

abbrev pub measured : Bool → (TreeLiteral → ℕ) → List TreeLiteral → ℕ
measured positive measure ls = sum_by (by_sign positive measure) ls

-- the numbers of positive literals and of negative ones, the size of the positive ones and that of the negative ones
abbrev pub clause_features : List TreeLiteral → List ℕ
clause_features ls =
    measured true (λ l. 1) ls ∷ measured false (λ l. 1) ls ∷ measured true literal_size ls ∷ measured false literal_size ls ∷ []

-- each number of the first list is at most the one at its place of the second
abbrev pub AreAtMost : List ℕ → List ℕ → Type 0
AreAtMost [] ns = Unit {0}
AreAtMost (m ∷ ms) [] = ⊥
AreAtMost (m ∷ ms) (n ∷ ns) = (m ≤ n) × AreAtMost ms ns

-- ---- the measures by which an index tells clauses apart

-- so much for each occurrence of a symbol, by its number, and so much for each occurrence of a variable
abbrev mutual
  pub tree_weight : (ℕ → ℕ) → ℕ → Tree → ℕ
  tree_weight weight each (variable v) = each
  tree_weight weight each (application f ts) = weight f + trees_weight weight each ts

  pub trees_weight : (ℕ → ℕ) → ℕ → Trees → ℕ
  trees_weight weight each no_trees = 0
  trees_weight weight each (tree_then t ts) = tree_weight weight each t + trees_weight weight each ts

-- Measure 0 counts literals, measure 1 symbols and variables, and each further one the symbols that have a digit at one of the three last places
-- of their number: so up to a thousand symbols are told apart.
abbrev pub for_digit : ℕ → ℕ → ℕ → ℕ
for_digit first digit k = if k == first + digit then 1 else 0

abbrev pub digit_measure : ℕ → ℕ → ℕ
digit_measure k f =
    for_digit LAST_DIGIT (f % DIGITS) k
    + (for_digit TENS_DIGIT (f / DIGITS % DIGITS) k + for_digit HUNDREDS_DIGIT (f / DIGITS / DIGITS % DIGITS) k)

abbrev pub for_literal : ℕ → ℕ
for_literal zero = 1
for_literal (suc k) = 0

abbrev pub for_symbol : ℕ → ℕ → ℕ
for_symbol zero f = 0
for_symbol (suc zero) f = 1
for_symbol (suc (suc k)) f = digit_measure (suc (suc k)) f

abbrev pub for_variable : ℕ → ℕ
for_variable zero = 0
for_variable (suc zero) = 1
for_variable (suc (suc k)) = 0

abbrev pub tree_measure : ℕ → Tree → ℕ
tree_measure k t = tree_weight (for_symbol k) (for_variable k) t

abbrev pub trees_measure : ℕ → Trees → ℕ
trees_measure k ts = trees_weight (for_symbol k) (for_variable k) ts

abbrev pub literal_measure : ℕ → TreeLiteral → ℕ
literal_measure k l = for_literal k + (tree_measure k l.left + tree_measure k l.right)

-- where the value of a measure over the literals of a sign stands
abbrev pub slot : Bool → ℕ → ℕ
slot positive k = 2 * k + (if positive then 0 else 1)

-- the values, each up to the highest that is told apart
abbrev pub AreFeaturesOf : List TreeLiteral → List ℕ → Type 0
AreFeaturesOf ls values =
    (positive : Bool) (k : ℕ) → k < MEASURES
    → slice_index values (slot positive k) ≡ min (measured positive (literal_measure k) ls) MOST

-- ---- laws

-- where a clause subsumes another, none of its features is greater
abbrev pub NoFeatureGreater : Type 0
NoFeatureGreater =
    (is_predicate : ℕ → Bool) (c d : TreeClause) → Subsumes is_predicate c d
    → AreAtMost (clause_features c.literals) (clause_features d.literals)

-- nor is any measure
abbrev pub NoMeasureGreater : Type 0
NoMeasureGreater =
    (is_predicate : ℕ → Bool) (c d : TreeClause) (positive : Bool) (k : ℕ) → Subsumes is_predicate c d
    → measured positive (literal_measure k) c.literals ≤ measured positive (literal_measure k) d.literals
