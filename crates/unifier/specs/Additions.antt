-- Laws of unifiers and matchers: they add no symbols and no variables beyond those of the terms.
use Rattle.std.specs.Prelude.{◌≡◌, ℕ, Bool, false, ◌&&◌, ◌||◌, ◌==◌, List, Some, IsTrue}
use Rattle.std.specs.List.{AllByRecursion, list_any}
use Rattle.fol_base.specs.Tree.{Tree, variable, application, Trees, no_trees, tree_then, trees_count}
use Rattle.fol_base.specs.Instance.{Substitution}
use Rattle.fol_base.specs.Place.{subterm}
use Rattle.fol_base.specs.Unifier.{IsMatcher, IsMostGeneralUnifier, IsMostGeneralUnifierApart}
use Rattle.fol_base.specs.declared.clause.Side.{Side}
use Rattle.unifier.specs.SolvedForm.{SolvedForm, code_of, codes_of, substitution_of}
use Rattle.unifier.specs.Bindings.{IsUnified, LeavesOthers, occurs}
use Rattle.unifier.specs.Matching.{IsMatched, NoVariableTwice}

-- whether the symbol f stands somewhere in the tree with n arguments
abbrev mutual
  pub stands : ℕ → ℕ → Tree → Bool
  stands f n (variable v) = false
  stands f n (application g ts) = ((f == g) && (n == trees_count ts)) || stands_in_any f n ts

  pub stands_in_any : ℕ → ℕ → Trees → Bool
  stands_in_any f n no_trees = false
  stands_in_any f n (tree_then t ts) = stands f n t || stands_in_any f n ts

-- a variable of the two terms, by its number among the variables of both sides
abbrev pub is_variable_of : Bool → Tree → Tree → ℕ → Bool
is_variable_of apart s t w = list_any (λ u. u == w) (codes_of apart s t)

-- a subterm, the whole tree being one
abbrev pub IsSubtermOf : Tree → Tree → Type 0
IsSubtermOf u t = (place : List ℕ) × (subterm place t ≡ Some u)

-- ---- unifiers

-- each symbol that a most general unifier puts in stands in one of the two terms
abbrev pub UnifiersAddNoSymbols : Type 0
UnifiersAddNoSymbols =
    (s t : Tree) (σ : Substitution) → IsMostGeneralUnifier s t σ
    → (v f n : ℕ) → IsTrue (stands f n (σ v)) → IsTrue (stands f n s || stands f n t)

-- so with the sides apart
abbrev pub UnifiersApartAddNoSymbols : Type 0
UnifiersApartAddNoSymbols =
    (s t : Tree) (σ τ : Substitution) → IsMostGeneralUnifierApart s t σ τ
    → (v f n : ℕ) → IsTrue (stands f n (σ v) || stands f n (τ v)) → IsTrue (stands f n s || stands f n t)

-- Each variable of what `unify` puts in for a variable of the two terms is one of theirs. It is so since the others stand for
-- themselves: a most general unifier of any kind may call the variables what it likes.
abbrev pub UnifiersAddNoVariables : Type 0
UnifiersAddNoVariables =
    (apart : Bool) (s t : Tree) (b : SolvedForm) → IsUnified apart s t (Some b) → LeavesOthers apart s t b
    → (side : Side) (v w : ℕ)
    → IsTrue (is_variable_of apart s t (code_of apart side v)) → IsTrue (occurs w (substitution_of b side v))
    → IsTrue (is_variable_of apart s t w)

-- ---- matchers

-- what a matcher puts in for a variable of the pattern is a subterm of the target
abbrev pub MatchersPutSubterms : Type 0
MatchersPutSubterms =
    (pattern target : Tree) (σ : Substitution) → IsMatcher pattern target σ
    → (v : ℕ) → IsTrue (occurs v pattern) → IsSubtermOf (σ v) target

-- so is the term of each pair that `match_onto` and `extend` add
abbrev pub FurtherTermsAreSubterms : Type 0
FurtherTermsAreSubterms =
    (so_far : List (ℕ × Tree)) (pattern target : Tree) (found : List (ℕ × Tree)) (matched : IsMatched so_far pattern target found)
    → NoVariableTwice found → AllByRecursion (λ (p : ℕ × Tree). IsSubtermOf p.1 target) matched.further

-- and a subterm has no symbols and no variables but those of the tree
abbrev pub SubtermsAddNothing : Type 0
SubtermsAddNothing =
    (u t : Tree) → IsSubtermOf u t
    → ((f n : ℕ) → IsTrue (stands f n u) → IsTrue (stands f n t)) × ((w : ℕ) → IsTrue (occurs w u) → IsTrue (occurs w t))
