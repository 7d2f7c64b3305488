-- Matchers that have given pairs, each a variable and its term.
use Rattle.std.specs.Prelude.{◌≡◌, ◌↔◌, ℕ, Bool, true, false, ◌==◌, nat_lt, List, [], ◌∷◌, ◌++◌, map, Option, None, Some, unwrap_or, if◌then◌else◌, ⊤}
use Rattle.std.specs.List.{AllByRecursion, list_all, list_any}
use Rattle.fol_base.specs.Tree.{Tree, variable, tree_variables}
use Rattle.fol_base.specs.Instance.{Substitution}
use Rattle.fol_base.specs.Unifier.{IsMatcher}

-- the variables that have a pair
abbrev pub variables_of : List (ℕ × Tree) → List ℕ
variables_of pairs = map (λ (p : ℕ × Tree). p.0) pairs

-- the term of the variable's first pair
abbrev pub term_for : ℕ → List (ℕ × Tree) → Option Tree
term_for v [] = None
term_for v (p ∷ ps) = if v == p.0 then Some p.1 else term_for v ps

-- the substitution of the pairs: a variable without one stands for itself
abbrev pub by_pairs : List (ℕ × Tree) → Substitution
by_pairs pairs v = unwrap_or (term_for v pairs) (variable v)

-- each variable that has a pair has a number below n
abbrev pub are_below : ℕ → List (ℕ × Tree) → Bool
are_below n pairs = list_all (λ (p : ℕ × Tree). nat_lt p.0 n) pairs

-- no variable has two pairs
abbrev pub NoVariableTwice : List (ℕ × Tree) → Type 0
NoVariableTwice [] = ⊤
NoVariableTwice (p ∷ ps) = (term_for p.0 ps ≡ None) × NoVariableTwice ps

-- the substitution has all pairs
abbrev pub HasPairs : List (ℕ × Tree) → Substitution → Type 0
HasPairs pairs σ = AllByRecursion (λ (p : ℕ × Tree). σ p.0 ≡ p.1) pairs

-- the numbers of the first list, and after them each further one of the second, in the order of first places
abbrev pub with_further : List ℕ → List ℕ → List ℕ
with_further vs [] = vs
with_further vs (w ∷ ws) = with_further (if list_any (λ v. w == v) vs then vs else vs ++ w ∷ []) ws

-- what was found: the pairs handed in and then one for each further variable of the pattern, and a substitution has them
-- exactly where it has those handed in and turns the pattern into the target
pub record IsMatched (so_far : List (ℕ × Tree)) (pattern : Tree) (target : Tree) (found : List (ℕ × Tree)) : Type 0 where
  pub further : List (ℕ × Tree)
  pub extends : found ≡ so_far ++ further
  pub covers : variables_of found ≡ with_further (variables_of so_far) (tree_variables pattern)
  pub exact : (σ : Substitution) → HasPairs found σ ↔ (HasPairs so_far σ × IsMatcher pattern target σ)

-- no substitution has the pairs handed in and turns the pattern into the target
abbrev pub NoMatcher : List (ℕ × Tree) → Tree → Tree → Type 0
NoMatcher so_far pattern target = (σ : Substitution) → HasPairs so_far σ → IsMatcher pattern target σ → ⊥

-- what `extend` answers: true with the matcher that was found, or false, where there is none, and the pairs are as before
abbrev pub IsExtended : List (ℕ × Tree) → Tree → Tree → List (ℕ × Tree) → Bool → Type 0
IsExtended so_far pattern target found true = IsMatched so_far pattern target found
IsExtended so_far pattern target found false = NoMatcher so_far pattern target × (found ≡ so_far)
