-- The canonical form of a clause: its variables are numbered by first occurrence, left side before right.
use Rattle.std.specs.Prelude.{◌≡◌, ℕ, zero, suc, ◌+◌, max, not, ◌==◌, List, [], ◌∷◌, length, Option, None, Some, option_map, unwrap_or, filter, if◌then◌else◌}
use Rattle.fol_base.specs.Tree.{Tree, variable}
use Rattle.fol_base.specs.Instance.{Substitution}
use Rattle.fol_base.specs.Clause.{TreeClause, clause_variables, clause_instance}

-- the different numbers of a list, in the order of their first places
abbrev pub distinct : List ℕ → List ℕ
distinct [] = []
distinct (v ∷ vs) = v ∷ filter (λ w. not (w == v)) (distinct vs)

-- the first place of a number in a list
abbrev pub place_of : ℕ → List ℕ → Option ℕ
place_of v [] = None
place_of v (w ∷ ws) = if v == w then Some 0 else option_map suc (place_of v ws)

-- a variable becomes its place in a list; one that isn't there stands for itself
abbrev pub renaming : List ℕ → Substitution
renaming order v = variable (unwrap_or (place_of v order) v)

-- the renaming of a clause's variables by their first occurrences
abbrev pub canonical_renaming : TreeClause → Substitution
canonical_renaming c = renaming (distinct (clause_variables c))

-- the clause with its variables renumbered 0, 1, 2, .. by first occurrence: p(X5, X2) becomes p(X0, X1)
abbrev pub canonical_clause : TreeClause → TreeClause
canonical_clause c = clause_instance (canonical_renaming c) c

-- n numbers in order: first, first + 1, ..
abbrev pub numbers_from : ℕ → ℕ → List ℕ
numbers_from first zero = []
numbers_from first (suc n) = first ∷ numbers_from (suc first) n

-- the variables are numbered from 0 by first occurrence, without gaps: the different ones are 0, 1, 2 and so on, in this order
abbrev pub IsCanonical : TreeClause → Type 0
IsCanonical c = let order = distinct (clause_variables c) in order ≡ numbers_from 0 (length order)

-- one more than the highest number of a list, 0 for the empty list
abbrev pub bound_of : List ℕ → ℕ
bound_of [] = 0
bound_of (v ∷ vs) = max (v + 1) (bound_of vs)

-- a substitution's terms for n variables, from `first` on
abbrev pub terms_from : ℕ → ℕ → Substitution → List Tree
terms_from first zero σ = []
terms_from first (suc n) σ = σ first ∷ terms_from (suc first) n σ
