-- Reducing steps one after another, with the numbers of the clauses by which they are made.
use Rattle.std.specs.Prelude.{◌≡◌, ◌⊎◌, ℕ, Bool, List, [], ◌∷◌, filter_map, Option, None, Some}
use Rattle.fol_base.specs.Clause.{TreeClause}
use Rattle.fol_base.specs.Canonical.{canonical_clause}
use Rattle.kernel_steps.specs.Named.{OfOne}
use Rattle.kernel_steps.specs.Inference.{DropsTrivial, MergesEqual, RewritesBy, CutsBy}

-- a reducing step: the number of the unit by which it is made, if it needs one, and the clause that it gives
pub record Move : Type 0 where
  pub by : Option ℕ
  pub gives : TreeClause

-- A literal `t != t` goes, equal literals are merged, or the unit rewrites or cuts. That its assertions are among those of the clause is part
-- of rewriting and cutting.
abbrev pub IsMove : (ℕ → Bool) → (ℕ → Option TreeClause) → TreeClause → Option ℕ → TreeClause → Type 0
IsMove is_predicate clauses c None d = DropsTrivial c d ⊎ MergesEqual c d
IsMove is_predicate clauses c (Some n) d = OfOne clauses n (λ unit. RewritesBy is_predicate unit c d ⊎ CutsBy is_predicate unit c d)

-- the move is a reducing step of c, and gives the canonical form of its result
pub record MovesTo (is_predicate : ℕ → Bool) (clauses : ℕ → Option TreeClause) (c : TreeClause) (m : Move) : Type 0 where
  pub result : TreeClause
  pub step : IsMove is_predicate clauses c m.by result
  pub canonical : m.gives ≡ canonical_clause result

-- each move is one of the clause that the move before it gives; the first is one of c
abbrev pub AreMoves : (ℕ → Bool) → (ℕ → Option TreeClause) → TreeClause → List Move → Type 0
AreMoves is_predicate clauses c [] = Unit {0}
AreMoves is_predicate clauses c (m ∷ ms) = MovesTo is_predicate clauses c m × AreMoves is_predicate clauses m.gives ms

-- the clause that the last move gives
abbrev pub end_of_moves : TreeClause → List Move → TreeClause
end_of_moves c [] = c
end_of_moves c (m ∷ ms) = end_of_moves m.gives ms

-- the numbers of the units by which the moves are made
abbrev pub units_of : List Move → List ℕ
units_of ms = filter_map (λ (m : Move). m.by) ms
