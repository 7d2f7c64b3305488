-- Redexes: places of a clause that an equation rewrites (Knuth and Bendix 1970), stated on the terms alone.
use Rattle.std.specs.Prelude.{◌≡◌, ℕ, Bool, true, false, ◌&&◌, List, [], ◌∷◌, slice_get, Option, None, Some, IsTrue, if◌then◌else◌}
use Rattle.fol_base.specs.Tree.{Tree, is_variable, is_truth}
use Rattle.fol_base.specs.Instance.{Substitution, instance}
use Rattle.fol_base.specs.Place.{subterm}
use Rattle.fol_base.specs.Clause.{TreeLiteral, TreeClause}
use Rattle.fol_base.specs.Order.{tree_greater}
use Rattle.fol_base.specs.Sides.{side_of, other_side_of}
use Rattle.fol_base.specs.Unifier.{IsMatcher}
use Rattle.fol_base.specs.declared.clause.Side.{Side}
use Rattle.rewriting.specs.Units.{has_other_variables}

-- A place is at the root of a side of an atom, or it isn't; and what is put there has to be below a term, where one is told.
pub record Spot : Type 0 where
  pub is_atom : Bool
  pub limit : Option Tree

-- below the root
abbrev pub inner : Spot
inner = record { is_atom = false; limit = None }

-- at a place of a term that stands at a spot
abbrev pub spot_at : Spot → List ℕ → Spot
spot_at spot [] = spot
spot_at spot (i ∷ place) = inner

-- at the root of a side of a literal: what is put at a side of an equation has to be below the other side
abbrev pub root_spot : Side → TreeLiteral → Spot
root_spot side l = record { is_atom = is_truth l.right; limit = if l.positive then Some (other_side_of side l) else None }

abbrev pub is_within : Option Tree → Tree → Bool
is_within None new = true
is_within (Some limit) new = tree_greater limit new

-- A substitution turns a side of an equation into a term, and the other side into a smaller one, without variables of its own. A
-- variable is no atom's side.
pub record IsRedex (e : TreeLiteral) (s : Side) (spot : Spot) (old : Tree) (σ : Substitution) : Type 0 where
  pub matches : IsMatcher (side_of s e) old σ
  pub no_atom : (is_variable (side_of s e) && spot.is_atom) ≡ false
  pub no_new_variables : IsTrue (has_other_variables s e)
  pub greater : IsTrue (tree_greater old (instance σ (other_side_of s e)))
  pub within : IsTrue (is_within spot.limit (instance σ (other_side_of s e)))

-- some unit, looked up by its number, has a redex in the subterm: its one literal is an equation
pub record HasRedex (clauses : ℕ → Option TreeClause) (spot : Spot) (old : Tree) : Type 0 where
  pub number : ℕ
  pub unit : TreeClause
  pub there : clauses number ≡ Some unit
  pub equation : TreeLiteral
  pub alone : unit.literals ≡ equation ∷ []
  pub positive : IsTrue equation.positive
  pub side : Side
  pub matcher : Substitution
  pub redex : IsRedex equation side spot old matcher

-- no unit has one at any place of a term
abbrev pub IsNormal : (ℕ → Option TreeClause) → Spot → Tree → Type 0
IsNormal clauses spot t = (place : List ℕ) (old : Tree) → subterm place t ≡ Some old → HasRedex clauses (spot_at spot place) old → ⊥

-- nor at any place of a literal
abbrev pub IsNormalLiteral : (ℕ → Option TreeClause) → TreeLiteral → Type 0
IsNormalLiteral clauses l = (side : Side) → IsNormal clauses (root_spot side l) (side_of side l)

-- nor of a clause
abbrev pub AreNormal : (ℕ → Option TreeClause) → List TreeLiteral → Type 0
AreNormal clauses ls = (j : ℕ) (l : TreeLiteral) → slice_get ls j ≡ Some l → IsNormalLiteral clauses l
