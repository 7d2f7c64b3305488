-- The substitution that cells stand for, by the places of the variables.
use Rattle.std.specs.Prelude.{◌≡◌, ℕ, Bool, List, [], ◌∷◌, ◌++◌, map, Option, None, Some, slice_index_or}
use Rattle.fol_base.specs.Tree.{Tree, variable, no_trees}
use Rattle.fol_base.specs.Instance.{Substitution, instance}
use Rattle.unifier.specs.declared.cells.Cell.{Cell}
use Rattle.unifier.specs.declared.layout.Layout.{Layout}
use Rattle.unifier.specs.declared.layout.Place.{Place}
use Rattle.unifier.specs.declared.solution.Solution.{Solution}
use Rattle.unifier.specs.SolvedForm.{SolvedForm}
use Rattle.unifier.specs.Cells.{Value, trees, as_tree, value_of, IsValuation}
use Rattle.unifier.specs.Layout.{cell_of, all_pass}

-- the value at a place of a list
abbrev pub value_in : List Value → ℕ → Value
value_in vs i = slice_index_or vs i (trees no_trees)

-- the values of cells, one after another
abbrev pub values_after : Substitution → List Value → List Cell → List Value
values_after θ vs [] = vs
values_after θ vs (c ∷ cs) = values_after θ (vs ++ value_of θ (value_in vs) c ∷ []) cs

-- the value of a cell
abbrev pub value_at : Substitution → List Cell → ℕ → Value
value_at θ cells = value_in (values_after θ [] cells)

-- what stands for a variable of both sides: the tree of its cell, and itself where it has none
abbrev pub bound : List Cell → Option ℕ → ℕ → Tree
bound cells None w = variable w
bound cells (Some k) w = as_tree (value_at variable cells k)

abbrev pub joint_by : List Cell → List Place → Substitution
joint_by cells places w = bound cells (cell_of w places) w

-- a place's variable and its tree
abbrev pub pair_at : List Cell → Place → ℕ × Tree
pair_at cells p = (p.code, as_tree (value_at variable cells p.cell))

-- what the cells and places say
abbrev pub solved_form : Solution → SolvedForm
solved_form s = record { apart = s.apart; pairs = map (pair_at s.cells.items) s.places.items }

-- no substitution gives the two cells one value
abbrev pub CannotMeet : List Cell → ℕ → ℕ → Type 0
CannotMeet cells first second = (θ : Substitution) (val : ℕ → Value) → IsValuation θ cells val → val first ≡ val second → ⊥

-- the substitution gives the two cells one value, and every substitution that does is itself after it
pub record Meets (cells : List Cell) (first : ℕ) (second : ℕ) (σ : Substitution) : Type 0 where
  pub val : ℕ → Value
  pub valuation : IsValuation σ cells val
  pub same : val first ≡ val second
  pub general :
      (θ : Substitution) (other : ℕ → Value) → IsValuation θ cells other → other first ≡ other second
      → (w : ℕ) → θ w ≡ instance θ (σ w)

-- the bindings found, with the sides apart or not; the variables that have places are those laid out
abbrev pub IsMeeting : Layout → Bool → ℕ → ℕ → Solution → Type 0
IsMeeting layout apart first second b =
    (b.apart ≡ apart)
    × Meets layout.cells.items first second (joint_by b.cells.items b.places.items)
    × ((test : ℕ → Bool) → all_pass test b.places.items ≡ all_pass test layout.places.items)
