-- Cells laid out for what variables are equal to, in which no bound variable is left.
use Rattle.std.specs.Prelude.{◌≡◌, ℕ, ◌<◌, Bool, true, false, List, [], ◌∷◌, ◌++◌, Some, length, map}
use Rattle.std.specs.List.{list_all}
use Rattle.fol_base.specs.Tree.{Trees}
use Rattle.fol_base.specs.Instance.{Substitution, instances}
use Rattle.fol_base.specs.declared.clause.Side.{Side}
use Rattle.unifier.specs.declared.cells.Cell.{Cell}
use Rattle.unifier.specs.declared.cells.Cell.TheVariants.{Variable}
use Rattle.unifier.specs.declared.layout.Place.{Place}
use Rattle.unifier.specs.declared.layout.Layout.{Layout}
use Rattle.unifier.specs.declared.equation.Equation.{Equation}
use Rattle.unifier.specs.declared.equation.Equations.{Equations}
use Rattle.unifier.specs.SolvedForm.{of_side}
use Rattle.unifier.specs.Cells.{Value, tree, trees, cell_at, is_list, AreOrdered, AreKinded, IsValuation}
use Rattle.unifier.specs.Layout.{cell_of, has_place, all_pass}
use Rattle.unifier.specs.Equations.{Item, ItemPasses, item_under, equations_of, bound_in, Solves, EquationsPass}
use Rattle.unifier.specs.Agreeing.{ItemsPass}

-- the variables' cells have these trees
abbrev pub PlacesAgree : Substitution → (ℕ → Value) → List Place → Type 0
PlacesAgree f val ps = (w k : ℕ) → cell_of w ps ≡ Some k → val k ≡ tree (f w)

-- the cells are in order, the variables' cells have the trees that the equations give them, and what a variable with a cell is bound to
-- has variables with cells
pub record IsResolving (apart : Bool) (es : Equations) (l : Layout) : Type 0 where
  pub ordered : AreOrdered l.cells.items
  pub kinded : AreKinded l.cells.items
  pub terms : (w k : ℕ) → cell_of w l.places.items ≡ Some k → (k < length l.cells.items) × (is_list (cell_at l.cells.items k) ≡ false)
  pub own : (k w : ℕ) → k < length l.cells.items → cell_at l.cells.items k ≡ Variable w → cell_of w l.places.items ≡ Some k
  pub solves :
      (f θ : Substitution) (val : ℕ → Value) → IsValuation θ l.cells.items val → PlacesAgree f val l.places.items
      → (w k : ℕ) (a : Item) → cell_of w l.places.items ≡ Some k → bound_in es w ≡ Some a → f w ≡ item_under apart f a
  pub closed :
      (w k : ℕ) (a : Item) → cell_of w l.places.items ≡ Some k → bound_in es w ≡ Some a → ItemPasses apart (has_place l.places.items) a
  pub general :
      (θ : Substitution) (val : ℕ → Value) → Solves apart θ es → IsValuation θ l.cells.items val → PlacesAgree θ val l.places.items

-- cells and places are added after those that are there
abbrev pub GrowsBoth : Layout → Layout → Type 0
GrowsBoth old new =
    (cells : List Cell) × (places : List Place) × (new.cells.items ≡ old.cells.items ++ cells) × (new.places.items ≡ old.places.items ++ places)

-- a cell is added
pub record IsCellAdded (old : Layout) (new : Layout) (c : Cell) (k : ℕ) : Type 0 where
  pub number : k ≡ length old.cells.items
  pub cells : new.cells.items ≡ old.cells.items ++ c ∷ []
  pub places : new.places.items ≡ old.places.items

-- a place is added
pub record IsPlaceAdded (old : Layout) (new : Layout) (w : ℕ) (k : ℕ) : Type 0 where
  pub cells : new.cells.items ≡ old.cells.items
  pub places : new.places.items ≡ old.places.items ++ record { code = w; cell = k } ∷ []

-- what a test says of the equations' variables and of these, it says of the places that are added
abbrev pub PassesOn : Bool → Equations → Layout → Layout → ((ℕ → Bool) → Type 0) → Type 0
PassesOn apart es old new Pass =
    (test : ℕ → Bool) → EquationsPass apart test es → Pass test → all_pass test old.places.items ≡ true → all_pass test new.places.items ≡ true

-- a variable has its cell
pub record IsVariableResolved (apart : Bool) (es : Equations) (old : Layout) (new : Layout) (w : ℕ) (k : ℕ) : Type 0 where
  pub resolving : IsResolving apart es new
  pub grows : GrowsBoth old new
  pub found : cell_of w new.places.items ≡ Some k
  pub pass : PassesOn apart es old new (λ test. test w ≡ true)

-- a tree is laid out
pub record IsTermResolved (apart : Bool) (es : Equations) (old : Layout) (new : Layout) (a : Item) (k : ℕ) : Type 0 where
  pub resolving : IsResolving apart es new
  pub grows : GrowsBoth old new
  pub inside : k < length new.cells.items
  pub kind : is_list (cell_at new.cells.items k) ≡ false
  pub denotes :
      (f θ : Substitution) (val : ℕ → Value) → IsValuation θ new.cells.items val → PlacesAgree f val new.places.items
      → val k ≡ tree (item_under apart f a)
  pub placed : ItemPasses apart (has_place new.places.items) a
  pub pass : PassesOn apart es old new (λ test. ItemPasses apart test a)

-- so is a list of trees
pub record AreTermsResolved (apart : Bool) (es : Equations) (old : Layout) (new : Layout) (side : Side) (ts : Trees) (k : ℕ) : Type 0 where
  pub resolving : IsResolving apart es new
  pub grows : GrowsBoth old new
  pub inside : k < length new.cells.items
  pub kind : is_list (cell_at new.cells.items k) ≡ true
  pub denotes :
      (f θ : Substitution) (val : ℕ → Value) → IsValuation θ new.cells.items val → PlacesAgree f val new.places.items
      → val k ≡ trees (instances (of_side apart side f) ts)
  pub placed : ItemsPass apart (has_place new.places.items) side ts
  pub pass : PassesOn apart es old new (λ test. ItemsPass apart test side ts)

-- a list of variables of both sides have their cells
pub record AreResolved (apart : Bool) (es : Equations) (old : Layout) (new : Layout) (ws : List ℕ) : Type 0 where
  pub resolving : IsResolving apart es new
  pub grows : GrowsBoth old new
  pub placed : list_all (has_place new.places.items) ws ≡ true
  pub pass : PassesOn apart es old new (λ test. list_all test ws ≡ true)

-- the variables of the equations
abbrev pub codes_in : Equations → List ℕ
codes_in es = map (λ (e : Equation). e.code) (equations_of es)
