-- The cells of two terms, with one cell for each variable.
use Rattle.std.specs.Prelude.{◌≡◌, ℕ, ◌<◌, Bool, true, false, ◌&&◌, ◌==◌, List, [], ◌∷◌, ◌++◌, Option, None, Some, is_some, length, slice_index_or, if◌then◌else◌, All}
use Rattle.std.specs.List.{list_all}
use Rattle.fol_base.specs.Tree.{Tree, Trees}
use Rattle.fol_base.specs.Instance.{Substitution, instance, instances}
use Rattle.fol_base.specs.declared.clause.Side.{Side}
use Rattle.unifier.specs.declared.cells.Cell.{Cell}
use Rattle.unifier.specs.declared.cells.Cell.TheVariants.{Variable, NoTrees}
use Rattle.unifier.specs.declared.layout.Place.{Place}
use Rattle.unifier.specs.declared.layout.Layout.{Layout}
use Rattle.unifier.specs.SolvedForm.{code_of, of_side}
use Rattle.unifier.specs.Cells.{Value, tree, trees, cell_at, is_list, AreOrdered, AreKinded, IsValuation}

-- the cell of a variable
abbrev pub cell_of : ℕ → List Place → Option ℕ
cell_of w [] = None
cell_of w (p ∷ ps) = if w == p.code then Some p.cell else cell_of w ps

-- a variable has a place
abbrev pub has_place : List Place → ℕ → Bool
has_place ps w = is_some (cell_of w ps)

-- each of a side's variables of a list has one
abbrev pub HavePlaces : List Place → Bool → Side → List ℕ → Type 0
HavePlaces ps apart side vs = list_all (λ v. has_place ps (code_of apart side v)) vs ≡ true

-- the variables that have places all pass a test of their numbers
abbrev pub all_pass : (ℕ → Bool) → List Place → Bool
all_pass test ps = list_all (λ (p : Place). test p.code) ps

-- the numbers of the places' variables rise
abbrev pub AreRising : List Place → Type 0
AreRising ps = (i j : ℕ) (d : Place) → i < j → j < length ps → (slice_index_or ps i d).code < (slice_index_or ps j d).code

-- the empty list is cell 0, and the places are the variables' cells
pub record IsLayout (layout : Layout) : Type 0 where
  pub ordered : AreOrdered layout.cells.items
  pub kinded : AreKinded layout.cells.items
  pub filled : 0 < length layout.cells.items
  pub empty : cell_at layout.cells.items 0 ≡ NoTrees
  pub placed : (i w : ℕ) → i < length layout.cells.items → cell_at layout.cells.items i ≡ Variable w → cell_of w layout.places.items ≡ Some i
  pub places :
      (w i : ℕ) → cell_of w layout.places.items ≡ Some i
      → (i < length layout.cells.items) × (cell_at layout.cells.items i ≡ Variable w)
  pub known : All (λ (p : Place). p.cell < length layout.cells.items) layout.places.items
  pub rising : AreRising layout.places.items

-- the variables that have places are those of a list: what all of one pass, all of the other pass
pub record HasVariables (codes : List ℕ) (layout : Layout) : Type 0 where
  pub is_layout : IsLayout layout
  pub exactly : (test : ℕ → Bool) → all_pass test layout.places.items ≡ list_all test codes

-- a variable has got a place
pub record IsWithVariable (old : Layout) (new : Layout) (w : ℕ) : Type 0 where
  pub layout : IsLayout new
  pub also : (test : ℕ → Bool) → all_pass test new.places.items ≡ (all_pass test old.places.items && test w)

-- cells are added after those that are there
abbrev pub Grows : Layout → Layout → Type 0
Grows old new = (more : List Cell) × (new.cells.items ≡ old.cells.items ++ more)

-- a term is laid out: the cell has its tree
pub record TermLaidOut (old : Layout) (new : Layout) (apart : Bool) (side : Side) (t : Tree) (k : ℕ) : Type 0 where
  pub layout : IsLayout new
  pub grows : Grows old new
  pub inside : k < length new.cells.items
  pub kind : is_list (cell_at new.cells.items k) ≡ false
  pub denotes :
      (θ : Substitution) (val : ℕ → Value) → IsValuation θ new.cells.items val → val k ≡ tree (instance (of_side apart side θ) t)
  pub places : new.places.items ≡ old.places.items

-- the same for a list of terms
pub record TermsLaidOut (old : Layout) (new : Layout) (apart : Bool) (side : Side) (ts : Trees) (k : ℕ) : Type 0 where
  pub layout : IsLayout new
  pub grows : Grows old new
  pub inside : k < length new.cells.items
  pub kind : is_list (cell_at new.cells.items k) ≡ true
  pub denotes :
      (θ : Substitution) (val : ℕ → Value) → IsValuation θ new.cells.items val → val k ≡ trees (instances (of_side apart side θ) ts)
  pub places : new.places.items ≡ old.places.items

-- a cell is added
pub record IsPushed (old : Layout) (new : Layout) (c : Cell) (k : ℕ) : Type 0 where
  pub layout : IsLayout new
  pub number : k ≡ length old.cells.items
  pub cells : new.cells.items ≡ old.cells.items ++ c ∷ []
  pub places : new.places.items ≡ old.places.items
