-- Cells in an order in which parts come first.
use Rattle.std.specs.Prelude.{◌≡◌, ℕ, ◌<◌, false, List, Some, length}
use Rattle.std.proofs.Props.{props}
use Rattle.unifier.specs.declared.cells.Cell.{Cell}
use Rattle.unifier.specs.declared.cells.Cell.TheVariants.{Variable, Application, NoTrees, TreeThen}
use Rattle.unifier.specs.declared.layout.Place.{Place}
use Rattle.unifier.specs.declared.solution.TheConstants.{FEW_PLACES}
use Rattle.unifier.specs.Cells.{cell_at, is_list, IsAfterParts, AreOrdered, HasKinds, AreKinded}
use Rattle.unifier.specs.Layout.{cell_of, AreRising}

-- cells in an order in which parts come first, each of its kind; the places are cells of terms, and a variable's cell is its place;
-- the places are few, or in the order of the variables' numbers
pub record InOrder (cells : List Cell) (places : List Place) : Type 0 where
  pub ordered : AreOrdered cells
  pub kinded : AreKinded cells
  pub terms : (w k : ℕ) → cell_of w places ≡ Some k → (k < length cells) × (is_list (cell_at cells k) ≡ false)
  pub own : (k w : ℕ) → k < length cells → cell_at cells k ≡ Variable w → cell_of w places ≡ Some k
  pub findable : FEW_PLACES < length places → AreRising places

-- such facts have at most one proof

after-prop : (i : ℕ) (c : Cell) → IsProp (IsAfterParts i c)
after-prop i (Variable w) = hlevel props
after-prop i (Application f l) = hlevel props
after-prop i NoTrees = hlevel props
after-prop i (TreeThen a b) = hlevel props

kinds-prop : (cells : List Cell) (c : Cell) → IsProp (HasKinds cells c)
kinds-prop cells (Variable w) = hlevel props
kinds-prop cells (Application f l) = hlevel props
kinds-prop cells NoTrees = hlevel props
kinds-prop cells (TreeThen a b) = hlevel props

pub in-order-prop : (cells : List Cell) (places : List Place) → IsProp (InOrder cells places)
in-order-prop cells places = hlevel (props, after-prop, kinds-prop)
