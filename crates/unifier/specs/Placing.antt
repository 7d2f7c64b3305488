-- One cell for each class, in an order in which parts come first.
use Rattle.std.specs.Prelude.{◌≡◌, ◌⊎◌, ℕ, ◌+◌, ◌<◌, List, [], ◌∷◌, ◌++◌, Option, None, Some, length, slice_index_or, ⊤}
use Rattle.unifier.specs.declared.cells.Cell.{Cell}
use Rattle.unifier.specs.declared.cells.Cell.TheVariants.{Variable, Application, NoTrees, TreeThen}
use Rattle.unifier.specs.declared.classes.Classes.{Classes}
use Rattle.unifier.specs.declared.placing.Placing.{Placing}
use Rattle.unifier.specs.declared.placing.Visit.{Visit}
use Rattle.unifier.specs.declared.placing.Visit.TheVariants.{Placed, Waiting, Kept}
use Rattle.unifier.specs.declared.placing.Sweep.{Sweep}
use Rattle.unifier.specs.declared.placing.Sweep.TheVariants.{Complete, Further, Stuck}
use Rattle.unifier.specs.Cells.{cell_at, AreOrdered}
use Rattle.unifier.specs.Classes.{parent, schema}

-- the place of a class, by its smallest cell
abbrev pub place : Placing → ℕ → Option ℕ
place p i = slice_index_or p.places.items i None

-- the second cell is the first one with its parts' classes at their places
abbrev pub IsPlacedAs : Classes → Placing → Cell → Cell → Type 0
IsPlacedAs c p (Variable w) new = new ≡ Variable w
IsPlacedAs c p (Application f l) new = (k : ℕ) × (place p (parent c l) ≡ Some k) × (new ≡ Application f k)
IsPlacedAs c p NoTrees new = new ≡ NoTrees
IsPlacedAs c p (TreeThen a b) new =
    (k : ℕ) × (m : ℕ) × (place p (parent c a) ≡ Some k) × (place p (parent c b) ≡ Some m) × (new ≡ TreeThen k m)

-- a part's class has no place
abbrev pub Waits : Classes → Placing → Cell → Type 0
Waits c p (Variable w) = ⊥
Waits c p (Application f l) = place p (parent c l) ≡ None
Waits c p NoTrees = ⊥
Waits c p (TreeThen a b) = (place p (parent c a) ≡ None) ⊎ (place p (parent c b) ≡ None)

pub record HasPlace (cells : List Cell) (c : Classes) (p : Placing) (i : ℕ) (k : ℕ) : Type 0 where
  pub smallest : parent c i ≡ i
  pub inside : k < length p.cells.items
  pub as_schema : IsPlacedAs c p (cell_at cells (schema c i)) (cell_at p.cells.items k)

pub record IsPlacing (cells : List Cell) (c : Classes) (p : Placing) : Type 0 where
  pub places : length p.places.items ≡ length cells
  pub ordered : AreOrdered p.cells.items
  pub placed : (i k : ℕ) → i < length cells → place p i ≡ Some k → HasPlace cells c p i k
  pub origin : (k : ℕ) → k < length p.cells.items → (i : ℕ) × (i < length cells) × (place p i ≡ Some k)

-- how many have no place
abbrev pub waiting : List (Option ℕ) → ℕ
waiting [] = 0
waiting (None ∷ os) = 1 + waiting os
waiting (Some k ∷ os) = waiting os

abbrev pub IsPlaced : Placing → ℕ → Type 0
IsPlaced p i = (k : ℕ) × (place p i ≡ Some k)

abbrev pub SweepDone : List Cell → Classes → Placing → Placing → Sweep → Type 0
SweepDone cells c old new Complete = (i : ℕ) → i < length cells → parent c i ≡ i → IsPlaced new i
SweepDone cells c old new Further = waiting new.places.items < waiting old.places.items
SweepDone cells c old new Stuck =
    ((i : ℕ) × (i < length cells) × (parent c i ≡ i) × (place new i ≡ None))
    × ((i : ℕ) → i < length cells → parent c i ≡ i → place new i ≡ None → Waits c new (cell_at cells (schema c i)))

-- the cells of the parts have places to look up
abbrev pub HasLookUp : Classes → Placing → ℕ → Type 0
HasLookUp c p l = (l < length c.parents.items) × (parent c l < length p.places.items)

abbrev pub PartsInside : Classes → Placing → Cell → Type 0
PartsInside c p (Variable w) = ⊤
PartsInside c p (Application f l) = HasLookUp c p l
PartsInside c p NoTrees = ⊤
PartsInside c p (TreeThen a b) = HasLookUp c p a × HasLookUp c p b

-- the smallest cells of a cell's parts' classes
abbrev pub parts_of : Classes → Cell → List ℕ
parts_of c (Variable w) = []
parts_of c (Application f l) = parent c l ∷ []
parts_of c NoTrees = []
parts_of c (TreeThen a b) = parent c a ∷ parent c b ∷ []

abbrev pub AddsParts : Classes → Cell → List ℕ → List ℕ → Type 0
AddsParts c x old new = new ≡ old ++ parts_of c x

-- what a visit to a cell has done: a class has got its place, and the others keep theirs; or it waits; or nothing was to do
abbrev pub VisitDone : List Cell → Classes → Placing → Placing → ℕ → Visit → Type 0
VisitDone cells c old new i Placed =
    IsPlaced new i
    × ((j : ℕ) → (j ≡ i → ⊥) → place new j ≡ place old j)
    × (waiting new.places.items < waiting old.places.items)
VisitDone cells c old new i Waiting =
    (new ≡ old) × (parent c i ≡ i) × (place old i ≡ None) × Waits c old (cell_at cells (schema c i))
VisitDone cells c old new i Kept = (new ≡ old) × (parent c i ≡ i → IsPlaced old i)

-- the classes are in order: each has its place; or some contain each other
abbrev pub IsOrdering : List Cell → Classes → Option Placing → Type 0
IsOrdering cells c None =
    (p : Placing) × IsPlacing cells c p
    × ((i : ℕ) × (i < length cells) × (parent c i ≡ i) × (place p i ≡ None))
    × ((i : ℕ) → i < length cells → parent c i ≡ i → place p i ≡ None → Waits c p (cell_at cells (schema c i)))
IsOrdering cells c (Some p) =
    IsPlacing cells c p × ((i : ℕ) → i < length cells → parent c i ≡ i → IsPlaced p i)
