-- Classes of cells that must have one value, closed under parts.
use Rattle.std.specs.Prelude.{◌≡◌, ℕ, ◌+◌, ◌<◌, ◌≤◌, false, List, [], ◌∷◌, length, slice_index, ⊤}
use Rattle.unifier.specs.declared.cells.Cell.{Cell}
use Rattle.unifier.specs.declared.cells.Relation.{Relation}
use Rattle.unifier.specs.declared.cells.Relation.TheVariants.{Same, Clash, Parts}
use Rattle.unifier.specs.declared.classes.Classes.{Classes}
use Rattle.unifier.specs.declared.classes.Step.{Step}
use Rattle.unifier.specs.declared.classes.Step.TheVariants.{Joined, Unchanged, Refuted}
use Rattle.unifier.specs.Cells.{Value, cell_at, is_variable, relate}

abbrev pub parent : Classes → ℕ → ℕ
parent c i = slice_index c.parents.items i

-- a class's cell with the most to say: no variable where some cell of the class is none
abbrev pub schema : Classes → ℕ → ℕ
schema c i = slice_index c.schemas.items i

abbrev pub total : List ℕ → ℕ
total [] = 0
total (x ∷ xs) = x + total xs

-- a class is the tree of parents below its smallest cell
pub record AreClasses (n : ℕ) (c : Classes) : Type 0 where
  pub parents : length c.parents.items ≡ n
  pub schemas : length c.schemas.items ≡ n
  pub down : (i : ℕ) → i < n → parent c i ≤ i
  pub inside : (i : ℕ) → i < n → schema c i < n

-- f has one value on each class
abbrev pub IsConstantOn : ℕ → Classes → (ℕ → Value) → Type 0
IsConstantOn n c f = (i : ℕ) → i < n → (f (parent c i) ≡ f i) × (f (schema c i) ≡ f i)

-- f has one value on each class, as the parents alone tell
abbrev pub AgreesWithParents : ℕ → Classes → (ℕ → Value) → Type 0
AgreesWithParents n c f = (i : ℕ) → i < n → f (parent c i) ≡ f i

-- cells that are in one class stay in one
abbrev pub KeepsJoined : ℕ → Classes → Classes → Type 0
KeepsJoined n old new = (f : ℕ → Value) → AgreesWithParents n new f → AgreesWithParents n old f

-- two cells are in one class
abbrev pub AreTogether : ℕ → Classes → ℕ → ℕ → Type 0
AreTogether n c i j = (f : ℕ → Value) → AgreesWithParents n c f → f i ≡ f j

-- parts that must have one value have one under f
abbrev pub PartsAgree : (ℕ → Value) → Relation → Type 0
PartsAgree f Same = ⊤
PartsAgree f Clash = ⊤
PartsAgree f (Parts a c b d) = (f a ≡ f c) × (f b ≡ f d)

-- where two cells have one value, so have their parts
abbrev pub IsCongruent : List Cell → (ℕ → Value) → Type 0
IsCongruent cells f = (i j : ℕ) → i < length cells → j < length cells → f i ≡ f j → PartsAgree f (relate (cell_at cells i) (cell_at cells j))

-- some cells are joined, all of which must have one value
pub record Follows (cells : List Cell) (old : Classes) (new : Classes) : Type 0 where
  pub classes : AreClasses (length cells) new
  pub sound : (f : ℕ → Value) → IsCongruent cells f → IsConstantOn (length cells) old f → IsConstantOn (length cells) new f
  pub falls : total new.parents.items ≤ total old.parents.items

-- two cells that can't have one value would have to
pub record IsRefuted (cells : List Cell) (old : Classes) : Type 0 where
  pub first : ℕ
  pub second : ℕ
  pub first_inside : first < length cells
  pub second_inside : second < length cells
  pub clash : relate (cell_at cells first) (cell_at cells second) ≡ Clash
  pub forced : (f : ℕ → Value) → IsCongruent cells f → IsConstantOn (length cells) old f → f first ≡ f second

-- each cell's parent is its class's smallest cell
abbrev pub IsFlat : ℕ → Classes → Type 0
IsFlat n c = (i : ℕ) → i < n → parent c (parent c i) ≡ parent c i

abbrev pub ArePartsJoined : Classes → Relation → Type 0
ArePartsJoined c Same = ⊤
ArePartsJoined c Clash = ⊥
ArePartsJoined c (Parts a d b e) = (parent c a ≡ parent c d) × (parent c b ≡ parent c e)

-- the parts of a cell are in the classes of the parts of its class's schema
abbrev pub IsClosedAt : List Cell → Classes → ℕ → Type 0
IsClosedAt cells c i = ArePartsJoined c (relate (cell_at cells i) (cell_at cells (schema c (parent c i))))

-- what a step, or a round of them from a cell on, has done
abbrev pub StepDone : List Cell → Classes → Classes → ℕ → Step → Type 0
StepDone cells old new from Joined = total new.parents.items < total old.parents.items
StepDone cells old new from Unchanged = (new ≡ old) × (IsFlat (length cells) old → IsClosedAt cells old from)
StepDone cells old new from Refuted = IsRefuted cells old

abbrev pub RoundDone : List Cell → Classes → Classes → Step → Type 0
RoundDone cells old new Joined = total new.parents.items < total old.parents.items
RoundDone cells old new Unchanged = (new ≡ old) × (IsFlat (length cells) old → (i : ℕ) → i < length cells → IsClosedAt cells old i)
RoundDone cells old new Refuted = IsRefuted cells old

-- where the cells are told apart at last
pub record AreSettled (cells : List Cell) (c : Classes) : Type 0 where
  pub flat : IsFlat (length cells) c
  pub own : (i : ℕ) → i < length cells → parent c (schema c i) ≡ parent c i
  pub telling :
      (i : ℕ) → i < length cells → is_variable (cell_at cells i) ≡ false → is_variable (cell_at cells (schema c (parent c i))) ≡ false

-- the same where two cells must have one value
pub record FollowsFrom (cells : List Cell) (first : ℕ) (second : ℕ) (old : Classes) (new : Classes) : Type 0 where
  pub classes : AreClasses (length cells) new
  pub sound :
      (f : ℕ → Value) → IsCongruent cells f → f first ≡ f second → IsConstantOn (length cells) old f → IsConstantOn (length cells) new f

-- some cells that can't have one value would have to, where the two do
pub record CannotFollow (cells : List Cell) (first : ℕ) (second : ℕ) (old : Classes) : Type 0 where
  pub one : ℕ
  pub other : ℕ
  pub one_inside : one < length cells
  pub other_inside : other < length cells
  pub clash : relate (cell_at cells one) (cell_at cells other) ≡ Clash
  pub forced : (f : ℕ → Value) → IsCongruent cells f → f first ≡ f second → IsConstantOn (length cells) old f → f one ≡ f other

-- settled and closed, with the two cells in one class
pub record AreClosed (cells : List Cell) (first : ℕ) (second : ℕ) (old : Classes) (new : Classes) : Type 0 where
  pub follows : FollowsFrom cells first second old new
  pub settled : AreSettled cells new
  pub closed : (i : ℕ) → i < length cells → IsClosedAt cells new i
  pub same : parent new first ≡ parent new second

-- each cell is in a class of its own
abbrev pub IsDiscrete : ℕ → Classes → Type 0
IsDiscrete n c = (i : ℕ) → i < n → (parent c i ≡ i) × (schema c i ≡ i)

-- a cell on the way up to its class's smallest cell
pub record IsOnTheWay (c : Classes) (i : ℕ) (at : ℕ) : Type 0 where
  pub below : at ≤ i
  pub same : (f : ℕ → Value) → ((j : ℕ) → j < length c.parents.items → f (parent c j) ≡ f j) → f at ≡ f i
  pub flat : IsFlat (length c.parents.items) c → parent c at ≡ parent c i

-- the smallest cell of a class
pub record HasFound (c : Classes) (i : ℕ) (root : ℕ) : Type 0 where
  pub below : root ≤ i
  pub smallest : parent c root ≡ root
  pub same : (f : ℕ → Value) → ((j : ℕ) → j < length c.parents.items → f (parent c j) ≡ f j) → f root ≡ f i
  pub flat : IsFlat (length c.parents.items) c → root ≡ parent c i

-- a class is put below a smaller one
pub record IsLinked (n : ℕ) (old : Classes) (new : Classes) (low : ℕ) (high : ℕ) : Type 0 where
  pub classes : AreClasses n new
  pub sound : (f : ℕ → Value) → IsConstantOn n old f → f low ≡ f high → IsConstantOn n new f
  pub falls : total new.parents.items < total old.parents.items
  pub kept : KeepsJoined n old new
  pub together : AreTogether n new low high

-- each cell's parent is made its class's smallest cell
pub record IsFlattened (n : ℕ) (old : Classes) (new : Classes) : Type 0 where
  pub classes : AreClasses n new
  pub sound : (f : ℕ → Value) → IsConstantOn n old f → IsConstantOn n new f
  pub falls : total new.parents.items ≤ total old.parents.items
  pub flat : IsFlat n new
