-- Joining two classes, and what must be joined then.
use Rattle.std.specs.Prelude.{◌≡◌, ℕ, ◌<◌, ◌≤◌, List, length, ⊤}
use Rattle.unifier.specs.declared.cells.Cell.{Cell}
use Rattle.unifier.specs.declared.cells.Relation.{Relation}
use Rattle.unifier.specs.declared.cells.Relation.TheVariants.{Same, Clash, Parts}
use Rattle.unifier.specs.declared.classes.Classes.{Classes}
use Rattle.unifier.specs.Cells.{Value, cell_at, relate}
use Rattle.unifier.specs.Classes.{parent, total, AreClasses, IsConstantOn, IsCongruent, PartsAgree, KeepsJoined, AreTogether}

-- a cell on the way to its class's smallest one, and cells put below their parents' parents
pub record IsOnShorterWay (n : ℕ) (old : Classes) (new : Classes) (cell : ℕ) (at : ℕ) : Type 0 where
  pub classes : AreClasses n new
  pub sound : (f : ℕ → Value) → IsConstantOn n old f → IsConstantOn n new f
  pub falls : total new.parents.items ≤ total old.parents.items
  pub below : at ≤ cell
  pub same : (f : ℕ → Value) → IsConstantOn n old f → f at ≡ f cell
  pub others : (i : ℕ) → parent old i ≡ i → parent new i ≡ i
  pub kept : KeepsJoined n old new
  pub together : AreTogether n new at cell

-- the way to a class's smallest cell got shorter
pub record IsShortened (n : ℕ) (old : Classes) (new : Classes) (cell : ℕ) (root : ℕ) : Type 0 where
  pub way : IsOnShorterWay n old new cell root
  pub smallest : parent new root ≡ root

-- the cells of a relation's parts
abbrev pub ArePartsBelow : ℕ → Relation → Type 0
ArePartsBelow n Same = ⊤
ArePartsBelow n Clash = ⊤
ArePartsBelow n (Parts a c b d) = (a < n) × (c < n) × (b < n) × (d < n)

-- where parts are still to be joined, two classes were
abbrev pub HasFallen : Classes → Classes → Relation → Type 0
HasFallen old new Same = total new.parents.items ≤ total old.parents.items
HasFallen old new Clash = total new.parents.items ≤ total old.parents.items
HasFallen old new (Parts a c b d) = total new.parents.items < total old.parents.items

-- two cells that can't have one value would have to, where these two do
pub record ClashAfter (cells : List Cell) (old : Classes) (first : ℕ) (second : ℕ) : Type 0 where
  pub one : ℕ
  pub other : ℕ
  pub one_inside : one < length cells
  pub other_inside : other < length cells
  pub clash : relate (cell_at cells one) (cell_at cells other) ≡ Clash
  pub forced : (f : ℕ → Value) → IsConstantOn (length cells) old f → f first ≡ f second → f one ≡ f other

-- the classes of two cells are joined; the parts told must have one value then
pub record IsMerged (cells : List Cell) (old : Classes) (new : Classes) (first : ℕ) (second : ℕ) (told : Relation) : Type 0 where
  pub classes : AreClasses (length cells) new
  pub sound : (f : ℕ → Value) → IsConstantOn (length cells) old f → f first ≡ f second → IsConstantOn (length cells) new f
  pub falls : HasFallen old new told
  pub inside : ArePartsBelow (length cells) told
  pub forced :
      (f : ℕ → Value) → IsCongruent cells f → IsConstantOn (length cells) old f → f first ≡ f second → PartsAgree f told
  pub refuted : told ≡ Clash → ClashAfter cells old first second
  pub kept : KeepsJoined (length cells) old new
  pub together : AreTogether (length cells) new first second
