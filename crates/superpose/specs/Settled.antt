-- Sides that are in order under every substitution, as the clause alone tells.
use Rattle.std.specs.Prelude.{◌≡◌, ◌↔◌, ℕ, true, List, length, slice_get, Option, None, Some}
use Rattle.fol_base.specs.Clause.{TreeLiteral}
use Rattle.fol_base.specs.Order.{tree_greater, literal_greater}
use Rattle.fol_base.specs.Ground.{literals_instance}
use Rattle.fol_base.specs.Instance.{Substitution}
use Rattle.fol_base.specs.Selection.{eligible}
use Rattle.fol_base.specs.Sides.{side_of, other_side_of}
use Rattle.fol_base.specs.declared.clause.Side.TheVariants.{Left, Right}
use Rattle.kernel_steps.specs.Inference.{other_side_not_above}
use Rattle.eq_rules.specs.declared.concluding.LiteralSide.{LiteralSide}
use Rattle.superpose.specs.declared.settled.SettledSides.{SettledSides}

-- the literal is greater than each other one
abbrev pub IsGreatest : List TreeLiteral → ℕ → Type 0
IsGreatest ls i =
    (l : TreeLiteral) (j : ℕ) (m : TreeLiteral)
    → slice_get ls i ≡ Some l → slice_get ls j ≡ Some m → (j ≡ i → ⊥) → literal_greater l m ≡ true

-- the literal is the chosen one, or, where none is chosen, the greatest
abbrev pub Outdoes : List TreeLiteral → Option ℕ → ℕ → Type 0
Outdoes ls (Some c) i = i ≡ c
Outdoes ls None i = IsGreatest ls i

-- and the side is greater than the other one
pub record IsSettled (ls : List TreeLiteral) (choice : Option ℕ) (s : LiteralSide) : Type 0 where
  pub literal : TreeLiteral
  pub there : slice_get ls s.literal ≡ Some literal
  pub greater : tree_greater (side_of s.side literal) (other_side_of s.side literal) ≡ true
  pub outdoes : Outdoes ls choice s.literal

-- of one literal
pub record AreSettledSides (ls : List TreeLiteral) (choice : Option ℕ) (i : ℕ) (sides : SettledSides) : Type 0 where
  pub left : (sides.left ≡ true) ↔ IsSettled ls choice (record { literal = i; side = Left })
  pub right : (sides.right ≡ true) ↔ IsSettled ls choice (record { literal = i; side = Right })

-- of each literal of a clause
pub record AreSettled (ls : List TreeLiteral) (choice : Option ℕ) (settled : List SettledSides) : Type 0 where
  pub many : length settled ≡ length ls
  pub each : (i : ℕ) (sides : SettledSides) → slice_get settled i ≡ Some sides → AreSettledSides ls choice i sides

-- under a substitution the other side isn't above the side, and its literal is eligible
pub record IsInOrder (ls : List TreeLiteral) (choice : Option ℕ) (σ : Substitution) (s : LiteralSide) : Type 0 where
  pub literal : TreeLiteral
  pub there : slice_get ls s.literal ≡ Some literal
  pub beside : other_side_not_above σ s.side literal ≡ true
  pub eligible_there : eligible (literals_instance σ ls) s.literal choice literal.positive ≡ true
