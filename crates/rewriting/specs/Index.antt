-- What changes to the index of sides keep.
use Rattle.std.specs.Prelude.{◌≡◌, ℕ, List}
use Rattle.fol_base.specs.Tree.{Tree}
use Rattle.fol_base.specs.declared.clause.Side.{Side}
use Rattle.disc_tree.specs.Entries.{IsIn}
use Rattle.bank_clause.specs.Clause.{side_number}

-- each entry of another unit
abbrev pub KeepsOthers : ℕ → List (Tree × ℕ) → List (Tree × ℕ) → Type 0
KeepsOthers number old new =
    (t : Tree) (n : ℕ) (s : Side) → (n ≡ number → ⊥) → IsIn (t, side_number n s) old → IsIn (t, side_number n s) new
