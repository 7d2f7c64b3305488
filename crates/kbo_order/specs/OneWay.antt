-- Whether a term is greater on a block of variables, asked one way.
use Rattle.std.specs.Prelude.{ℕ, ◌+◌, ◌≤◌, Option, Some, None}
use Rattle.fol_base.specs.Tree.{Tree}
use Rattle.kbo_order.specs.Block.{InBlock, GreaterOn}
use Rattle.kbo_order.specs.Further.{IsNumbered, IsClear}

-- greater on the block that begins at start, and no variable past it stands in either term before next
pub record IsGreaterUpTo (start next : ℕ) (s t : Tree) : Type 0 where
  pub greater : GreaterOn (InBlock start) s t
  pub past : start + 32 ≤ next
  pub left_numbers : IsNumbered s
  pub right_numbers : IsNumbered t
  pub left_clear : IsClear start next s
  pub right_clear : IsClear start next t

-- the meaning of the answer: not greater, or greater up to the next block
abbrev pub IsGreaterInBlock : ℕ → Option ℕ → Tree → Tree → Type 0
IsGreaterInBlock start None s t = GreaterOn (InBlock start) s t → ⊥
IsGreaterInBlock start (Some next) s t = IsGreaterUpTo start next s t
