-- Sizes of instances, from the sizes of the cells.
use Rattle.std.specs.Prelude.{◌≡◌, ℕ, ◌+◌, ◌<◌, ◌≤◌, List, length, slice_index}
use Rattle.plain_types.specs.Capped.{capped}
use Rattle.fol_base.specs.Tree.{variable, tree_size, trees_size}
use Rattle.unifier.specs.declared.cells.Cell.{Cell}
use Rattle.unifier.specs.declared.cells.Cell.TheVariants.{Variable, Application, NoTrees, TreeThen}
use Rattle.unifier.specs.Cells.{Value, tree, trees}
use Rattle.unifier.specs.Solution.{value_at}

-- the occurrences of symbols and variables
abbrev pub value_size : Value → ℕ
value_size (tree t) = tree_size t
value_size (trees ts) = trees_size ts

-- the sizes of the first cells; more may follow
pub record AreSizes (cells : List Cell) (sizes : List ℕ) (n : ℕ) : Type 0 where
  pub count : n ≤ length sizes
  pub each : (k : ℕ) → k < n → slice_index sizes k ≡ capped (value_size (value_at variable cells k))

-- the size of a cell from those of its parts
abbrev pub size_by : List ℕ → Cell → ℕ
size_by sizes (Variable w) = 1
size_by sizes (Application f l) = capped (slice_index sizes l + 1)
size_by sizes NoTrees = 0
size_by sizes (TreeThen a b) = capped (slice_index sizes a + slice_index sizes b)
