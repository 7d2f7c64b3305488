-- Interning several trees, one after another: what a table learns.
use Rattle.std.specs.Prelude.{◌≡◌, ℕ, List, [], ◌∷◌, ◌++◌, map, if◌then◌else◌}
use Rattle.std.specs.List.{list_any}
use Rattle.fol_base.specs.Tree.{Tree, tree_eq}
use Rattle.term_bank.specs.Table.{entries}
use Rattle.term_bank.specs.declared.table.Table.{Table}

-- those of the trees that aren't among the known ones, each once, in the order in which they first occur
abbrev pub first_seen : List Tree → List Tree → List Tree
first_seen known [] = []
first_seen known (t ∷ ts) = if list_any (tree_eq t) known then first_seen known ts else t ∷ first_seen (known ++ t ∷ []) ts

-- the trees of a table's entries
abbrev pub trees_in : List (Tree × ℕ) → List Tree
trees_in es = map (λ e. e.0) es

-- the trees were interned one after another: the table has further entries, for those that it didn't have
pub record InternsAll (trees : List Tree) (known learned : Table) : Type 0 where
  pub more : List (Tree × ℕ)
  pub table : entries learned ≡ entries known ++ more
  pub first : trees_in more ≡ first_seen (trees_in (entries known)) trees

-- some first ones of the trees were interned, and none of the others, as where memory ran out on the way
abbrev pub InternsFirst : List Tree → Table → Table → Type 0
InternsFirst trees known learned = (done rest : List Tree) × (trees ≡ done ++ rest) × InternsAll done known learned
