-- Sizes of random terms.
use Rattle.std.specs.Prelude.{◌≤◌}
use Rattle.fol_base.specs.Tree.{Tree, tree_size}

-- 5 to 20 symbols and variables
abbrev pub IsOfUsualSize : Tree → Type 0
IsOfUsualSize t = (5 ≤ tree_size t) × (tree_size t ≤ 20)
