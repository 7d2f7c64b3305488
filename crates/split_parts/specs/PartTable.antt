-- What contracts see of a table of parts: the parts' literals, in the order of their tags, and how many more it takes without new memory.
use Rattle.std.specs.Prelude.{ℕ, List}
use Rattle.std.specs.Coded.{Coded, codes}
use Rattle.fol_base.specs.TreeCode.{tree_code}
use Rattle.fol_base.specs.Clause.{TreeLiteral}

pub record PartTable : Type 0 where
  pub parts : List (List TreeLiteral)
  pub spare : ℕ

pub part_table_code : Coded PartTable
part_table_code = hlevel (codes, tree_code)
