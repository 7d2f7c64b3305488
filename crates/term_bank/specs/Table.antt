-- The words by which callers speak of a table.
use Rattle.std.specs.Prelude.{◌≡◌, ℕ, List, Option}
use Rattle.std.specs.Map.{lookup}
use Rattle.fol_base.specs.Tree.{Tree, tree_eq}
use Rattle.term_bank.specs.Bank.{identity}
use Rattle.term_bank.specs.declared.bank.Bank.{Bank}
use Rattle.term_bank.specs.declared.table.Table.{Table}

-- what a table has: the trees that were interned through it, each with its number, in the order in which they came
abbrev pub entries : Table → List (Tree × ℕ)
entries table = table.entries

-- the number that a table has for a tree
abbrev pub number_in : Table → Tree → Option ℕ
number_in table t = lookup (tree_eq t) (entries table)

-- the table is of the bank
abbrev pub IsTableOf : Bank → Table → Type 0
IsTableOf bank table = table.bank ≡ identity bank
