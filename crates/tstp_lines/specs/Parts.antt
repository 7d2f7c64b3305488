-- The numbers of the symbols and variables in a line's parts.
use Rattle.std.specs.Prelude.{ℕ, List}
use Rattle.tptp_tree.specs.Formula.{FormulaTree}
use Rattle.tptp_source.specs.General.{GeneralTree}
use Rattle.signature.specs.declared.symbol.Symbol.{Symbol}
use Rattle.clausal_form.specs.DerivationClause.{ordinary_literals, Numbering, numbering}
use Rattle.tstp_lines.specs.Bindings.{all_bound}

-- for the form's symbols, the names, the formula and the items that bind
abbrev pub parts_numbering : List Symbol → List (List ℕ) → FormulaTree → List GeneralTree → Numbering
parts_numbering known names f items = numbering known (ordinary_literals names f) (all_bound items)
