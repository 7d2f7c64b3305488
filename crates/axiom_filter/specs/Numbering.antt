-- Symbols by numbers, as they are met one after another: a symbol has the place at which it is met first.
use Rattle.std.specs.Prelude.{ℕ, List, [], ◌∷◌, fold}
use Rattle.tptp_tree.specs.declared.problem.Annotated.{Annotated}
use Rattle.signature.specs.declared.symbol.Symbol.{Symbol}
use Rattle.signature.specs.Symbol.{with_symbol, number_of}
use Rattle.signature.specs.Occurrences.{annotated_symbols}

-- the numbers of symbols that are met after the known ones; a new symbol has the next number
abbrev pub met_numbers : List Symbol → List Symbol → List ℕ
met_numbers known [] = []
met_numbers known (s ∷ ss) = number_of known s ∷ met_numbers (with_symbol known s) ss

-- for each formula the numbers of its symbols
abbrev pub formula_rows : List Symbol → List Annotated → List (List ℕ)
formula_rows known [] = []
formula_rows known (a ∷ fs) =
    met_numbers known (annotated_symbols a) ∷ formula_rows (fold with_symbol known (annotated_symbols a)) fs
