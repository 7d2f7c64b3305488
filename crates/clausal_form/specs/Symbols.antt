-- The symbols that come after the Skolem symbols.
use Rattle.std.specs.Prelude.{ℕ, List, ◌++◌}
use Rattle.signature.specs.declared.symbol.Symbol.{Symbol}
use Rattle.signature.specs.Symbol.{predicate_symbol}
use Rattle.signature.specs.Form.{numbered_symbols, spare_constant}

-- the symbols with the naming symbols after them
abbrev pub with_names : List ℕ → List ℕ → List Symbol → List Symbol
with_names prefix arities known = known ++ numbered_symbols predicate_symbol prefix 0 arities

-- and with the spare constant, where there is no other
abbrev pub with_spare : List ℕ → List Symbol → List Symbol
with_spare prefix known = known ++ spare_constant prefix known
