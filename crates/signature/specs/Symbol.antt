-- Symbols, and lists of different symbols, in which a symbol's number is its place.
use Rattle.std.specs.Prelude.{◌≡◌, ℕ, ◌≤◌, ◌^◌, ◌==◌, Bool, true, false, not, ◌&&◌, List, [], ◌∷◌, ◌++◌, length, Some, slice_get, IsTrue, if◌then◌else◌, bytes_eq}
use mathlib.Core.Bool.{beq}
use Rattle.std.specs.List.{list_any, position_or_len}
use Rattle.signature.specs.declared.symbol.Symbol.{Symbol}
use Rattle.signature.specs.declared.symbol.SymbolKind.{SymbolKind}
use Rattle.signature.specs.declared.symbol.SymbolKind.TheVariants.{Predicate, Function}
use Rattle.signature.specs.declared.symbol.SymbolRef.{SymbolRef}

-- whether symbols of a kind make atoms; the others make terms
abbrev pub is_predicate_kind : SymbolKind → Bool
is_predicate_kind Predicate = true
is_predicate_kind Function = false

-- the predicate symbol of a name with a number of arguments
abbrev pub predicate_symbol : List ℕ → ℕ → Symbol
predicate_symbol name arity = record { kind = Predicate; name = name; arity = arity }

-- the function symbol of a name with a number of arguments
abbrev pub function_symbol : List ℕ → ℕ → Symbol
function_symbol name arity = record { kind = Function; name = name; arity = arity }

-- `$true`, under the name that no text spells
abbrev pub true_symbol : Symbol
true_symbol = predicate_symbol [] 0

-- Whether two symbols are one: kind, name and number of arguments agree. A name that is used in two ways is two
-- symbols.
abbrev pub same_symbol : Symbol → Symbol → Bool
same_symbol s t = beq (is_predicate_kind s.kind) (is_predicate_kind t.kind) && (bytes_eq s.name t.name && s.arity == t.arity)

-- whether a symbol, of any kind and with any number of arguments, has a name
abbrev pub is_named : List ℕ → Symbol → Bool
is_named name s = bytes_eq name s.name

-- whether a list has a symbol
abbrev pub has_symbol : Symbol → List Symbol → Bool
has_symbol s known = list_any (same_symbol s) known

-- a list of different symbols with a symbol more, which comes at the end unless it is there
abbrev pub with_symbol : List Symbol → Symbol → List Symbol
with_symbol known s = if has_symbol s known then known else known ++ s ∷ []

-- the number of a symbol in a list: its place
abbrev pub number_of : List Symbol → Symbol → ℕ
number_of known s = position_or_len (same_symbol s) known

-- no symbol stands twice
abbrev pub are_different : List Symbol → Bool
are_different [] = true
are_different (s ∷ ss) = not (has_symbol s ss) && are_different ss

-- the symbol that a lent one is
abbrev pub symbol_of : SymbolRef → Symbol
symbol_of s = record { kind = s.kind; name = s.name.now; arity = s.arity }

-- The symbols of a signature by their numbers: different ones, `$true` the first of them. Each number fits 32 bits.
pub record IsSignature (symbols : List Symbol) : Type 0 where
  pub truth : slice_get symbols 0 ≡ Some true_symbol
  pub different : IsTrue (are_different symbols)
  pub few : length symbols ≤ 2 ^ 32
