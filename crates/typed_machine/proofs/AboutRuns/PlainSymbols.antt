-- The symbols of untyped formulas as they stand on the typed stack.
use Rattle.std.proofs.Common.{ℕ, Bool, List}
use Rattle.tptp_tree.specs.Brackets.{Bracket}
use Rattle.tptp_tree.specs.Causes.{Surroundings}
use Rattle.tptp_reader.specs.Machine.{mark as plain_mark, a_term as plain_term, maybe_arguments as plain_arguments, more_arguments as plain_more, an_atom as plain_atom, maybe_applied as plain_applied, maybe_equation as plain_equation, an_equation as plain_sign, a_name as plain_name, end_of_body as plain_end, first_note as plain_first, more_notes as plain_notes}
use Rattle.typed_machine.specs.TypedMachine.{TypedSymbol, untyped_symbol}

abbrev pub mark : List ℕ → TypedSymbol
mark bytes = untyped_symbol (plain_mark bytes)

abbrev pub a_term : Surroundings → TypedSymbol
a_term s = untyped_symbol (plain_term s)

abbrev pub maybe_arguments : Surroundings → TypedSymbol
maybe_arguments s = untyped_symbol (plain_arguments s)

abbrev pub more_arguments : Surroundings → TypedSymbol
more_arguments s = untyped_symbol (plain_more s)

abbrev pub an_atom : Bool → Surroundings → TypedSymbol
an_atom b s = untyped_symbol (plain_atom b s)

abbrev pub maybe_applied : Bool → Surroundings → TypedSymbol
maybe_applied b s = untyped_symbol (plain_applied b s)

abbrev pub maybe_equation : Bool → Surroundings → TypedSymbol
maybe_equation b s = untyped_symbol (plain_equation b s)

abbrev pub an_equation : Bool → Surroundings → TypedSymbol
an_equation b s = untyped_symbol (plain_sign b s)

abbrev pub a_name : TypedSymbol
a_name = untyped_symbol plain_name

abbrev pub end_of_body : ℕ → TypedSymbol
end_of_body limit = untyped_symbol (plain_end limit)

abbrev pub first_note : ℕ → TypedSymbol
first_note limit = untyped_symbol (plain_first limit)

abbrev pub more_notes : ℕ → List Bracket → TypedSymbol
more_notes limit unclosed = untyped_symbol (plain_notes limit unclosed)
