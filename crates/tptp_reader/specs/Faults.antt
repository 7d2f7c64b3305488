-- The contents of a fault: its cause, the name of its file and its place. Out of memory may be told anywhere.
use Rattle.std.specs.Prelude.{◌≡◌, ⊤, ℕ, List, Option, None, Some}
use Rattle.tptp_token.specs.declared.token.LexFault.{LexFault}
use Rattle.tptp_token.specs.declared.token.LexFault.TheVariants.{BadByte as BadByteAt, Unclosed as UnclosedAt}
use Rattle.tptp_reader.specs.declared.cause.ReadCause.{ReadCause}
use Rattle.tptp_reader.specs.declared.cause.ReadCause.TheVariants.{BadByte, Unclosed, Syntax}
use Rattle.tptp_reader.specs.declared.cause.ReadFault.{ReadFault}
use Rattle.tptp_reader.specs.declared.cause.ReadFault.TheVariants.{NoMemory, At}

abbrev pub IsFaultWhere : (ReadCause → List ℕ → ℕ → Type 0) → ReadFault → Type 0
IsFaultWhere is NoMemory = ⊤
IsFaultWhere is (At cause file place) = is cause file place

-- after the last token of a text that ends at that place: the fault of the tokens, or else the end of the text
abbrev pub IsEndFault : Option LexFault → ℕ → ReadCause → ℕ → Type 0
IsEndFault None end cause place = (cause ≡ Syntax) × (place ≡ end)
IsEndFault (Some (BadByteAt n)) end cause place = (cause ≡ BadByte) × (place ≡ n)
IsEndFault (Some (UnclosedAt n)) end cause place = (cause ≡ Unclosed) × (place ≡ n)
