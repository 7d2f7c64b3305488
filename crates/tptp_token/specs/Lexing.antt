-- The tokens of a text, up to its first fault.
use Rattle.std.specs.Prelude.{ℕ, zero, suc, ◌+◌, ◌-◌, None, Some, List, [], ◌∷◌}
use Rattle.tptp_token.specs.Pieces.{piece_of}
use Rattle.tptp_token.specs.declared.piece.Piece.{Piece}
use Rattle.tptp_token.specs.declared.piece.Piece.TheVariants.{Token, Space, Bad, Unclosed}
use Rattle.tptp_token.specs.declared.token.LexFault.TheVariants.{BadByte, Unclosed as UnclosedAt}
use Rattle.tptp_token.specs.declared.token.Lexed.{Lexed}

-- how many bytes a piece takes up
abbrev pub piece_length : Piece → ℕ
piece_length (Token kind length) = length
piece_length (Space length) = length
piece_length (Bad offset) = 1
piece_length Unclosed = 1

-- the tokens from a place on: the piece that begins there, then the tokens after it; a fault ends them
abbrev pub with_piece : ℕ → Piece → Lexed → Lexed
with_piece place (Token kind length) lexed =
    record { tokens = record { kind = kind; start = place; end = place + length } ∷ lexed.tokens; fault = lexed.fault }
with_piece place (Space length) lexed = lexed
with_piece place (Bad offset) lexed = record { tokens = []; fault = Some (BadByte (place + offset)) }
with_piece place Unclosed lexed = record { tokens = []; fault = Some (UnclosedAt place) }

-- the tokens from a place on, where the first `skipped` bytes belong to the piece before
unfoldable pub lexed_from : ℕ → ℕ → List ℕ → Lexed
lexed_from place skipped [] = record { tokens = []; fault = None }
lexed_from place (suc skipped) (byte ∷ bytes) = lexed_from (place + 1) skipped bytes
lexed_from place zero (byte ∷ bytes) =
    with_piece place (piece_of byte bytes) (lexed_from (place + 1) (piece_length (piece_of byte bytes) - 1) bytes)

-- the tokens of a text from its beginning, and its first fault if it has one
unfoldable pub lexed_of : List ℕ → Lexed
lexed_of bytes = lexed_from 0 0 bytes
