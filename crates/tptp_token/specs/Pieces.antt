-- The piece at the beginning of a text: a token, a blank or a comment, or a fault.
use Rattle.std.specs.Prelude.{◌≡◌, ◌≢◌, ◌<◌, ◌≤◌, ℕ, zero, suc, ◌+◌, ◌==◌, Bool, true, false, ◌&&◌, ◌||◌, not, Option, None, Some, List, [], ◌∷◌, ◌++◌, take, drop, option_map, if◌then◌else◌, bytes_eq}
use Rattle.std.specs.List.{prefix_len, list_any}
use Rattle.tptp_token.specs.Spelling.{is_between, is_lower, is_upper, is_digit, marks, is_end, begins, is_quoted_rest}
use Rattle.tptp_token.specs.Longest.{longest}
use Rattle.tptp_token.specs.Kinds.{is_token, kind_of}
use Rattle.tptp_token.specs.declared.token.Kind.{Kind}
use Rattle.tptp_token.specs.declared.token.Kind.TheVariants.{Lower, Variable, Quoted, Distinct, Dollar, Number, Connective, Mark, Other}
use Rattle.tptp_token.specs.declared.piece.Piece.{Piece}
use Rattle.tptp_token.specs.declared.piece.Piece.TheVariants.{Token, Space, Bad, Unclosed}

-- tab, line feed, vertical tab, form feed, carriage return, space
abbrev pub is_blank : ℕ → Bool
is_blank byte = is_between 9 13 byte || (byte == 32)

-- the first byte is this one
abbrev pub starts_with : ℕ → List ℕ → Bool
starts_with byte = begins (λ first. first == byte) (λ rest. true)

-- the first byte is one of two
abbrev pub starts_with_either : ℕ → ℕ → List ℕ → Bool
starts_with_either one other = begins (λ first. (first == one) || (first == other)) (λ rest. true)

-- how many bytes a comment has after its `%`, up to the end of the line, which is a line feed or the end of the text
unfoldable pub line_length : List ℕ → ℕ
line_length bytes = prefix_len (λ byte. not (byte == 10)) bytes

-- how many bytes there are up to the end of the first `*/`; none where there is no `*/`
unfoldable pub block_end : List ℕ → Option ℕ
block_end [] = None
block_end (byte ∷ bytes) =
    if (byte == 42) && starts_with 47 bytes then Some 2 else option_map (λ n. n + 1) (block_end bytes)

-- the piece of a block comment, by the number of bytes after its `/*`; unclosed where no `*/` ends it
abbrev pub block_piece : Option ℕ → Piece
block_piece None = Unclosed
block_piece (Some n) = Space (n + 2)

-- a quoted word's or a distinct object's first byte
abbrev pub is_quote : ℕ → Bool
is_quote byte = (byte == 39) || (byte == 34)

-- the kind of the token that the quote opens
abbrev pub IsQuoteKind : Kind → ℕ → Type 0
IsQuoteKind Quoted byte = byte ≡ 39
IsQuoteKind Distinct byte = byte ≡ 34
IsQuoteKind Lower byte = ⊥
IsQuoteKind Variable byte = ⊥
IsQuoteKind Dollar byte = ⊥
IsQuoteKind Number byte = ⊥
IsQuoteKind Connective byte = ⊥
IsQuoteKind Mark byte = ⊥
IsQuoteKind Other byte = ⊥

-- no word, number, quote or mark begins with the byte
pub record IsSignStart (byte : ℕ) : Type 0 where
  pub no_lower : is_lower byte ≡ false
  pub no_upper : is_upper byte ≡ false
  pub no_digit : is_digit byte ≡ false
  pub no_mark : list_any (λ sign. byte == sign) marks ≡ false
  pub no_quote : byte ≢ 39
  pub no_double_quote : byte ≢ 34
  pub no_dollar : byte ≢ 36

-- bytes that may stand inside quotes, so that a closing quote may follow them
unfoldable pub fills : ℕ → List ℕ → Bool
fills quote inside = is_quoted_rest quote false (inside ++ quote ∷ [])

-- how many bytes after the quote may stand inside quotes
abbrev pub filled_length : ℕ → List ℕ → ℕ
filled_length quote bytes = longest (fills quote) bytes

-- The fault of a quote that the first n bytes after it fill: unclosed where the text ends there, or after one more `\`. Else the next
-- byte is bad.
abbrev pub quote_fault : List ℕ → ℕ → Piece
quote_fault bytes n = if is_end (drop n bytes) || bytes_eq (drop n bytes) (92 ∷ []) then Unclosed else Bad (n + 1)

-- the fault where no token begins
abbrev pub fault_piece : ℕ → List ℕ → Piece
fault_piece byte bytes = if is_quote byte then quote_fault bytes (filled_length byte bytes) else Bad 0

-- the piece of the longest token, by its length; where that is 0 no token begins
abbrev pub token_piece : ℕ → List ℕ → ℕ → Piece
token_piece byte bytes zero = fault_piece byte bytes
token_piece byte bytes (suc n) = Token (kind_of (take (suc n) (byte ∷ bytes))) (suc n)

-- the piece where neither a blank nor a comment begins
abbrev pub plain_piece : ℕ → List ℕ → Piece
plain_piece byte bytes = token_piece byte bytes (longest is_token (byte ∷ bytes))

-- the piece at the beginning of a text that isn't empty, by its first byte and the others
unfoldable pub piece_of : ℕ → List ℕ → Piece
piece_of byte bytes =
    if is_blank byte then Space 1
    else if byte == 37 then Space (line_length bytes + 1)
    else if (byte == 47) && starts_with 42 bytes then block_piece (block_end (drop 1 bytes))
    else plain_piece byte bytes

-- a token or a space takes up at least one byte and at most `limit`, and a bad byte stands at most `limit` bytes on
abbrev pub StaysWithin : ℕ → Piece → Type 0
StaysWithin limit (Token kind length) = (0 < length) × (length ≤ limit)
StaysWithin limit (Space length) = (0 < length) × (length ≤ limit)
StaysWithin limit (Bad offset) = offset ≤ limit
StaysWithin limit Unclosed = Unit {0}
