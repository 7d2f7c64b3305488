-- The answers of reading an annotated formula from a text's tokens.
use Rattle.std.specs.Prelude.{◌≡◌, ◌⊎◌, ℕ, ◌+◌, ◌≤◌, ◌++◌, List, [], drop, length, Some, None, IfSome, slice_get}
use Rattle.tptp_token.specs.Lexemes.{lexemes_of}
use Rattle.tptp_token.specs.declared.token.Token.{Token}
use Rattle.tptp_token.specs.declared.token.Lexed.{Lexed}
use Rattle.tptp_token.specs.declared.token.LexFault.TheVariants.{BadByte as BadByteAt, Unclosed as UnclosedAt}
use Rattle.tptp_tree.specs.Entries.{AnnotatedPhrase, IsAnnotatedOf}
use Rattle.tptp_tree.specs.Causes.{Refusal, syntax, free_variable, role_not_taken, too_deep, left_out}
use Rattle.tptp_reader.specs.Placed.{IsReadFrom, IsRefusedFrom, RunsOutFrom}
use Rattle.tptp_reader.specs.Faults.{IsFaultWhere}
use Rattle.tptp_reader.specs.Shape.{form_of}
use Rattle.tptp_tree.specs.Shape.{entry_of}
use Rattle.tptp_reader.specs.declared.cause.ReadCause.{ReadCause}
use Rattle.tptp_reader.specs.declared.cause.ReadCause.TheVariants.{BadByte, Unclosed, Syntax, FreeVariable, Role, SecondConjecture, SelectionMissing, IncludeDepth, TooLong, Nesting, Inappropriate, Load}
use Rattle.tptp_reader.specs.declared.cause.ReadFault.{ReadFault}
use Rattle.tptp_reader.specs.declared.entry.Read.{Read}

-- The formula that begins at the token `first` is read, within that limit of nesting. It is followed by the token `next`; its
-- notes stand before the bracket and the full stop that close it; its place is that of its first byte.
pub record IsReading (limit : ℕ) (bytes : List ℕ) (tokens : List Token) (first : ℕ) (read : Read) : Type 0 where
  pub phrase : AnnotatedPhrase
  pub spelled : IsReadFrom limit (lexemes_of bytes tokens) first phrase read.next
  pub meant : IsAnnotatedOf phrase (entry_of read.annotated)
  pub within : read.next ≤ length tokens
  pub notes : drop read.notes_start (lexemes_of bytes tokens) ≡ phrase.notes ++ drop read.notes_end (lexemes_of bytes tokens)
  pub close : read.notes_end + 2 ≡ read.next
  pub place : IfSome (slice_get tokens first) (λ t. read.annotated.place ≡ t.start)
  pub file : read.annotated.file ≡ []

-- two readings agree on the formula, its file and place, and its tokens
pub record IsSameReading (read other : Read) : Type 0 where
  pub tree : entry_of read.annotated ≡ entry_of other.annotated
  pub place : read.annotated.place ≡ other.annotated.place
  pub file : read.annotated.file ≡ other.annotated.file
  pub start : read.notes_start ≡ other.notes_start
  pub end : read.notes_end ≡ other.notes_end
  pub next : read.next ≡ other.next

-- The token that begins at that place ends the reading.
pub record StandsAt (limit : ℕ) (bytes : List ℕ) (tokens : List Token) (first : ℕ) (refusal : Refusal) (place : ℕ) : Type 0 where
  pub index : ℕ
  pub token : Token
  pub here : slice_get tokens index ≡ Some token
  pub starts : place ≡ token.start
  pub refused : IsRefusedFrom limit (lexemes_of bytes tokens) first index refusal

-- The tokens end before the formula does.
abbrev pub TokensRunOut : ℕ → List ℕ → Lexed → ℕ → Type 0
TokensRunOut limit bytes lexed first = RunsOutFrom limit (lexemes_of bytes lexed.tokens) first

-- Where the tokens end too early, the fault of the tokens is told, or else the end of the text. The other causes are those of
-- a whole problem.
abbrev pub IsFaultAt : ℕ → List ℕ → Lexed → ℕ → ReadCause → ℕ → Type 0
IsFaultAt limit bytes lexed first BadByte place = TokensRunOut limit bytes lexed first × (lexed.fault ≡ Some (BadByteAt place))
IsFaultAt limit bytes lexed first Unclosed place = TokensRunOut limit bytes lexed first × (lexed.fault ≡ Some (UnclosedAt place))
IsFaultAt limit bytes lexed first Syntax place =
    StandsAt limit bytes lexed.tokens first syntax place
    ⊎ TokensRunOut limit bytes lexed first × (lexed.fault ≡ None) × (place ≡ length bytes)
IsFaultAt limit bytes lexed first FreeVariable place = StandsAt limit bytes lexed.tokens first free_variable place
IsFaultAt limit bytes lexed first Role place = StandsAt limit bytes lexed.tokens first role_not_taken place
IsFaultAt limit bytes lexed first SecondConjecture place = ⊥
IsFaultAt limit bytes lexed first SelectionMissing place = ⊥
IsFaultAt limit bytes lexed first IncludeDepth place = ⊥
IsFaultAt limit bytes lexed first TooLong place = ⊥
IsFaultAt limit bytes lexed first Nesting place = StandsAt limit bytes lexed.tokens first too_deep place
IsFaultAt limit bytes lexed first (Inappropriate form) place = StandsAt limit bytes lexed.tokens first (left_out (form_of form)) place
IsFaultAt limit bytes lexed first Load place = ⊥

-- The fault of the formula that begins at the token `first`.
abbrev pub IsFaultOf : ℕ → List ℕ → Lexed → ℕ → ReadFault → Type 0
IsFaultOf limit bytes lexed first fault =
    IsFaultWhere (λ cause file place. (file ≡ []) × IsFaultAt limit bytes lexed first cause place) fault
