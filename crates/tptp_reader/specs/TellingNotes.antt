-- The contracts of the functions that read notes: what each says of the tokens before and after.
use Rattle.std.specs.Prelude.{◌≡◌, ◌+◌, ⊤, ℕ, Bool, true, false, List, [], ◌∷◌, ◌++◌, map, drop, length, reverse, codes, Option, None, Some}
use Rattle.tptp_token.specs.Lexemes.{Lexeme, is_mark, lexeme}
use Rattle.tptp_token.specs.declared.token.Kind.TheVariants.{Mark}
use Rattle.tptp_tree.specs.Brackets.{Bracket, round, square, curly, closes, opened, is_closing, with_opened, open_after, are_balanced}
use Rattle.tptp_tree.specs.Causes.{too_deep, note_cause}
use Rattle.tptp_reader.specs.Machine.{mark, first_note}
use Rattle.tptp_reader.specs.Telling.{lexemes, IsNext, Leads}
use Rattle.tptp_reader.specs.declared.source.Reader.{Reader}
use Rattle.tptp_reader.specs.declared.cause.Halt.{Halt}
use Rattle.tptp_reader.specs.declared.cause.Halt.TheVariants.{NoMemory, At, Ended}
use Rattle.tptp_reader.specs.declared.cause.Refusal.TheVariants.{Nesting}
use Rattle.tptp_reader.specs.declared.notes.Bracket.{Bracket as ToldBracket}
use Rattle.tptp_reader.specs.declared.notes.Bracket.TheVariants.{Round, Square, Curly}

abbrev pub bracket_of : ToldBracket → Bracket
bracket_of Round = round
bracket_of Square = square
bracket_of Curly = curly

-- the brackets that are open, innermost first, by those of a vector, innermost last
abbrev pub stack_of : List ToldBracket → List Bracket
stack_of brackets = reverse (map bracket_of brackets)

abbrev pub told_bracket : Option ToldBracket → Option Bracket
told_bracket None = None
told_bracket (Some b) = Some (bracket_of b)

-- the token closes the innermost bracket
abbrev pub closes_first : List Bracket → Lexeme → Bool
closes_first [] token = false
closes_first (b ∷ bs) token = closes b token

-- a token of notes: whether it goes on with them, and the brackets that are open after it
abbrev pub GoesOn : ℕ → List Bracket → Lexeme → Bool → List Bracket → Type 0
GoesOn limit unclosed token true behind =
    (open_after unclosed token ≡ Some behind) × (note_cause limit (length unclosed) (opened token) ≡ None)
GoesOn limit unclosed token false behind = (open_after unclosed token ≡ None) × (behind ≡ unclosed)

-- or that it begins a level over the limit
abbrev pub TooDeep : ℕ → List Bracket → Lexeme → Type 0
TooDeep limit unclosed token =
    (behind : List Bracket) × (open_after unclosed token ≡ Some behind)
    × (note_cause limit (length unclosed) (opened token) ≡ Some too_deep)

abbrev pub IsTooDeep : ℕ → List Bracket → Lexeme → ℕ → Halt → Type 0
IsTooDeep limit unclosed token index NoMemory = ⊤
IsTooDeep limit unclosed token index (At refusal place) = (refusal ≡ Nesting) × (place ≡ index) × TooDeep limit unclosed token
IsTooDeep limit unclosed token index Ended = ⊥

-- the bracket of the entry, where none of the notes is open
abbrev pub is_end_of_notes : List Bracket → Lexeme → Bool
is_end_of_notes [] token = is_mark (codes ")") token
is_end_of_notes (b ∷ bs) token = false

-- notes, up to the bracket after them
pub record ReadsNotes (r : Reader) (at next : ℕ) : Type 0 where
  pub first : Lexeme
  pub others : List Lexeme
  pub balanced : are_balanced (first ∷ others) ≡ true
  pub spelled : drop at (lexemes r) ≡ (first ∷ others) ++ drop next (lexemes r)
  pub closed : IsNext r next (lexeme Mark (codes ")"))
  pub leads : Leads r (first_note r.limit ∷ []) at (mark (codes ".") ∷ []) (next + 1)

-- a token of notes that doesn't close the innermost bracket: whether it goes on with them, and the
-- brackets that are open after it
abbrev pub EntersWith : ℕ → List Bracket → Lexeme → Bool → List Bracket → Type 0
EntersWith limit unclosed token true behind =
    (with_opened (opened token) (is_closing token) unclosed ≡ Some behind)
    × (note_cause limit (length unclosed) (opened token) ≡ None)
EntersWith limit unclosed token false behind =
    (with_opened (opened token) (is_closing token) unclosed ≡ None) × (behind ≡ unclosed)

abbrev pub EntersTooDeep : ℕ → List Bracket → Lexeme → ℕ → Halt → Type 0
EntersTooDeep limit unclosed token index NoMemory = ⊤
EntersTooDeep limit unclosed token index (At refusal place) =
    (refusal ≡ Nesting) × (place ≡ index)
    × ((behind : List Bracket) × (with_opened (opened token) (is_closing token) unclosed ≡ Some behind)
    × (note_cause limit (length unclosed) (opened token) ≡ Some too_deep))
EntersTooDeep limit unclosed token index Ended = ⊥
