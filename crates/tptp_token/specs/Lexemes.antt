-- The tokens of a text by their kinds and bytes.
use Rattle.std.specs.Prelude.{◌≡◌, ℕ, ◌<◌, ◌+◌, ◌-◌, ◌==◌, ◌&&◌, Bool, true, None, List, ◌∷◌, map, take, drop, length, bytes_eq}
use Rattle.std.specs.List.{AllByRecursion}
use Rattle.tptp_token.specs.Spelling.{spells}
use Rattle.tptp_token.specs.Words.{Word, bare, quoted}
use Rattle.tptp_token.specs.Lexing.{lexed_of}
use Rattle.tptp_token.specs.declared.token.Kind.{Kind}
use Rattle.tptp_token.specs.declared.token.Kind.TheVariants.{Lower, Variable, Quoted, Distinct, Dollar, Number, Connective, Mark, Other}
use Rattle.tptp_token.specs.declared.token.Token.{Token}

-- a token as its kind and its bytes: `abc` is a lower word, `<=>` a connective
pub record Lexeme : Type 0 where
  pub kind : Kind
  pub bytes : List ℕ

-- the token of this kind with these bytes
abbrev pub lexeme : Kind → List ℕ → Lexeme
lexeme kind bytes = record { kind = kind; bytes = bytes }

-- the token of a word: a lower word, or a quoted word with its quotes
abbrev pub word_lexeme : Word → Lexeme
word_lexeme (bare bytes) = lexeme Lower bytes
word_lexeme (quoted bytes) = lexeme Quoted bytes

-- a token of a text, with the bytes at its place
abbrev pub lexeme_at : List ℕ → Token → Lexeme
lexeme_at bytes token = record { kind = token.kind; bytes = take (token.end - token.start) (drop token.start bytes) }

-- the tokens of a text, in order
abbrev pub lexemes_of : List ℕ → List Token → List Lexeme
lexemes_of bytes tokens = map (lexeme_at bytes) tokens

-- the token at an index of the text's tokens
pub record IsTokenAt (bytes : List ℕ) (tokens : List Token) (at : ℕ) (token : Lexeme) : Type 0 where
  pub here : drop at (lexemes_of bytes tokens) ≡ token ∷ drop (at + 1) (lexemes_of bytes tokens)
  pub within : at < length tokens

-- ---- tests

-- a number for each kind, by which kinds are compared
abbrev pub kind_place : Kind → ℕ
kind_place Lower = 0
kind_place Variable = 1
kind_place Quoted = 2
kind_place Distinct = 3
kind_place Dollar = 4
kind_place Number = 5
kind_place Connective = 6
kind_place Mark = 7
kind_place Other = 8

-- the token is of the kind and has the bytes
abbrev pub is_lexeme : Kind → List ℕ → Lexeme → Bool
is_lexeme kind bytes token = (kind_place kind == kind_place token.kind) && bytes_eq bytes token.bytes

-- the token is the mark with these bytes, such as `(`
abbrev pub is_mark : List ℕ → Lexeme → Bool
is_mark = is_lexeme Mark

-- the token is the connective with these bytes, such as `&`
abbrev pub is_connective : List ℕ → Lexeme → Bool
is_connective = is_lexeme Connective

-- ---- texts

-- the whole text consists of these tokens, blanks and comments, without a fault
pub record IsLexedAs (bytes : List ℕ) (lexemes : List Lexeme) : Type 0 where
  pub whole : (lexed_of bytes).fault ≡ None
  pub tokens : map (lexeme_at bytes) (lexed_of bytes).tokens ≡ lexemes

-- the bytes of each token spell its kind
abbrev pub TokensAreSpelled : Type 0
TokensAreSpelled =
    (bytes : List ℕ) → AllByRecursion (λ (t : Token). spells t.kind (lexeme_at bytes t).bytes ≡ true) (lexed_of bytes).tokens
