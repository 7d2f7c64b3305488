-- The entries of a typed problem but for includes, and the tokens that spell them: type declarations and typed formulas.
use Rattle.std.specs.Prelude.{◌≡◌, ℕ, ◌+◌, Bool, true, false, not, ◌&&◌, ◌||◌, List, [], ◌∷◌, map, length, take, drop, codes, bytes_eq, Some}
use Rattle.std.specs.List.{filter}
use Rattle.tptp_token.specs.Words.{is_word, is_variable}
use Rattle.tptp_token.specs.Lexemes.{Lexeme, lexeme}
use Rattle.tptp_token.specs.declared.token.Kind.TheVariants.{Lower, Mark}
use Rattle.tptp_token.specs.declared.token.Token.{Token}
use Rattle.tptp_tree.specs.declared.role.Role.{Role}
use Rattle.tptp_tree.specs.Brackets.{are_balanced}
use Rattle.tptp_tree.specs.Entries.{NamePhrase, name_lexeme, is_right_name, is_conjecture, role_of, notes_lexemes}
use Rattle.typed_tree.specs.Sorts.{DeclarationTree}
use Rattle.typed_tree.specs.TypedFormula.{TypedTree}
use Rattle.typed_tree.specs.TypedSpelling.{Phrase, phrase_lexemes, meant, DeclarationPhrase, declaration_lexemes, declaration_meant}

-- ---- entries

-- what follows a name: the role `type` and a declaration, or another role and a formula
pub data BodyPhrase : Type 0 where
  declaration_body : DeclarationPhrase → BodyPhrase
  formula_body : List ℕ → Phrase → BodyPhrase

-- `tff(f,type,f: s > t).` or `tff(a,axiom,! [X: s] : p(X)).`, with notes before the last bracket or without
pub record TypedPhrase : Type 0 where
  pub name : NamePhrase
  pub body : BodyPhrase
  pub notes : List Lexeme

abbrev pub role_word_of : BodyPhrase → List ℕ
role_word_of (declaration_body d) = codes "type"
role_word_of (formula_body role p) = role

-- a formula's role isn't `type`
abbrev pub is_right_body : BodyPhrase → Bool
is_right_body (declaration_body d) = true
is_right_body (formula_body role p) = not (bytes_eq (codes "type") role)

-- The name is a word or of digits alone, the role is none of declarations for a formula, and the brackets of the notes close.
abbrev pub is_right_typed : TypedPhrase → Bool
is_right_typed p = is_right_name p.name && (is_right_body p.body && are_balanced p.notes)

abbrev pub body_lexemes : BodyPhrase → List Lexeme → List Lexeme
body_lexemes (declaration_body d) rest = declaration_lexemes d rest
body_lexemes (formula_body role p) rest = phrase_lexemes p rest

-- the tokens from `tff` to the full stop, then `rest`
abbrev pub typed_lexemes : TypedPhrase → List Lexeme → List Lexeme
typed_lexemes p rest =
    lexeme Lower (codes "tff") ∷ lexeme Mark (codes "(") ∷ name_lexeme p.name ∷ lexeme Mark (codes ",")
    ∷ lexeme Lower (role_word_of p.body) ∷ lexeme Mark (codes ",")
    ∷ body_lexemes p.body (notes_lexemes p.notes (lexeme Mark (codes ")") ∷ lexeme Mark (codes ".") ∷ rest))

-- ---- the places of words: where the faults of sorts and types may stand

abbrev pub is_word_or_variable : Token → Bool
is_word_or_variable t = is_word t.kind || is_variable t.kind

-- the places of the words and variables among some tokens, in order
abbrev pub word_places : List Token → List ℕ
word_places tokens = map (λ (t : Token). t.start) (filter is_word_or_variable tokens)

-- those of an entry's body, where the entry begins at a token: the body stands after `tff ( NAME , ROLE ,`
abbrev pub body_places : TypedPhrase → List Token → ℕ → List ℕ
body_places p tokens first = word_places (take (length (body_lexemes p.body [])) (drop (first + 6) tokens))

-- ---- the content of an entry

pub data BodyTree : Type 0 where
  declaration_tree : DeclarationTree → BodyTree
  formula_tree : Role → TypedTree → BodyTree

-- an entry's name and body, and the places of the body's words and variables
pub record TypedEntryTree : Type 0 where
  pub name : List ℕ
  pub body : BodyTree
  pub places : List ℕ

-- a formula that is to be proved
abbrev pub is_conjecture_body : BodyTree → Bool
is_conjecture_body (declaration_tree d) = false
is_conjecture_body (formula_tree role f) = is_conjecture role

-- The role is one that `fof` takes.
abbrev pub IsBodyOf : BodyPhrase → BodyTree → Type 0
IsBodyOf (declaration_body d) body = body ≡ declaration_tree (declaration_meant d)
IsBodyOf (formula_body word p) body = (role : Role) × (role_of false word ≡ Some role) × (body ≡ formula_tree role (meant p))
