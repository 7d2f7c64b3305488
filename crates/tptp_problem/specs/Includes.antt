-- The includes among a text's tokens, and where a text stops to be one.
use Rattle.std.specs.Prelude.{◌≡◌, ◌≤◌, ◌<◌, ℕ, suc, ◌-◌, Bool, true, false, List, [], ◌∷◌, ◌++◌, length, take, drop, codes}
use Rattle.tptp_token.specs.Lexemes.{Lexeme, is_lexeme}
use Rattle.tptp_token.specs.declared.token.Kind.TheVariants.{Lower}
use Rattle.tptp_token.specs.Words.{Word}
use Rattle.tptp_tree.specs.Entries.{NamePhrase, EntryPhrase, whole_include, selected_include, is_right_entry, entry_lexemes}

-- an entry is an include by its first word
abbrev pub is_include : List Lexeme → Bool
is_include [] = false
is_include (token ∷ tokens) = is_lexeme Lower (codes "include") token

-- Where no names are listed, all formulas are taken.
abbrev pub include_phrase : Word → List NamePhrase → EntryPhrase
include_phrase file [] = whole_include file
include_phrase file (name ∷ names) = selected_include file (record { first = name; others = names })

-- the include from one token up to the other
pub record IsInclude (tokens : List Lexeme) (first : ℕ) (file : Word) (names : List NamePhrase) (next : ℕ) : Type 0 where
  pub right : is_right_entry (include_phrase file names) ≡ true
  pub spelled : drop first tokens ≡ entry_lexemes (include_phrase file names) (drop next tokens)
  pub within : next ≤ length tokens

abbrev pub HasNoInclude : List Lexeme → ℕ → Type 0
HasNoInclude tokens first = (file : Word) → (names : List NamePhrase) → (next : ℕ) → IsInclude tokens first file names next → ⊥

-- the tokens are the first ones of some include
pub record BeginsInclude (tokens : List Lexeme) : Type 0 where
  pub file : Word
  pub names : List NamePhrase
  pub more : List Lexeme
  pub right : is_right_entry (include_phrase file names) ≡ true
  pub continued : entry_lexemes (include_phrase file names) [] ≡ tokens ++ more

-- No include goes on with the token of that index, and none ends before it.
pub record StopsInclude (tokens : List Lexeme) (first index : ℕ) : Type 0 where
  pub behind : first ≤ index
  pub within : index < length tokens
  pub before : BeginsInclude (take (index - first) (drop first tokens))
  pub stops : BeginsInclude (take (suc index - first) (drop first tokens)) → ⊥
  pub none : HasNoInclude tokens first

-- The tokens end before the include does.
pub record CutsInclude (tokens : List Lexeme) (first : ℕ) : Type 0 where
  pub before : BeginsInclude (drop first tokens)
  pub none : HasNoInclude tokens first
