-- The answers of reading an include.
use Rattle.std.specs.Prelude.{◌≡◌, ◌≤◌, ◌<◌, ◌+◌, ◌*◌, ◌^◌, ⊤, ℕ, List, ◌∷◌, length, drop}
use Rattle.std.specs.Str.{IsAscii}
use Rattle.tptp_token.specs.Lexemes.{Lexeme}
use Rattle.tptp_token.specs.Words.{Word, name_of, token_name}
use Rattle.tptp_tree.specs.Entries.{NamePhrase, names_meant}
use Rattle.tptp_problem.specs.declared.include.Include.{Include}
use Rattle.tptp_problem.specs.declared.include.Ending.{Ending}
use Rattle.tptp_problem.specs.declared.include.Ending.TheVariants.{Whole, Stopped, Cut}
use Rattle.tptp_problem.specs.declared.source.Source.{Source}
use Rattle.tptp_problem.specs.Awaiting.{AreNamesAt}
use Rattle.tptp_problem.specs.Includes.{IsInclude}
use Rattle.tptp_problem.specs.Shape.{lexemes_told}

-- the include that begins at the token, with its file's word and its names
pub record IsIncludeRead (source : Source) (first : ℕ) (include : Include) : Type 0 where
  pub file : Word
  pub names : List NamePhrase
  pub spelled : IsInclude (lexemes_told source) first file names include.next
  pub file_is : include.file ≡ name_of file
  pub names_are : include.names ≡ names_meant names
  pub ascii : IsAscii include.file
  pub room : first + 5 + 2 * length include.names ≤ include.next

-- the names that stand from one token on, up to the bracket at the other
pub record ReadsNames (source : Source) (first end : ℕ) (names : List (List ℕ)) : Type 0 where
  pub by : (all : List NamePhrase) → AreNamesAt (lexemes_told source) end first all → names ≡ names_meant all

-- the name of the token at that index
pub record IsNameAt (source : Source) (at : ℕ) (name : List ℕ) : Type 0 where
  pub by : (t : Lexeme) (ts : List Lexeme) → drop at (lexemes_told source) ≡ t ∷ ts → name ≡ token_name t.kind t.bytes

-- the index of a token is a `usize`
abbrev pub FitsEnding : Ending → Type 0
FitsEnding (Whole next) = next < 2 ^ 64
FitsEnding (Stopped index) = ⊤
FitsEnding Cut = ⊤
