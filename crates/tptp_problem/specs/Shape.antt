-- The program's values in the words of the definitions.
use Rattle.std.specs.Prelude.{◌≡◌, ◌≤◌, ℕ, List, map, length, Option, IfSome}
use Rattle.outside.specs.Faults.{Rose}
use Rattle.tptp_token.specs.declared.limits.TheConstants.{MOST_TEXT_BYTES}
use Rattle.tptp_token.specs.Lexemes.{Lexeme, lexemes_of}
use Rattle.tptp_token.specs.Lexing.{lexed_of}
use Rattle.tptp_reader.specs.declared.cause.ReadCause.{ReadCause}
use Rattle.tptp_reader.specs.declared.cause.ReadCause.TheVariants.{Load}
use Rattle.tptp_problem.specs.declared.selection.Selection.{Selection}
use Rattle.tptp_problem.specs.declared.source.Source.{Source}
use Rattle.tptp_problem.specs.declared.reading.Reading.{Reading}
use Rattle.tptp_problem.specs.Languages.{Language}
use Rattle.tptp_problem.specs.Problem.{LoadedFile, Progress}

-- the names of each selection
abbrev pub selections : List Selection → List (List (List ℕ))
selections around = map (λ (s : Selection). s.names.now) around

abbrev pub file_of : Source → LoadedFile
file_of s = record { name = s.name.now; bytes = s.bytes.now; around = selections s.around.now }

-- the tokens of a source
abbrev pub lexemes_told : Source → List Lexeme
lexemes_told s = lexemes_of s.bytes.now s.lexed.now.tokens

-- the tokens are those of the bytes
pub record IsLexed (s : Source) : Type 0 where
  pub lexed_is : s.lexed.now ≡ lexed_of s.bytes.now
  pub small : length s.bytes.now ≤ MOST_TEXT_BYTES

abbrev pub progress_of : Reading → Progress
progress_of r = record { loaded = r.loaded; met = r.met }

-- A load is told to have failed only where the library's count of faults rose; the name is that of the last load that failed,
-- where it tells.
abbrev pub IsLoadTold : ℕ → ℕ → Option (List ℕ) → ReadCause → List ℕ → ℕ → Type 0
IsLoadTold before after failed cause file place = cause ≡ Load → Rose before after × IfSome failed (λ name. name ≡ file)

-- the same of a cause in a language
abbrev pub IsLoadToldIn : {Tree Cause : Type 0} → Language Tree Cause → ℕ → ℕ → Option (List ℕ) → Cause → List ℕ → ℕ → Type 0
IsLoadToldIn language before after failed cause file place =
    cause ≡ language.cause Load → Rose before after × IfSome failed (λ name. name ≡ file)
