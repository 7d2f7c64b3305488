-- The table of answers: the rows of `check`.
use Rattle.std.specs.Prelude.{◌≡◌, ◌⊎◌, ℕ, List, Some}
use Rattle.tptp_tree.specs.declared.problem.Annotated.{Annotated}
use Rattle.clausal_form.specs.DerivationTexts.{IsAcceptedDerivation}
use Rattle.tstp_checker.specs.declared.cause.Cause.{Cause}
use Rattle.command_reports.specs.Outside.{Outside, IsTold}
use Rattle.command_words.specs.Words.{check, list_ground, command_of}
use Rattle.commands.specs.Problems.{Source, IsFormed, OfFormed, IsRead}
use Rattle.command_reports.specs.CheckReports.{IsLoaded, IsRefusedText, IsTooLong, accepted_line, refused_line}
use Rattle.commands.specs.Run.{Taken}
use Rattle.commands.specs.Rows.{Took, EndsWith}

-- The words are `check`, and this is said of it.
pub record ForCheck (words : List (List ℕ)) (Says : Source → List ℕ → Type 0) : Type 0 where
  pub source : Source
  pub derivation : List ℕ
  pub is_check : command_of words ≡ Some (check source.file derivation source.root)
  pub says : Says source derivation

-- The words are `ground`, and this is said of it.
pub record ForListing (words : List (List ℕ)) (Says : Source → List ℕ → Type 0) : Type 0 where
  pub source : Source
  pub derivation : List ℕ
  pub is_listing : command_of words ≡ Some (list_ground source.file derivation source.root)
  pub says : Says source derivation

-- The words are a command that checks a derivation, and this is said of it.
abbrev pub ForDerivation : List (List ℕ) → (Source → List ℕ → Type 0) → Type 0
ForDerivation words Says = ForCheck words Says ⊎ ForListing words Says

-- ---- 0 and 9

-- The text of the derivation's file is accepted, and the report of that was taken.
pub record PrintedAcceptance (outside : Outside) (taken : Taken) (derivation : List ℕ) (formulas : List Annotated) : Type 0 where
  pub text : List ℕ
  pub loaded : IsLoaded outside derivation text
  pub lines : ℕ
  pub accepted : IsAcceptedDerivation formulas text lines
  pub report : Took taken (accepted_line lines)

-- The text is refused at its first bad line, or the file is too long, and the report of that was taken.
pub record PrintedRefusal (outside : Outside) (taken : Taken) (derivation : List ℕ) (formulas : List Annotated) : Type 0 where
  pub line : ℕ
  pub cause : Cause
  pub refused : IsRefusedText outside derivation formulas line cause ⊎ IsTooLong outside derivation line cause
  pub report : Took taken (refused_line line cause)

-- 0 of `check` comes only with an accepted derivation. 9 comes only of `check` and `ground`, with one that is refused or too long, and
-- where the library tells and nothing failed these are told always.
pub record CheckedRow (words : List (List ℕ)) (outside : Outside) (taken : Taken) (status : ℕ) : Type 0 where
  pub accepted :
      (source : Source) (derivation : List ℕ) → command_of words ≡ Some (check source.file derivation source.root) → status ≡ 0
      → OfFormed (IsRead outside source) (PrintedAcceptance outside taken derivation)
  pub refused :
      status ≡ 9 → ForDerivation words (λ source derivation. OfFormed (IsRead outside source) (PrintedRefusal outside taken derivation))
  pub always :
      (source : Source) (derivation : List ℕ) (formulas : List Annotated) (line : ℕ) (cause : Cause) → IsTold outside
      → command_of words ≡ Some (check source.file derivation source.root) → IsFormed (IsRead outside source) formulas
      → IsRefusedText outside derivation formulas line cause ⊎ IsTooLong outside derivation line cause
      → EndsWith taken status 9 (refused_line line cause)
