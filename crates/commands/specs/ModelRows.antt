-- The table of answers: the rows of `model`.
use Rattle.std.specs.Prelude.{◌≡◌, ◌⊎◌, ℕ, ◌+◌, List, Some}
use Rattle.tptp_tree.specs.declared.problem.Annotated.{Annotated}
use Rattle.signature.specs.Form.{clausal_form}
use Rattle.laws_meaning.specs.Meaning.{has_conjecture}
use Rattle.finite_models.specs.Found.{AreRuledOut, IsTooLarge}
use Rattle.command_reports.specs.Outside.{Outside, IsTold}
use Rattle.command_words.specs.Words.{model, command_of}
use Rattle.commands.specs.Problems.{Source, IsFormed, OfFormed, IsRead}
use Rattle.command_reports.specs.ModelReports.{IsFoundModel, HasNoModelTo, IsTooLargeAt, found_report, no_model_report, too_large_report}
use Rattle.commands.specs.Run.{Taken}
use Rattle.commands.specs.Rows.{Took, IsCut, EndsWith, IsValid}

-- The words are `model`, and this is said of it.
pub record ForModel (words : List (List ℕ)) (Says : Source → ℕ → Type 0) : Type 0 where
  pub source : Source
  pub most : ℕ
  pub is_model : command_of words ≡ Some (model source.file source.root most)
  pub says : Says source most

-- The report of a least model, with the word CounterSatisfiable exactly where there is a conjecture, was taken.
pub record PrintedModel (taken : Taken) (file : List ℕ) (most : ℕ) (formulas : List Annotated) : Type 0 where
  pub table : List ℕ
  pub found : IsFoundModel formulas most table
  pub report : Took taken (found_report file (has_conjecture formulas) table)

-- The report that there is no model up to a size was taken.
pub record PrintedNoModel (taken : Taken) (file : List ℕ) (most : ℕ) (formulas : List Annotated) : Type 0 where
  pub no_model : HasNoModelTo formulas most
  pub report : Took taken (no_model_report file most)

-- The report of the least size that is too large was taken.
pub record PrintedTooLarge (taken : Taken) (file : List ℕ) (most : ℕ) (formulas : List Annotated) : Type 0 where
  pub size : ℕ
  pub too_large : IsTooLargeAt formulas most size
  pub report : Took taken (too_large_report file size)

abbrev pub PrintedGivenUp : Taken → List ℕ → ℕ → List Annotated → Type 0
PrintedGivenUp taken file most formulas = PrintedNoModel taken file most formulas ⊎ PrintedTooLarge taken file most formulas

-- 11 comes only of `model`, with a least model. 12 comes only of `model`, where no size has one or one is too large; and where the library
-- tells and nothing failed each of these is told always, if it is so of the clausal form. Where nothing is wrong with the problem either,
-- `model` ends with 11 or 12, or the run is cut.
pub record ModelRow (words : List (List ℕ)) (outside : Outside) (taken : Taken) (status : ℕ) : Type 0 where
  pub found :
      status ≡ 11 → ForModel words (λ source most. OfFormed (IsRead outside source) (PrintedModel taken source.file most))
  pub given_up :
      status ≡ 12 → ForModel words (λ source most. OfFormed (IsRead outside source) (PrintedGivenUp taken source.file most))
  pub always_none :
      (source : Source) (most : ℕ) (formulas : List Annotated) → IsTold outside
      → command_of words ≡ Some (model source.file source.root most) → IsFormed (IsRead outside source) formulas
      → AreRuledOut (clausal_form formulas) (most + 1) → EndsWith taken status 12 (no_model_report source.file most)
  pub always_too_large :
      (source : Source) (most size : ℕ) (formulas : List Annotated) → IsTold outside
      → command_of words ≡ Some (model source.file source.root most) → IsFormed (IsRead outside source) formulas
      → IsTooLarge (clausal_form formulas) most size → EndsWith taken status 12 (too_large_report source.file size)
  pub complete :
      (source : Source) (most : ℕ) → IsTold outside → command_of words ≡ Some (model source.file source.root most)
      → IsValid outside source → (status ≡ 11) ⊎ ((status ≡ 12) ⊎ IsCut status)
