-- The table of answers: the row of `decide`.
use Rattle.std.specs.Prelude.{◌≡◌, ◌⊎◌, ℕ, List, None, Some}
use Rattle.tptp_tree.specs.declared.problem.Annotated.{Annotated}
use Rattle.command_reports.specs.Outside.{Outside, IsTold}
use Rattle.command_words.specs.Words.{decide, command_of}
use Rattle.commands.specs.Problems.{Source, IsFormed, OfFormed, IsRead}
use Rattle.command_reports.specs.DecideReports.{open_formula, IsGroundRefuted, IsGroundTrue, open_report, no_interpretation_report, interpretation_report}
use Rattle.commands.specs.Run.{Taken}
use Rattle.commands.specs.Rows.{Took, IsCut, EndsWith}

-- The words are `decide`, and this is said of it.
pub record ForDecide (words : List (List ℕ)) (Says : Source → Type 0) : Type 0 where
  pub source : Source
  pub is_decide : command_of words ≡ Some (decide source.file source.root)
  pub says : Says source

-- That no interpretation makes the form true was told.
pub record PrintedRefutedForm (taken : Taken) (formulas : List Annotated) : Type 0 where
  pub refuted : IsGroundRefuted formulas
  pub report : Took taken no_interpretation_report

-- That one does was told.
pub record PrintedTrueForm (taken : Taken) (formulas : List Annotated) : Type 0 where
  pub true_form : IsGroundTrue formulas
  pub report : Took taken interpretation_report

-- 15 comes only of `decide`, where no interpretation makes the form true, of which no clause has a variable, and 16 where one does. Where the library
-- tells and nothing failed these are told always, and so is the first formula of which a clause has a variable, with 3. A form without variables has
-- 15 or 16.
pub record DecideRow (words : List (List ℕ)) (outside : Outside) (taken : Taken) (status : ℕ) : Type 0 where
  pub refuted : status ≡ 15 → ForDecide words (λ source. OfFormed (IsRead outside source) (PrintedRefutedForm taken))
  pub has_model : status ≡ 16 → ForDecide words (λ source. OfFormed (IsRead outside source) (PrintedTrueForm taken))
  pub always_refuted :
      (source : Source) (formulas : List Annotated) → IsTold outside → command_of words ≡ Some (decide source.file source.root)
      → IsFormed (IsRead outside source) formulas → IsGroundRefuted formulas → EndsWith taken status 15 no_interpretation_report
  pub always_true :
      (source : Source) (formulas : List Annotated) → IsTold outside → command_of words ≡ Some (decide source.file source.root)
      → IsFormed (IsRead outside source) formulas → IsGroundTrue formulas → EndsWith taken status 16 interpretation_report
  pub always_open :
      (source : Source) (formulas : List Annotated) (name : List ℕ) → IsTold outside
      → command_of words ≡ Some (decide source.file source.root) → IsFormed (IsRead outside source) formulas
      → open_formula formulas ≡ Some name → EndsWith taken status 3 (open_report source.file name)
  pub complete :
      (source : Source) (formulas : List Annotated) → IsTold outside → command_of words ≡ Some (decide source.file source.root)
      → IsFormed (IsRead outside source) formulas → open_formula formulas ≡ None → (status ≡ 15) ⊎ ((status ≡ 16) ⊎ IsCut status)
