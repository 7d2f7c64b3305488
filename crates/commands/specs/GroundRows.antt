-- The table of answers: the row of `ground`.
use Rattle.std.specs.Prelude.{◌≡◌, ◌⊎◌, ◌≤◌, ℕ, List, Some}
use Rattle.fol_base.specs.Ground.{GroundClause}
use Rattle.tptp_tree.specs.declared.problem.Annotated.{Annotated}
use Rattle.signature.specs.Form.{clausal_form}
use Rattle.kernel_steps.specs.declared.step.Line.{Line}
use Rattle.herbrand_list.specs.GroundList.{ground_list, weight}
use Rattle.herbrand_list.specs.declared.fault.TheConstants.{MOST_WEIGHT}
use Rattle.tstp_checker.specs.declared.cause.Cause.{Cause}
use Rattle.command_reports.specs.Outside.{Outside, IsTold}
use Rattle.command_words.specs.Words.{list_ground, command_of}
use Rattle.commands.specs.Problems.{Source, IsFormed, OfFormed, IsRead}
use Rattle.command_reports.specs.CheckReports.{IsLoaded, IsRefusedText, IsTooLong, refused_line}
use Rattle.command_reports.specs.GroundReports.{form_constant, IsNameless, IsGroundListOf, HasNamesAt, HasLargeList, listed_report, names_report, large_report}
use Rattle.commands.specs.CheckRows.{ForListing}
use Rattle.commands.specs.Run.{Taken}
use Rattle.commands.specs.Rows.{Took, IsCut, EndsWith, IsValid}

-- The text of the derivation's file has this ground list, and the report of that was taken.
pub record PrintedList (outside : Outside) (taken : Taken) (derivation : List ℕ) (formulas : List Annotated) : Type 0 where
  pub bytes : List ℕ
  pub loaded : IsLoaded outside derivation bytes
  pub list : List GroundClause
  pub listed : IsGroundListOf formulas bytes list
  pub report : Took taken (listed_report (clausal_form formulas).symbols list)

-- A line of it speaks of names, and the report of the first one was taken.
pub record PrintedNames (outside : Outside) (taken : Taken) (derivation : List ℕ) (formulas : List Annotated) : Type 0 where
  pub bytes : List ℕ
  pub loaded : IsLoaded outside derivation bytes
  pub line : ℕ
  pub named : HasNamesAt formulas bytes line
  pub report : Took taken (names_report line)

-- The list is too large, and the report of that was taken.
pub record PrintedLarge (outside : Outside) (taken : Taken) (derivation : List ℕ) (formulas : List Annotated) : Type 0 where
  pub bytes : List ℕ
  pub loaded : IsLoaded outside derivation bytes
  pub large : HasLargeList formulas bytes
  pub report : Took taken large_report

abbrev pub PrintedUnlisted : Outside → Taken → List ℕ → List Annotated → Type 0
PrintedUnlisted outside taken derivation formulas = PrintedNames outside taken derivation formulas ⊎ PrintedLarge outside taken derivation formulas

-- 13 comes only of `ground`, with the ground list of a derivation that is accepted. 14 comes only of `ground`, where a line of it speaks of names or
-- the list is too large. Where the library tells and nothing failed, each text of a derivation has its answer always: its list, the first line that
-- speaks of names, that the list is too large, or the first bad line. So it ends with 13, 14 or 9 there, or the run is cut.
pub record GroundRow (words : List (List ℕ)) (outside : Outside) (taken : Taken) (status : ℕ) : Type 0 where
  pub listed :
      status ≡ 13 → ForListing words (λ source derivation. OfFormed (IsRead outside source) (PrintedList outside taken derivation))
  pub unlisted :
      status ≡ 14 → ForListing words (λ source derivation. OfFormed (IsRead outside source) (PrintedUnlisted outside taken derivation))
  pub always_listed :
      (source : Source) (derivation bytes : List ℕ) (formulas : List Annotated) (lines : List Line) → IsTold outside
      → command_of words ≡ Some (list_ground source.file derivation source.root) → IsFormed (IsRead outside source) formulas
      → IsLoaded outside derivation bytes → IsNameless formulas bytes lines → weight (form_constant formulas) lines ≤ MOST_WEIGHT
      → EndsWith taken status 13 (listed_report (clausal_form formulas).symbols (ground_list (form_constant formulas) lines))
  pub always_named :
      (source : Source) (derivation bytes : List ℕ) (formulas : List Annotated) (line : ℕ) → IsTold outside
      → command_of words ≡ Some (list_ground source.file derivation source.root) → IsFormed (IsRead outside source) formulas
      → IsLoaded outside derivation bytes → HasNamesAt formulas bytes line → EndsWith taken status 14 (names_report line)
  pub always_large :
      (source : Source) (derivation bytes : List ℕ) (formulas : List Annotated) → IsTold outside
      → command_of words ≡ Some (list_ground source.file derivation source.root) → IsFormed (IsRead outside source) formulas
      → IsLoaded outside derivation bytes → HasLargeList formulas bytes → EndsWith taken status 14 large_report
  pub always_refused :
      (source : Source) (derivation : List ℕ) (formulas : List Annotated) (line : ℕ) (cause : Cause) → IsTold outside
      → command_of words ≡ Some (list_ground source.file derivation source.root) → IsFormed (IsRead outside source) formulas
      → IsRefusedText outside derivation formulas line cause ⊎ IsTooLong outside derivation line cause
      → EndsWith taken status 9 (refused_line line cause)
  pub complete :
      (source : Source) (derivation text : List ℕ) → IsTold outside → command_of words ≡ Some (list_ground source.file derivation source.root)
      → IsValid outside source → IsLoaded outside derivation text → (status ≡ 13) ⊎ ((status ≡ 14) ⊎ ((status ≡ 9) ⊎ IsCut status))
