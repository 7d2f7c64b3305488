-- The problem of a command: its formulas, by what tells that they are the command's, or its first fault; and the report on it.
use Rattle.std.specs.Prelude.{◌≡◌, ℕ, List, map, Option, None, Some}
use Rattle.tptp_tree.specs.declared.problem.Annotated.{Annotated}
use Rattle.tptp_reader.specs.declared.cause.ReadCause.{ReadCause}
use Rattle.tptp_problem.specs.Formulas.{placed}
use Rattle.tptp_problem.specs.Problem.{IsProblem, IsProblemFault}
use Rattle.tptp_problem.specs.Shape.{IsLoadTold}
use Rattle.clausal_form.specs.Fault.{form_fault}
use Rattle.clausal_form.specs.declared.fault.FormCause.{FormCause}
use Rattle.command_reports.specs.Outside.{Outside}
use Rattle.command_reports.specs.Reports.{read_status, unread_report, unformed_report}

-- ---- the problem of a file

-- the file, and the folder of includes where it is given
pub record Source : Type 0 where
  pub file : List ℕ
  pub root : Option (List ℕ)

abbrev pub source_at : List ℕ → Option (List ℕ) → Source
source_at file root = record { file = file; root = root }

abbrev pub IsRead : Outside → Source → List Annotated → Type 0
IsRead outside source formulas = IsProblem outside.told source.file source.root (map placed formulas)

-- The first fault of the problem. A file is told to have failed only where the library's count of faults rose.
pub record IsUnread (outside : Outside) (source : Source) (cause : ReadCause) (file : List ℕ) (place : ℕ) : Type 0 where
  pub fault : IsProblemFault outside.told outside.found_after source.file source.root cause file place
  pub load : IsLoadTold outside.faults_before outside.faults_after outside.failed_after cause file place

-- ---- formulas, by what tells that they are a command's: that they were read, or made

-- They are within the limits of a clausal form.
pub record IsFormed (Gives : List Annotated → Type 0) (formulas : List Annotated) : Type 0 where
  pub read : Gives formulas
  pub within : form_fault formulas ≡ None

-- The first formula that passes a limit.
pub record IsUnformed (Gives : List Annotated → Type 0) (cause : FormCause) (name : List ℕ) : Type 0 where
  pub formulas : List Annotated
  pub read : Gives formulas
  pub fault : form_fault formulas ≡ Some (cause, name)

-- They are within the limits, and this is said of them.
pub record OfFormed (Gives Says : List Annotated → Type 0) : Type 0 where
  pub formulas : List Annotated
  pub formed : IsFormed Gives formulas
  pub says : Says formulas

-- ---- the report, as a status and a text: the first stage that fails reports

-- The report of the problem's first fault, or of the first formula that passes a limit, or what is said of the formulas: where they come so,
-- faults are told so, and the problem's file has this name.
pub data IsReport (Gives : List Annotated → Type 0) (Fails : ReadCause → List ℕ → ℕ → Type 0) (file : List ℕ)
    (Says : List Annotated → ℕ → List ℕ → Type 0) (status : ℕ) (text : List ℕ) : Type 0 where
  told_unread :
      (cause : ReadCause) (name : List ℕ) (place : ℕ) → Fails cause name place → status ≡ read_status cause
      → text ≡ unread_report file cause name place → IsReport Gives Fails file Says status text
  told_unformed :
      (cause : FormCause) (name : List ℕ) → IsUnformed Gives cause name → status ≡ 3 → text ≡ unformed_report file cause name
      → IsReport Gives Fails file Says status text
  of_formulas :
      (formulas : List Annotated) → IsFormed Gives formulas → Says formulas status text
      → IsReport Gives Fails file Says status text

-- where the formulas are read
abbrev pub IsReadReport : Outside → Source → (List Annotated → ℕ → List ℕ → Type 0) → ℕ → List ℕ → Type 0
IsReadReport outside source Says status text = IsReport (IsRead outside source) (IsUnread outside source) source.file Says status text
