-- The table of answers: what each status of a run says of the words of its command line, what the library tells of the run, and what the
-- sink took. A write that fails, or out of memory, may take the place of each other status. Here are the rows of all commands. Those of one
-- command stand by themselves: ProveRows, CheckRows, BenchRows, ModelRows, GroundRows, DecideRows.
use Rattle.std.specs.Prelude.{◌≡◌, ◌⊎◌, ℕ, List, Some, None}
use Rattle.outside.specs.Faults.{Rose}
use Rattle.outside.specs.Sink.{with_bytes, HasPrefixAfter}
use Rattle.tptp_tree.specs.declared.problem.Annotated.{Annotated}
use Rattle.tptp_reader.specs.declared.cause.Form.{Form}
use Rattle.tptp_reader.specs.declared.cause.ReadCause.{ReadCause}
use Rattle.tptp_reader.specs.declared.cause.ReadCause.TheVariants.{Inappropriate, Load}
use Rattle.tptp_problem.specs.Problem.{IsProblemFault}
use Rattle.clausal_form.specs.FormFunctions.{IsHerbrandRefuted}
use Rattle.clausal_form.specs.DerivationTexts.{IsAcceptedDerivation}
use Rattle.clausal_form.specs.declared.fault.FormCause.{FormCause}
use Rattle.command_reports.specs.Outside.{Outside, IsTold}
use Rattle.command_reports.specs.Meaning.{IsTheorem}
use Rattle.command_words.specs.Words.{Command, prove, check, list_ground, decide, command_of}
use Rattle.command_words.specs.declared.command.ProveOptions.{ProveOptions}
use Rattle.command_reports.specs.declared.status.TheConstants.{SINK_FAILED, USAGE_SHOWN, MEMORY_OUT}
use Rattle.commands.specs.Problems.{Source, IsUnformed, IsFormed, OfFormed, IsRead}
use Rattle.command_reports.specs.CheckReports.{IsLoaded, IsUnloaded}
use Rattle.command_reports.specs.DecideReports.{open_formula, open_report}
use Rattle.commands.specs.Answer.{Gives, Fails}
use Rattle.command_reports.specs.Reports.{read_status, unread_report, unformed_report, lost_report, memory_out_report, usage_report}
use Rattle.commands.specs.Run.{file_of, Taken, IsDue}

-- ---- words and ends

-- The words are a command, and this is said of it.
pub record ForCommand (words : List (List ℕ)) (Says : Command → Type 0) : Type 0 where
  pub command : Command
  pub is_command : command_of words ≡ Some command
  pub says : Says command

-- The sink took this text whole.
abbrev pub Took : Taken → List ℕ → Type 0
Took taken text = taken.bytes_after ≡ with_bytes taken.bytes_before text

-- out of memory, or a write failed
abbrev pub IsCut : ℕ → Type 0
IsCut status = (status ≡ MEMORY_OUT) ⊎ (status ≡ SINK_FAILED)

-- This status with this report, or a run that is cut.
abbrev pub EndsWith : Taken → ℕ → ℕ → List ℕ → Type 0
EndsWith taken status due text = ((status ≡ due) × Took taken text) ⊎ IsCut status

-- ---- 0: a theorem

-- some finite list of ground instances of the clausal form is true in no interpretation, and the problem is a theorem
abbrev pub IsRefutedTheorem : List Annotated → Type 0
IsRefutedTheorem formulas = IsHerbrandRefuted formulas × IsTheorem formulas

-- 0 comes only where the problem is refuted and a theorem.
abbrev pub TheoremRow : List (List ℕ) → Outside → ℕ → Type 0
TheoremRow words outside status =
    status ≡ 0 → ForCommand words (λ command. OfFormed (Gives outside command) IsRefutedTheorem)

-- ---- 3 and 8: the problem isn't read, or has no clausal form

-- The report of the problem's first fault was taken.
pub record PrintedUnread (outside : Outside) (taken : Taken) (command : Command) (cause : ReadCause) : Type 0 where
  pub name : List ℕ
  pub place : ℕ
  pub unread : Fails outside command cause name place
  pub report : Took taken (unread_report (file_of command) cause name place)

-- The report of the first formula that passes a limit was taken.
pub record PrintedUnformed (outside : Outside) (taken : Taken) (command : Command) : Type 0 where
  pub cause : FormCause
  pub name : List ℕ
  pub unformed : IsUnformed (Gives outside command) cause name
  pub report : Took taken (unformed_report (file_of command) cause name)

-- The formula is the first of which a clause has a variable, where the command takes none.
abbrev pub IsOpen : Outside → Command → List ℕ → Type 0
IsOpen outside (decide file root) name = OfFormed (Gives outside (decide file root)) (λ formulas. open_formula formulas ≡ Some name)
IsOpen outside command name = ⊥

-- The report of that was taken.
pub record PrintedOpen (outside : Outside) (taken : Taken) (command : Command) : Type 0 where
  pub name : List ℕ
  pub is_open : IsOpen outside command name
  pub report : Took taken (open_report (file_of command) name)

-- the problem's first fault is one of status 3
abbrev pub PrintedInputFault : Outside → Taken → Command → Type 0
PrintedInputFault outside taken command = (cause : ReadCause) × (read_status cause ≡ 3) × PrintedUnread outside taken command cause

-- 8 comes only where the problem's first fault is a form left out, and 3 only where it is another one that isn't a failed load, where a formula
-- passes a limit, or, in `decide`, where a clause has a variable. Where the library tells and nothing failed, the
-- problem's first fault is told always, with the status of its cause.
pub record ReadFaultRow (words : List (List ℕ)) (outside : Outside) (taken : Taken) (status : ℕ) : Type 0 where
  pub only_inappropriate :
      status ≡ 8 → ForCommand words (λ command. (form : Form) × PrintedUnread outside taken command (Inappropriate form))
  pub only_input_error :
      status ≡ 3
      → ForCommand words (λ command.
      PrintedInputFault outside taken command ⊎ (PrintedUnformed outside taken command ⊎ PrintedOpen outside taken command))
  pub always :
      (command : Command) (cause : ReadCause) (name : List ℕ) (place : ℕ) → IsTold outside → command_of words ≡ Some command
      → Fails outside command cause name place
      → EndsWith taken status (read_status cause) (unread_report (file_of command) cause name place)

-- Where the library tells and nothing failed, the first formula that passes a limit is told always, with 3.
abbrev pub FormFaultRow : List (List ℕ) → Outside → Taken → ℕ → Type 0
FormFaultRow words outside taken status =
    (command : Command) (cause : FormCause) (name : List ℕ) → IsTold outside → command_of words ≡ Some command
    → IsUnformed (Gives outside command) cause name → EndsWith taken status 3 (unformed_report (file_of command) cause name)

-- ---- 4: a load failed

-- The derivation's file, where the command has one, couldn't be loaded, after the problem had got its clausal form.
abbrev pub IsDerivationLost : Outside → Command → List ℕ → Type 0
IsDerivationLost outside (check file derivation root) name =
    OfFormed (Gives outside (check file derivation root)) (λ formulas. IsUnloaded outside derivation name)
IsDerivationLost outside (list_ground file derivation root) name =
    OfFormed (Gives outside (list_ground file derivation root)) (λ formulas. IsUnloaded outside derivation name)
IsDerivationLost outside command name = ⊥

-- The library failed on a file of the problem, or on the derivation's, and the report of that was taken.
pub record PrintedLoadFault (outside : Outside) (taken : Taken) (command : Command) : Type 0 where
  pub name : List ℕ
  pub lost : ((place : ℕ) × Fails outside command Load name place) ⊎ IsDerivationLost outside command name
  pub report : Took taken (lost_report (file_of command) name)

-- 4 comes only where a load failed, and so the library's count of faults rose.
abbrev pub LoadFaultRow : List (List ℕ) → Outside → Taken → ℕ → Type 0
LoadFaultRow words outside taken status = status ≡ 4 → ForCommand words (PrintedLoadFault outside taken)

-- ---- 5: a write failed

-- The sink's count of faults rose, and it took a prefix of a report that was due.
pub record IsLost (words : List (List ℕ)) (outside : Outside) (taken : Taken) : Type 0 where
  pub rose : Rose taken.faults_before taken.faults_after
  pub due : ℕ
  pub text : List ℕ
  pub is_due : IsDue (command_of words) outside due text
  pub prefix : HasPrefixAfter taken.bytes_before taken.bytes_after text

-- 5 comes only so. With each other status the sink's count of faults is as it was.
pub record LostOutputRow (words : List (List ℕ)) (outside : Outside) (taken : Taken) (status : ℕ) : Type 0 where
  pub only : status ≡ SINK_FAILED → IsLost words outside taken
  pub otherwise : (status ≡ SINK_FAILED → ⊥) → taken.faults_after ≡ taken.faults_before

-- ---- 6: usage

-- 6 comes exactly where the words are usage, but that a write that fails takes its place.
pub record UsageRow (words : List (List ℕ)) (taken : Taken) (status : ℕ) : Type 0 where
  pub only : status ≡ USAGE_SHOWN → command_of words ≡ None
  pub always : command_of words ≡ None → ((status ≡ USAGE_SHOWN) × Took taken usage_report) ⊎ (status ≡ SINK_FAILED)

-- ---- 7: out of memory

abbrev pub MemoryOutRow : List (List ℕ) → Taken → ℕ → Type 0
MemoryOutRow words taken status = status ≡ MEMORY_OUT → ForCommand words (λ command. Took taken (memory_out_report (file_of command)))

-- ---- completeness

-- Nothing is wrong with the problem: there is no first fault, but for a load that failed, and no formula passes a limit.
pub record IsValid (outside : Outside) (source : Source) : Type 0 where
  pub read :
      (cause : ReadCause) (name : List ℕ) (place : ℕ) → (cause ≡ Load → ⊥)
      → IsProblemFault outside.told outside.found_after source.file source.root cause name place → ⊥
  pub formed : (cause : FormCause) (name : List ℕ) → IsUnformed (IsRead outside source) cause name → ⊥

-- what `check` says of a text: 0 and it is accepted, or 9 and it isn't
pub data IsSettled (outside : Outside) (source : Source) (text : List ℕ) (status : ℕ) : Type 0 where
  by_acceptance :
      (formulas : List Annotated) (lines : ℕ) → status ≡ 0 → IsFormed (IsRead outside source) formulas → IsAcceptedDerivation formulas text lines
      → IsSettled outside source text status
  by_refusal :
      (formulas : List Annotated) → status ≡ 9 → IsFormed (IsRead outside source) formulas
      → ((lines : ℕ) → IsAcceptedDerivation formulas text lines → ⊥) → IsSettled outside source text status

-- Where the library tells, nothing failed and nothing is wrong with the problem, `prove` ends with 0, 1, 2 or 10, and `check` with 0 or 9 by the
-- text of its derivation; or the run is cut. (By `PartSaturatedRow` 10 wants formulas that are left out. What the
-- other commands answer is in their rows.)
pub record CompleteRow (words : List (List ℕ)) (outside : Outside) (status : ℕ) : Type 0 where
  pub proves :
      (source : Source) (options : ProveOptions) (workers : ℕ) → IsTold outside
      → command_of words ≡ Some (prove source.file source.root options workers)
      → IsValid outside source → (status ≡ 0) ⊎ ((status ≡ 1) ⊎ ((status ≡ 2) ⊎ ((status ≡ 10) ⊎ IsCut status)))
  pub checks :
      (source : Source) (derivation text : List ℕ) → IsTold outside → command_of words ≡ Some (check source.file derivation source.root)
      → IsValid outside source → IsLoaded outside derivation text → IsSettled outside source text status ⊎ IsCut status
