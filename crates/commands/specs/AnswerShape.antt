-- The answers of a command's stages, in the words of the definitions.
use Rattle.std.specs.Prelude.{◌≡◌, ⊤, ℕ, List, map, position, Option, None, Some, IsTrue}
use Rattle.std.specs.Option.{option_copied}
use Rattle.outside.specs.Library.{Holdings}
use Rattle.fol_base.specs.Clause.{TreeClause}
use Rattle.fol_base.specs.Literal.{clause_of}
use Rattle.tptp_tree.specs.ProblemSize.{HasProblemSize}
use Rattle.tptp_tree.specs.declared.problem.Annotated.{Annotated}
use Rattle.tptp_tree.specs.declared.problem.Problem.{Problem}
use Rattle.tptp_problem.specs.Formulas.{placed}
use Rattle.tptp_problem.specs.Problem.{IsProblem}
use Rattle.signature.specs.Form.{clausal_form}
use Rattle.clausal_form.specs.Form.{form_of}
use Rattle.clausal_form.specs.Fault.{form_fault}
use Rattle.clausal_form.specs.FormFunctions.{IsHerbrandRefuted}
use Rattle.clausal_form.specs.DerivationTexts.{IsAcceptedDerivation, IsRefusedDerivation}
use Rattle.kernel_steps.specs.declared.step.Line.{Line}
use Rattle.tstp_checker.specs.Causes.{cause_meant}
use Rattle.tstp_checker.specs.declared.cause.Cause.{Cause}
use Rattle.laws_meaning.specs.Meaning.{are_closed}
use Rattle.pool_history.specs.Outcomes.{is_at_rest, is_of_living}
use Rattle.pool_history.specs.Record.{PoolRecord}
use Rattle.pool_history.specs.Saturated.{members_of}
use Rattle.pool_history.specs.declared.options.Options.{Options}
use Rattle.pool_history.specs.declared.outcome.Outcome.{Outcome}
use Rattle.pool_history.specs.declared.outcome.Outcome.TheVariants.{Refuted, Saturated, Spent, Heavy}
use Rattle.pool_history.specs.Replay.{replay}
use Rattle.worker_team.specs.Proved.{IsProvedFrom}
use Rattle.worker_team.specs.declared.proved.Proved.{Proved as ProvedPool}
use Rattle.pool_writer.specs.Refuted.{IsRefutationText}
use Rattle.tstp_writer.specs.ProblemLaws.{ArePrintableEntries}
use Rattle.command_reports.specs.Outside.{Outside}
use Rattle.command_reports.specs.Meaning.{IsTheorem}
use Rattle.command_reports.specs.Names.{shown}
use Rattle.command_reports.specs.BenchReports.{bench_name}
use Rattle.commands.specs.Problems.{Source, IsUnread, IsUnformed, IsRead}
use Rattle.command_reports.specs.Parts.{part_clauses, part_numbers, numbers_by, left_out}
use Rattle.command_reports.specs.ProveReports.{HasCounted, AreSaturatedFor}
use Rattle.command_reports.specs.CheckReports.{accepted_line, refused_line}
use Rattle.command_reports.specs.Reports.{read_status, unread_report, unformed_report}
use Rattle.commands.specs.declared.problem.FormedProblem.{FormedProblem}
use Rattle.commands.specs.declared.problem.Stop.{Stop}
use Rattle.commands.specs.declared.problem.Stop.TheVariants.{NoMemory, Unread as NotRead, Unformed as NotFormed}
use Rattle.commands.specs.declared.proved.ProveFault.{ProveFault}
use Rattle.commands.specs.declared.proved.ProveFault.TheVariants.{NoMemory as WithoutMemory, Form}
use Rattle.commands.specs.declared.prove.Beginning.{Beginning}
use Rattle.commands.specs.declared.proved.Proved.{Proved}
use Rattle.commands.specs.declared.proved.ProvedPart.{ProvedPart}
use Rattle.command_words.specs.declared.command.AxiomSelection.{AxiomSelection}

-- ---- the conditions on a problem

-- However a problem came: no formula has a free variable, its names and formulas can be printed in a derivation, and it has few enough
-- symbols.
pub record IsAdmissible (formulas : List Annotated) : Type 0 where
  pub closed : IsTrue (are_closed formulas)
  pub printable : ArePrintableEntries formulas
  pub size : HasProblemSize formulas

-- ---- stages

-- The problem is that of the file.
pub record IsReadFrom (told : Option Holdings) (source : Source) (problem : Problem) : Type 0 where
  pub read : IsProblem told source.file source.root (map placed problem.formulas)
  pub admissible : IsAdmissible problem.formulas

-- and it is with its clausal form.
pub record IsFormedFrom (told : Option Holdings) (source : Source) (formed : FormedProblem) : Type 0 where
  pub read_from : IsReadFrom told source formed.problem
  pub within : form_fault formed.problem.formulas ≡ None
  pub form : form_of formed.form ≡ clausal_form formed.problem.formulas

-- out of memory, or the fault of a stage
abbrev pub IsStop : Outside → Source → Stop → Type 0
IsStop outside source NoMemory = ⊤
IsStop outside source (NotRead cause file place) = IsUnread outside source cause file place
IsStop outside source (NotFormed cause name) = IsUnformed (IsRead outside source) cause name

-- the report of a fault; out of memory has none of its own
abbrev pub IsStopReport : List ℕ → Stop → ℕ → List ℕ → Type 0
IsStopReport file NoMemory status text = ⊥
IsStopReport file (NotRead cause name place) status text = (status ≡ read_status cause) × (text ≡ unread_report file cause name place)
IsStopReport file (NotFormed cause name) status text = (status ≡ 3) × (text ≡ unformed_report file cause name)

-- The report of what is judged of a text.
pub data IsJudgement (formulas : List Annotated) (bytes : List ℕ) (status : ℕ) (text : List ℕ) : Type 0 where
  judged_accepted :
      (lines : ℕ) → IsAcceptedDerivation formulas bytes lines → IsHerbrandRefuted formulas → IsTheorem formulas → status ≡ 0
      → text ≡ accepted_line lines → IsJudgement formulas bytes status text
  judged_refused :
      (line : ℕ) (cause : Cause) → IsRefusedDerivation formulas bytes line (cause_meant cause) → status ≡ 9 → text ≡ refused_line line cause
      → IsJudgement formulas bytes status text

-- ---- proofs

-- The problem is within the limits of a clausal form, and the pool of these clauses of the form with these options has ended.
pub record IsProvedForm (formulas : List Annotated) (inputs : List TreeClause) (options : Options) (proved : ProvedPool) : Type 0 where
  pub within : form_fault formulas ≡ None
  pub pool : IsProvedFrom inputs options proved

-- and the form stands beside it.
pub record IsProvedProblem (formulas : List Annotated) (options : Options) (proved : Proved) : Type 0 where
  pub form : form_of proved.form ≡ clausal_form formulas
  pub ended : IsProvedForm formulas (clausal_form formulas).clauses options (record { outcome = proved.outcome; pool = proved.pool; bank = proved.bank })

-- what is kept beside a pool of the clauses with which a proof begins
abbrev pub IsBeginning : List Annotated → Option AxiomSelection → Beginning → Type 0
IsBeginning formulas axioms beginning =
    (option_copied beginning.numbers ≡ numbers_by axioms formulas) × (beginning.left_out ≡ left_out axioms formulas)

-- The meaning of an outcome for the problem. Refuted: finitely many ground instances of its form are true in no interpretation, and where no
-- formula has a free variable, every finite interpretation that makes the axioms true makes the conjecture true. Saturated: the members are
-- saturated for the clauses with which the pool began. Spent: that number of entries was counted. Heavy: nothing is left to do but the first
-- inference of living awake clauses that was set aside.
abbrev pub OutcomeSays : List Annotated → List TreeClause → Options → PoolRecord → Outcome → Type 0
OutcomeSays formulas inputs options r Refuted = IsHerbrandRefuted formulas × (IsTrue (are_closed formulas) → IsTheorem formulas)
OutcomeSays formulas inputs options r Saturated = AreSaturatedFor (clausal_form formulas).symbols inputs options (members_of r)
OutcomeSays formulas inputs options r (Spent count) = HasCounted (clausal_form formulas).symbols options count r
OutcomeSays formulas inputs options r (Heavy place) = IsTrue (is_at_rest r) × (position (is_of_living r) r.set_aside ≡ Some place)

-- of the pool that has ended
abbrev pub PoolSays : List Annotated → List TreeClause → Options → ProvedPool → Type 0
PoolSays formulas inputs options proved = OutcomeSays formulas inputs options (replay proved.pool.origin proved.pool.history) proved.outcome

-- The pool of the clauses that come from the formulas at these places has ended. They stand beside it, with their numbers in the form.
pub record IsProvedPart (formulas : List Annotated) (kept : List ℕ) (options : Options) (part : ProvedPart) : Type 0 where
  pub clauses : map clause_of part.restricted.clauses ≡ part_clauses kept formulas
  pub numbers : part.restricted.numbers ≡ part_numbers kept formulas
  pub ended : IsProvedForm formulas (part_clauses kept formulas) options part.proved
  pub says : PoolSays formulas (part_clauses kept formulas) options part.proved

-- The derivation that these lines of a bench problem's refuted pool amount to is accepted, and has so many lines.
pub record HasLines (formulas : List Annotated) (lines : List Line) (count : ℕ) : Type 0 where
  pub text : List ℕ
  pub written : IsRefutationText (shown bench_name) formulas lines text
  pub accepted : IsAcceptedDerivation formulas text count

-- The problem has no clausal form, because of the formula of that name; or the program is out of memory.
abbrev pub IsProveFault : List Annotated → ProveFault → Type 0
IsProveFault formulas (Form cause name) = form_fault formulas ≡ Some (cause, name)
IsProveFault formulas WithoutMemory = ⊤
