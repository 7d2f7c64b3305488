-- What each command reports. The commands meet here: one more adds its line to `source_of` and to `Says`, and one that makes its problem to `Gives`
-- and `Fails`.
use Rattle.std.specs.Prelude.{◌≡◌, ℕ, List, None}
use Rattle.tptp_tree.specs.declared.problem.Annotated.{Annotated}
use Rattle.tptp_reader.specs.declared.cause.ReadCause.{ReadCause}
use Rattle.command_reports.specs.Outside.{Outside}
use Rattle.command_words.specs.Words.{Command, prove, check, bench, model, list_ground, decide}
use Rattle.commands.specs.Problems.{Source, source_at, IsRead, IsUnread, IsReport}
use Rattle.command_reports.specs.ProveReports.{IsProofReport}
use Rattle.command_reports.specs.CheckReports.{IsCheckReport}
use Rattle.command_reports.specs.ModelReports.{IsModelReport}
use Rattle.commands.specs.BenchProblem.{bench_formulas}
use Rattle.command_reports.specs.BenchReports.{bench_name, IsBenchReport}
use Rattle.command_reports.specs.GroundReports.{IsGroundReport}
use Rattle.command_reports.specs.DecideReports.{IsDecideReport}

-- the problem's file, and the folder of includes where it is given; or the name of a problem that no file spells
abbrev pub source_of : Command → Source
source_of (prove file root options workers) = source_at file root
source_of (check file derivation root) = source_at file root
source_of (bench number) = source_at bench_name None
source_of (model file root most) = source_at file root
source_of (list_ground file derivation root) = source_at file root
source_of (decide file root) = source_at file root

-- how its formulas come: `bench` makes them, each other command reads them
abbrev pub Gives : Outside → Command → List Annotated → Type 0
Gives outside (bench number) = λ formulas. formulas ≡ bench_formulas number
Gives outside command = IsRead outside (source_of command)

-- and when a fault is its first: what is made has none
abbrev pub Fails : Outside → Command → ReadCause → List ℕ → ℕ → Type 0
Fails outside (bench number) = λ cause name place. ⊥
Fails outside command = IsUnread outside (source_of command)

-- and what is reported of them
abbrev pub Says : Outside → Command → List Annotated → ℕ → List ℕ → Type 0
Says outside (prove file root options workers) = IsProofReport file options
Says outside (check file derivation root) = IsCheckReport outside file derivation
Says outside (bench number) = IsBenchReport number
Says outside (model file root most) = IsModelReport file most
Says outside (list_ground file derivation root) = IsGroundReport outside file derivation
Says outside (decide file root) = IsDecideReport file

-- A report of a command, with its cause.
abbrev pub IsAnswered : Command → Outside → ℕ → List ℕ → Type 0
IsAnswered command outside status text =
    IsReport (Gives outside command) (Fails outside command) (source_of command).file (Says outside command) status text
