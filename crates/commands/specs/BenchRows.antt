-- The table of answers: the row of `bench`.
use Rattle.std.specs.Prelude.{◌≡◌, ◌⊎◌, ℕ, List, Some}
use Rattle.command_words.specs.Words.{bench, command_of}
use Rattle.commands.specs.BenchProblem.{bench_formulas}
use Rattle.command_reports.specs.BenchReports.{IsBenchReport}
use Rattle.commands.specs.Run.{Taken}
use Rattle.commands.specs.Rows.{Took, IsCut}

-- The words are `bench`, and this is said of its number.
pub record ForBench (words : List (List ℕ)) (Says : ℕ → Type 0) : Type 0 where
  pub number : ℕ
  pub is_bench : command_of words ≡ Some (bench number)
  pub says : Says number

-- The summary of a history of the problem that ended with this status was taken.
pub record PrintedSummary (taken : Taken) (number status : ℕ) : Type 0 where
  pub text : List ℕ
  pub told : IsBenchReport number (bench_formulas number) status text
  pub report : Took taken text

-- `bench` ends with 0, 1 or 2, as the history of its problem, whatever the library does; or the run is cut.
abbrev pub BenchRow : List (List ℕ) → Taken → ℕ → Type 0
BenchRow words taken status =
    (number : ℕ) → command_of words ≡ Some (bench number) → PrintedSummary taken number status ⊎ IsCut status
