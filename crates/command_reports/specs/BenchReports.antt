-- What `bench` reports: the summary of a history of its problem that has ended, and when each comes.
use Rattle.std.specs.Prelude.{◌≡◌, ℕ, List, ◌++◌, codes, length, None}
use Rattle.std.specs.Fmt.{decimal}
use Rattle.tptp_tree.specs.declared.problem.Annotated.{Annotated}
use Rattle.signature.specs.Form.{clausal_form}
use Rattle.pool_history.specs.declared.options.Options.{Options}
use Rattle.command_words.specs.Words.{no_options, options_by}
use Rattle.command_reports.specs.ProveReports.{IsRefuted, IsSaturation, IsSpent, IsHeavy}
use Rattle.command_words.specs.declared.command.ProveOptions.{ProveOptions}

-- the word of the outcome, how many inferences were counted, and how many lines the derivation has
abbrev pub outcome_line : ℕ → List ℕ → List ℕ
outcome_line number word = codes "% bench " ++ decimal number ++ codes " status " ++ word ++ codes "\n"

abbrev pub counts_line : ℕ → ℕ → List ℕ
counts_line counted lines = codes "% counted " ++ decimal counted ++ codes " lines " ++ decimal lines ++ codes "\n"

abbrev pub bench_summary : ℕ → List ℕ → ℕ → ℕ → List ℕ
bench_summary number word counted lines = outcome_line number word ++ counts_line counted lines

-- what stands for the name of a problem's file
abbrev pub bench_name : List ℕ
bench_name = codes "bench"

-- the options of `prove` where none is given
abbrev pub bench_pool : Options
bench_pool = options_by no_options

abbrev pub bench_options : ProveOptions
bench_options = record { pool = bench_pool; axioms = None }

-- The summary of a refutation, with the number of the lines of its accepted derivation, of a saturated set, or where the search gave up: with the
-- number of inferences that were counted in that history. The problem of each number has a conjecture.
pub data IsBenchReport (number : ℕ) (formulas : List Annotated) (status : ℕ) (text : List ℕ) : Type 0 where
  told_theorem :
      (derivation : List ℕ) (h : IsRefuted bench_name formulas bench_options derivation) → status ≡ 0
      → text ≡ bench_summary number (codes "Theorem") (length (h.r).counted) h.count → IsBenchReport number formulas status text
  told_no_theorem :
      (members : List ℕ) (h : IsSaturation (clausal_form formulas).symbols (clausal_form formulas).clauses bench_pool members) → status ≡ 1
      → text ≡ bench_summary number (codes "CounterSatisfiable") (length (h.r).counted) 0 → IsBenchReport number formulas status text
  told_limit :
      (count : ℕ) (h : IsSpent (clausal_form formulas).symbols (clausal_form formulas).clauses bench_pool count) → status ≡ 2
      → text ≡ bench_summary number (codes "GaveUp") (length (h.r).counted) 0 → IsBenchReport number formulas status text
  told_set_aside :
      (key : List ℕ) (h : IsHeavy (clausal_form formulas).symbols (clausal_form formulas).clauses bench_pool key) → status ≡ 2
      → text ≡ bench_summary number (codes "GaveUp") (length (h.r).counted) 0 → IsBenchReport number formulas status text
