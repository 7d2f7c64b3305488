-- The table of answers: the rows of `prove`.
use Rattle.std.specs.Prelude.{◌≡◌, ◌⊎◌, ◌<◌, ℕ, List, length, Some}
use Rattle.tptp_tree.specs.declared.problem.Annotated.{Annotated}
use Rattle.signature.specs.Form.{clausal_form}
use Rattle.laws_meaning.specs.Meaning.{has_conjecture}
use Rattle.command_reports.specs.Outside.{Outside}
use Rattle.command_words.specs.Words.{prove, command_of}
use Rattle.commands.specs.Problems.{Source, OfFormed, IsRead}
use Rattle.command_reports.specs.Parts.{inputs_by, left_out}
use Rattle.command_reports.specs.ProveReports.{IsRefuted, IsSpent, IsHeavy, IsSaturation, refuted_report, saturated_report, part_saturated_report, spent_report, heavy_report}
use Rattle.commands.specs.BenchRows.{ForBench, PrintedSummary}
use Rattle.commands.specs.Run.{Taken}
use Rattle.commands.specs.Rows.{Took}
use Rattle.command_words.specs.declared.command.ProveOptions.{ProveOptions}

-- The words are `prove`, and this is said of it.
pub record ForProve (words : List (List ℕ)) (Says : Source → ProveOptions → Type 0) : Type 0 where
  pub source : Source
  pub options : ProveOptions
  pub workers : ℕ
  pub is_prove : command_of words ≡ Some (prove source.file source.root options workers)
  pub says : Says source options

-- ---- 0: a refutation

-- The report of a refutation, with the word Theorem exactly where there is a conjecture, was taken.
pub record PrintedRefutation (taken : Taken) (file : List ℕ) (options : ProveOptions) (formulas : List Annotated) : Type 0 where
  pub derivation : List ℕ
  pub refuted : IsRefuted file formulas options derivation
  pub report : Took taken (refuted_report file (has_conjecture formulas) derivation)

-- With 0 of `prove` an accepted derivation was printed: that of a lawful history.
abbrev pub PrintedRow : List (List ℕ) → Outside → Taken → ℕ → Type 0
PrintedRow words outside taken status =
    (source : Source) (options : ProveOptions) (workers : ℕ)
    → command_of words ≡ Some (prove source.file source.root options workers) → status ≡ 0
    → OfFormed (IsRead outside source) (PrintedRefutation taken source.file options)

-- ---- 1: a saturated set

-- The report of a saturated set, with the word CounterSatisfiable exactly where there is a conjecture, was taken.
pub record PrintedSaturation (taken : Taken) (file : List ℕ) (options : ProveOptions) (formulas : List Annotated) : Type 0 where
  pub members : List ℕ
  pub whole : left_out options.axioms formulas ≡ 0
  pub saturation : IsSaturation (clausal_form formulas).symbols (clausal_form formulas).clauses options.pool members
  pub report : Took taken (saturated_report file (has_conjecture formulas) members)

-- 1 comes only of `prove`, where no formula is left out, with the members of a lawful history that ended so; or of `bench`, with its summary.
abbrev pub SaturatedRow : List (List ℕ) → Outside → Taken → ℕ → Type 0
SaturatedRow words outside taken status =
    status ≡ 1
    → ForProve words (λ source options. OfFormed (IsRead outside source) (PrintedSaturation taken source.file options))
    ⊎ ForBench words (λ number. PrintedSummary taken number 1)

-- ---- 10: a set that is saturated for a part

-- The report of a saturated set, and of how many formulas were left out of all, was taken.
pub record PrintedPartSaturation (taken : Taken) (file : List ℕ) (options : ProveOptions) (formulas : List Annotated) : Type 0 where
  pub members : List ℕ
  pub some_left : 0 < left_out options.axioms formulas
  pub saturation : IsSaturation (clausal_form formulas).symbols (inputs_by options.axioms formulas) options.pool members
  pub report : Took taken (part_saturated_report file (left_out options.axioms formulas) (length formulas) members)

-- 10 comes only of `prove`, where the selection leaves formulas out, with the members of a lawful history of the others that ended so.
abbrev pub PartSaturatedRow : List (List ℕ) → Outside → Taken → ℕ → Type 0
PartSaturatedRow words outside taken status =
    status ≡ 10 → ForProve words (λ source options. OfFormed (IsRead outside source) (PrintedPartSaturation taken source.file options))

-- ---- 2: gave up

-- The report that so many entries were counted was taken.
pub record PrintedSpent (taken : Taken) (file : List ℕ) (options : ProveOptions) (formulas : List Annotated) : Type 0 where
  pub count : ℕ
  pub spent : IsSpent (clausal_form formulas).symbols (inputs_by options.axioms formulas) options.pool count
  pub report : Took taken (spent_report file count options.pool.inferences)

-- The report that an inference is too heavy was taken.
pub record PrintedHeavy (taken : Taken) (file : List ℕ) (options : ProveOptions) (formulas : List Annotated) : Type 0 where
  pub key : List ℕ
  pub heavy : IsHeavy (clausal_form formulas).symbols (inputs_by options.axioms formulas) options.pool key
  pub report : Took taken (heavy_report file key)

-- 2 comes only of `prove`, with the count, or the inference set aside, of a lawful history that ended so; or of `bench`, with its summary.
abbrev pub GaveUpRow : List (List ℕ) → Outside → Taken → ℕ → Type 0
GaveUpRow words outside taken status =
    status ≡ 2
    → ForProve words (λ source options.
    OfFormed (IsRead outside source) (λ formulas. PrintedSpent taken source.file options formulas ⊎ PrintedHeavy taken source.file options formulas))
    ⊎ ForBench words (λ number. PrintedSummary taken number 2)
