-- What `prove` reports of the formulas of its problem: the texts, and when each comes.
use Rattle.std.specs.Prelude.{◌≡◌, ◌≢◌, ◌≤◌, ◌<◌, ℕ, Bool, true, false, List, ◌++◌, codes, length, Some, slice_get, All, AllPairs, IsTrue}
use Rattle.std.specs.Fmt.{decimal}
use Rattle.fol_base.specs.Clause.{TreeClause}
use Rattle.fol_base.specs.Symbols.{FunctionSymbols}
use Rattle.tptp_tree.specs.declared.problem.Annotated.{Annotated}
use Rattle.signature.specs.Form.{clausal_form}
use Rattle.signature.specs.declared.symbol.Symbol.{Symbol}
use Rattle.kernel_steps.specs.Keys.{key_text}
use Rattle.kernel_steps.specs.Named.{IsInference}
use Rattle.kernel_steps.specs.declared.key.Key.{Key}
use Rattle.literal_selection.specs.Mode.{mode_of}
use Rattle.laws_calculus.specs.Lifting.{among}
use Rattle.laws_calculus.specs.Symbols.{HasSymbolsOf}
use Rattle.clausal_form.specs.FormFunctions.{is_predicate_in, OwnFunctions, IsHerbrandRefuted}
use Rattle.clausal_form.specs.DerivationTexts.{IsAcceptedDerivation}
use Rattle.laws_meaning.specs.Meaning.{has_conjecture}
use Rattle.pool_history.specs.Lawful.{IsLawful}
use Rattle.pool_history.specs.Laws.{IsCounted, IsHeavyAmong}
use Rattle.pool_history.specs.Outcomes.{is_at_rest, is_of_living, outcome_of}
use Rattle.pool_history.specs.Record.{PoolRecord, clauses_of}
use Rattle.pool_history.specs.Replay.{Origin, replay}
use Rattle.pool_history.specs.Saturated.{IsSaturated, members_of}
use Rattle.pool_history.specs.declared.event.Event.{Event}
use Rattle.pool_history.specs.declared.options.Options.{Options}
use Rattle.pool_history.specs.declared.outcome.Outcome.{Outcome}
use Rattle.pool_history.specs.declared.outcome.Outcome.TheVariants as outcome
use Rattle.laws_saturation.specs.Found.{finds_of, WasMet}
use Rattle.laws_saturation.specs.Laws.{is_member}
use Rattle.pool_writer.specs.Refuted.{IsRefutationText}
use Rattle.pool_writer.specs.Saturation.{saturation_text}
use Rattle.command_reports.specs.Meaning.{IsTheorem}
use Rattle.command_reports.specs.Names.{shown}
use Rattle.command_reports.specs.Parts.{inputs_by, lines_by, left_out}
use Rattle.command_reports.specs.Reports.{status_line, output_line, printed_report}
use Rattle.command_words.specs.declared.command.ProveOptions.{ProveOptions}

-- ---- the texts

-- with a conjecture, and without
abbrev pub refutation_word : Bool → List ℕ
refutation_word true = codes "Theorem"
refutation_word false = codes "Unsatisfiable"

-- of a saturated set, and of a model
abbrev pub saturation_word : Bool → List ℕ
saturation_word true = codes "CounterSatisfiable"
saturation_word false = codes "Satisfiable"

-- a derivation
abbrev pub refuted_report : List ℕ → Bool → List ℕ → List ℕ
refuted_report file conjecture derivation = printed_report file (refutation_word conjecture) (codes "CNFRefutation") derivation

-- the members of a saturated set
abbrev pub saturated_report : List ℕ → Bool → List ℕ → List ℕ
saturated_report file conjecture members = printed_report file (saturation_word conjecture) (codes "Saturation") members

abbrev pub spent_line : ℕ → ℕ → List ℕ
spent_line count limit = codes "% spent " ++ decimal count ++ codes " of " ++ decimal limit ++ codes "\n"

abbrev pub heavy_line : List ℕ → List ℕ
heavy_line key = codes "% heavy " ++ key ++ codes "\n"

-- a pool that gave up
abbrev pub spent_report : List ℕ → ℕ → ℕ → List ℕ
spent_report file count allowed = status_line (codes "GaveUp") file ++ spent_line count allowed

abbrev pub heavy_report : List ℕ → List ℕ → List ℕ
heavy_report file key = status_line (codes "GaveUp") file ++ heavy_line key

abbrev pub left_out_line : ℕ → ℕ → List ℕ
left_out_line left all = codes "% left out " ++ decimal left ++ codes " of " ++ decimal all ++ codes "\n"

-- the members of a set that is saturated for a part of the formulas: so many of them were left out
abbrev pub part_saturated_report : List ℕ → ℕ → ℕ → List ℕ → List ℕ
part_saturated_report file left all members =
    status_line (codes "Unknown") file ++ left_out_line left all ++ output_line (codes "start") (codes "Saturation") file ++ members
    ++ output_line (codes "end") (codes "Saturation") file

-- ---- what a pool says of the clauses with which it begins, over the symbols of a signature

abbrev pub origin_of : List TreeClause → Options → Origin
origin_of inputs options = record { inputs = inputs; options = options }

-- The record is what a lawful history of the inputs and the options amounts to, and the outcome stands on it.
pub record HasHistory (symbols : List Symbol) (inputs : List TreeClause) (options : Options) (outcome : Outcome) (r : PoolRecord) : Type 0 where
  pub events : List Event
  pub lawful : IsLawful (is_predicate_in symbols) (origin_of inputs options) events
  pub replayed : r ≡ replay (origin_of inputs options) events
  pub ends : outcome_of r ≡ Some outcome

-- So many entries were counted, all different, and at least as many as the limit. Each is an inference of registered clauses or a clause that
-- was replaced.
pub record HasCounted (symbols : List Symbol) (options : Options) (count : ℕ) (r : PoolRecord) : Type 0 where
  pub counted : count ≡ length r.counted
  pub different : AllPairs (λ k l. k ≢ l) r.counted
  pub named : All (IsCounted (is_predicate_in symbols) options r) r.counted
  pub reached : options.inferences ≤ count

-- So many entries were counted in such a history.
pub record IsSpent (symbols : List Symbol) (inputs : List TreeClause) (options : Options) (count : ℕ) : Type 0 where
  pub r : PoolRecord
  pub history : HasHistory symbols inputs options (outcome.Spent count) r
  pub counts : HasCounted symbols options count r

-- Nothing was left to do in such a history, but the inference of that key was set aside as too heavy, and its premises live and are awake. It
-- is the one at the place that the outcome names.
pub record IsHeavy (symbols : List Symbol) (inputs : List TreeClause) (options : Options) (text : List ℕ) : Type 0 where
  pub r : PoolRecord
  pub place : ℕ
  pub history : HasHistory symbols inputs options (outcome.Heavy place) r
  pub key : Key
  pub set_aside : slice_get r.set_aside place ≡ Some key
  pub printed : text ≡ key_text key
  pub at_rest : IsTrue (is_at_rest r)
  pub of_living : IsTrue (is_of_living r key)
  pub heavy : IsHeavyAmong (is_predicate_in symbols) options r key

-- Clauses are saturated for the inputs: over the function symbols of the signature, the spare constant included, and over each list that has
-- the function symbols of the inputs.
pub record AreSaturatedFor (symbols : List Symbol) (inputs : List TreeClause) (options : Options) (members : List TreeClause) : Type 0 where
  pub own : OwnFunctions symbols
  pub over_own : IsSaturated own.functions (mode_of options.select) inputs members
  pub over_each :
      (functions : FunctionSymbols (is_predicate_in symbols)) → All (HasSymbolsOf functions) inputs
      → IsSaturated functions (mode_of options.select) inputs members

-- Each inference that is named among the members was counted in the history and not set aside, and the job of its last premise found it.
abbrev pub HaveMet : List Symbol → List TreeClause → Options → List Event → PoolRecord → Type 0
HaveMet symbols inputs options events r =
    (key : Key) (c : TreeClause)
    → IsInference (is_predicate_in symbols) (mode_of options.select) (among (is_member r) (clauses_of r)) key c
    → WasMet r (finds_of (origin_of inputs options) events) key

-- Nothing was left to do in such a history, and no inference of living clauses was set aside. The text is what is written of its members, and
-- they are saturated.
pub record IsSaturation (symbols : List Symbol) (inputs : List TreeClause) (options : Options) (text : List ℕ) : Type 0 where
  pub r : PoolRecord
  pub history : HasHistory symbols inputs options outcome.Saturated r
  pub printed : text ≡ saturation_text symbols (members_of r)
  pub saturated : AreSaturatedFor symbols inputs options (members_of r)
  pub met : HaveMet symbols inputs options history.events r

-- ---- the reports

-- The derivation is the text of those lines of a lawful history that its empty clause needs, as lines of a derivation from the whole clausal form,
-- with the problem's file as it is shown. It is accepted, and some finite list of ground instances of the form is true in no interpretation: the
-- conjecture follows from the axioms, and without one the axioms are unsatisfiable. The history began with the clauses of the formulas that are kept.
pub record IsRefuted (file : List ℕ) (formulas : List Annotated) (options : ProveOptions) (derivation : List ℕ) : Type 0 where
  pub r : PoolRecord
  pub history : HasHistory (clausal_form formulas).symbols (inputs_by options.axioms formulas) options.pool outcome.Refuted r
  pub printed : IsRefutationText (shown file) formulas (lines_by options.axioms formulas r.lines) derivation
  pub count : ℕ
  pub accepted : IsAcceptedDerivation formulas derivation count
  pub herbrand : IsHerbrandRefuted formulas
  pub theorem : IsTheorem formulas

-- The report of a refutation, of a saturated set, where formulas were left out of a set that is saturated for the others, of the entries that
-- were counted, or of an inference that is too heavy.
pub data IsProofReport (file : List ℕ) (options : ProveOptions) (formulas : List Annotated) (status : ℕ) (text : List ℕ) : Type 0 where
  told_refuted :
      (derivation : List ℕ) → IsRefuted file formulas options derivation → status ≡ 0
      → text ≡ refuted_report file (has_conjecture formulas) derivation → IsProofReport file options formulas status text
  told_saturated :
      (members : List ℕ) → left_out options.axioms formulas ≡ 0
      → IsSaturation (clausal_form formulas).symbols (clausal_form formulas).clauses options.pool members → status ≡ 1
      → text ≡ saturated_report file (has_conjecture formulas) members → IsProofReport file options formulas status text
  told_part_saturated :
      (members : List ℕ) → 0 < left_out options.axioms formulas
      → IsSaturation (clausal_form formulas).symbols (inputs_by options.axioms formulas) options.pool members → status ≡ 10
      → text ≡ part_saturated_report file (left_out options.axioms formulas) (length formulas) members
      → IsProofReport file options formulas status text
  told_spent :
      (count : ℕ) → IsSpent (clausal_form formulas).symbols (inputs_by options.axioms formulas) options.pool count → status ≡ 2
      → text ≡ spent_report file count options.pool.inferences → IsProofReport file options formulas status text
  told_heavy :
      (key : List ℕ) → IsHeavy (clausal_form formulas).symbols (inputs_by options.axioms formulas) options.pool key → status ≡ 2
      → text ≡ heavy_report file key → IsProofReport file options formulas status text
