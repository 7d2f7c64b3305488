-- What the pool of a problem tells once it has ended.
use Rattle.std.proofs.Common.{◌≡◌, ◌<◌, ◌≤◌, ℕ, List, length, ap, sym, ◌∙◌, subst}
use Rattle.std.specs.Prelude.{Bool, Some, slice_get, position, All, Contains, IsTrue}
use Rattle.std.proofs.lemmas.List.Quantifiers.{position-Some}
use Rattle.fol_base.specs.Clause.{TreeClause}
use Rattle.tptp_tree.specs.declared.problem.Annotated.{Annotated}
use Rattle.signature.specs.Form.{clausal_form}
use Rattle.signature.specs.declared.symbol.Symbol.{Symbol}
use Rattle.kernel_steps.specs.Keys.{key_text}
use Rattle.kernel_steps.specs.declared.key.Key.{Key}
use Rattle.kernel_steps.specs.declared.key.Key.TheVariants.{Replaced}
use Rattle.clausal_form.specs.FormFunctions.{is_predicate_in}
use Rattle.clausal_form.specs.FormLaws.{use_of}
use Rattle.pool_history.specs.Inputs.{IsUseOf}
use Rattle.pool_history.specs.Laws.{IsCounted, IsHeavyAmong}
use Rattle.pool_history.specs.Lawful.{IsLawful}
use Rattle.pool_history.specs.Outcomes.{is_at_rest, is_of_living, outcome_of}
use Rattle.pool_history.specs.Record.{PoolRecord}
use Rattle.pool_history.specs.Replay.{Origin, replay}
use Rattle.pool_history.specs.declared.event.Event.{Event}
use Rattle.pool_history.specs.declared.options.Options.{Options}
use Rattle.pool_history.specs.declared.outcome.Outcome.{Outcome}
use Rattle.pool_history.specs.declared.outcome.Outcome.TheVariants as outcome
use Rattle.pool_history.proofs.AboutCounting.CountedLemmas.{counted_once}
use Rattle.pool_history.proofs.AboutOutcomes.HeavyLemmas.{set_aside_are_heavy}
use Rattle.pool_history.proofs.AboutRecords.ItemLemmas.{all-at, passes-at}
use Rattle.worker_team.specs.Causes.{HasCause}
use Rattle.worker_team.specs.declared.proved.Proved.{Proved as ProvedPool}
use Rattle.worker_team.proofs.OutcomeLemmas.{outcomes-have-causes}
use Rattle.command_reports.specs.Parts.{AreOfForm}
use Rattle.command_reports.specs.ProveReports.{HasHistory, HasCounted, IsSpent, IsHeavy}
use Rattle.commands.specs.AnswerShape.{IsProvedForm, OutcomeSays}
use Rattle.commands.proofs.AboutOutcomes.InputLemmas.{inputs-used}

-- a pool on which the outcome Refuted stands was refuted
pub refuted-ended :
    (origin : Origin) (history : List Event)
    → outcome_of (replay origin history) ≡ Some outcome.Refuted → (replay origin history).ended ≡ Some outcome.Refuted
refuted-ended origin history stands = outcomes-have-causes origin history outcome.Refuted stands

module _
    (formulas : List Annotated) (inputs : List TreeClause) (of_form : AreOfForm formulas inputs) (options : Options) (proved : ProvedPool)
    (is : IsProvedForm formulas inputs options proved) where
  abbrev symbols : List Symbol
  symbols = (clausal_form formulas).symbols

  -- what the pool's history amounts to
  abbrev pub ended : PoolRecord
  ended = replay proved.pool.origin proved.pool.history

  -- lawful where the predicates are those of the form's signature
  pub lawful : IsLawful (is_predicate_in symbols) proved.pool.origin proved.pool.history
  lawful =
      is.pool.lawful (use_of symbols)
      (subst (λ (cs : List TreeClause). IsUseOf cs (use_of symbols)) (sym (ap (λ (begun : Origin). begun.inputs) is.pool.origin))
      (inputs-used formulas inputs of_form))

  pub has-history : (o : Outcome) → proved.outcome ≡ o → HasHistory symbols inputs options o ended
  has-history o same = record {
    events = proved.pool.history;
    lawful = subst (λ (begun : Origin). IsLawful (is_predicate_in symbols) begun proved.pool.history) is.pool.origin lawful;
    replayed = ap (λ (begun : Origin). replay begun proved.pool.history) is.pool.origin;
    ends = is.pool.outcome ∙ ap Some same;
  }

  pub cause : (o : Outcome) → proved.outcome ≡ o → HasCause options ended o
  cause o same =
      subst (λ (begun : Origin). HasCause begun.options ended o) is.pool.origin
      (outcomes-have-causes proved.pool.origin proved.pool.history o (is.pool.outcome ∙ ap Some same))

  -- ---- what the outcomes Spent and Heavy say

  pub has-counted : (count : ℕ) → proved.outcome ≡ outcome.Spent count → HasCounted symbols options count ended
  has-counted count same =
      let is_predicate : ℕ → Bool = is_predicate_in symbols in
      let counted : (count ≡ length ended.counted) × (options.inferences ≤ count) = cause (outcome.Spent count) same in
      let once = counted_once is_predicate proved.pool.origin proved.pool.history lawful in
      record {
        counted = counted.0;
        different = once.0;
        named = subst (λ (begun : Origin). All (IsCounted is_predicate begun.options ended) ended.counted) is.pool.origin once.1;
        reached = counted.1;
      }

  pub heavy-cause : (place : ℕ) → proved.outcome ≡ outcome.Heavy place → IsTrue (is_at_rest ended) × (position (is_of_living ended) ended.set_aside ≡ Some place)
  heavy-cause place same = cause (outcome.Heavy place) same

  -- ---- answers, by what the outcome says

  unfoldable pub is-spent :
      (count : ℕ) → proved.outcome ≡ outcome.Spent count → OutcomeSays formulas inputs options ended (outcome.Spent count)
      → IsSpent symbols inputs options count
  is-spent count same says = record { r = ended; history = has-history (outcome.Spent count) same; counts = says }

  pub heavy-there : (place : ℕ) → OutcomeSays formulas inputs options ended (outcome.Heavy place) → place < length ended.set_aside
  heavy-there place says = (position-Some (is_of_living ended) ended.set_aside place (Replaced 0) says.1).0

  unfoldable pub is-heavy :
      (place : ℕ) (key : Key) (text : List ℕ)
      → proved.outcome ≡ outcome.Heavy place → OutcomeSays formulas inputs options ended (outcome.Heavy place)
      → slice_get ended.set_aside place ≡ Some key → text ≡ key_text key → IsHeavy symbols inputs options text
  is-heavy place key text same says at printed =
      let is_predicate : ℕ → Bool = is_predicate_in symbols in
      record {
        r = ended;
        place = place;
        history = has-history (outcome.Heavy place) same;
        key = key;
        set_aside = at;
        printed = printed;
        at_rest = says.0;
        of_living = passes-at (is_of_living ended) ended.set_aside place key says.1 at;
        heavy =
            subst (λ (begun : Origin). IsHeavyAmong is_predicate begun.options ended key) is.pool.origin
            (all-at (λ k. Contains ended.counted k × IsHeavyAmong is_predicate proved.pool.origin.options ended k) ended.set_aside place key
            (set_aside_are_heavy is_predicate proved.pool.origin proved.pool.history lawful) at).1;
      }
