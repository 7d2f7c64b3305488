-- The model makes true the propositional clauses that it is of: these stay, and others only come after them.
use Rattle.std.proofs.Common.{◌≡◌, ℕ, zero, suc, ◌+◌, ◌≤◌, Bool, true, false, not, ◌&&◌, ◌==◌, List, [], ◌∷◌, ◌++◌, map, length, take, refl, ap, sym, ◌∙◌, subst, arith}
use Rattle.std.specs.Prelude.{Option, None, Some, is_none, is_some, nat_lt, fold, if◌then◌else◌}
use Rattle.std.proofs.lemmas.Bool.{and_parts, eqb-true, ltb-false}
use Rattle.std.proofs.lemmas.List.{length-append, length-map, map-append, take-append-le}
use Rattle.std.proofs.lemmas.Option.{same_Some}
use Rattle.plain_types.specs.declared.sequence.NameLit.{NameLit}
use Rattle.kernel_steps.specs.Split.{has_number}
use Rattle.sat_core.specs.Clause.{valuation_of, clauses_true}
use Rattle.sat_core.specs.Answer.{IsRightAnswer}
use Rattle.sat_core.specs.declared.answer.Answer.TheVariants.{Model}
use Rattle.sat_core.specs.declared.answer.Chain as log
use Rattle.pool_history.specs.Record.{PoolRecord, GivenJob, SolverJob, PropositionalClause, propositional_clauses, given_job, jobs_out, without_job, nothing_registered}
use Rattle.pool_history.specs.Claiming.{can_give, next_given, given_out, claimed_by}
use Rattle.pool_history.specs.Returning.{becomes_active, worked, returns_to}
use Rattle.pool_history.specs.Solving.{must_solve, handed, modelled_by, refuted_by}
use Rattle.pool_history.specs.Outcomes.{is_at_rest}
use Rattle.pool_history.specs.Replay.{Origin, after, start, replay}
use Rattle.pool_history.specs.Lawful.{IsAllowed, IsLawfulFrom, IsRightSolution}
use Rattle.pool_history.specs.Models.{PropositionalClausesStay, AnswersStayRight, ModelsAreRight, RestingModels}
use Rattle.pool_history.specs.declared.options.Options.{Options}
use Rattle.pool_history.specs.declared.batch.Batch.{Batch}
use Rattle.pool_history.specs.declared.batch.Work.{Work}
use Rattle.pool_history.specs.declared.batch.Work.TheVariants.{Gone, Met}
use Rattle.pool_history.specs.declared.event.Event.{Event}
use Rattle.pool_history.specs.declared.event.Event.TheVariants.{Claim, Return, Stale, Void, ClaimSolve, ReturnModel, ReturnRefuted, Abandon}
use Rattle.pool_history.proofs.AboutClaims.HistoryLemmas.{later-append}
use Rattle.pool_history.proofs.AboutClaims.SolverLemmas.{MoreNames, after-names, history-names, Within, IsWithin, after-within, history-within, handed-same}
use Rattle.pool_history.proofs.AboutRecords.FrameLemmas.{by-if, inputs-register}
use Rattle.pool_history.proofs.AboutRecords.GrowthLemmas.{removed-grows, met-grows}

-- ---- what stays

-- the clauses of a record that has more
more-clauses : (options : Options) (r s : PoolRecord) → (more : MoreNames options r s) → propositional_clauses s ≡ propositional_clauses r ++ map (λ (c : PropositionalClause). c.names) more.0
more-clauses options r s more =
    ap (map (λ (c : PropositionalClause). c.names)) more.1 ∙ map-append (λ (c : PropositionalClause). c.names) r.propositional more.0

pub propositional_clauses_stay : PropositionalClausesStay
propositional_clauses_stay origin history later =
    let r : PoolRecord = replay origin history in
    let more = history-names origin.options later r in (
      map (λ (c : PropositionalClause). c.names) more.0,
      ap propositional_clauses (later-append origin.options history later (start origin))
          ∙ more-clauses origin.options r (fold (after origin.options) r later) more,
    )

-- a job was handed clauses that are there
handed-within :
    (is_predicate : ℕ → Bool) (options : Options) (r : PoolRecord) (s : SolverJob)
    → IsWithin is_predicate options r → r.solver ≡ Some s → s.clauses ≤ length r.propositional
handed-within is_predicate options r s within out = subst (Within is_predicate options (length r.propositional)) out within

no-predicate : ℕ → Bool
no-predicate n = false

begins-within : (is_predicate : ℕ → Bool) (origin : Origin) → IsWithin is_predicate origin.options (start origin)
begins-within is_predicate origin =
    subst (Within is_predicate origin.options (length (start origin).propositional))
    (sym (ap (λ (t : PoolRecord). t.solver) (inputs-register origin.options.split 0 origin.inputs nothing_registered).same)) tt

pub answers_stay_right : AnswersStayRight
answers_stay_right origin history later s answer out right =
    let r : PoolRecord = replay origin history in
    let t : PoolRecord = fold (after origin.options) r later in
    let within = history-within no-predicate origin.options history (start origin) (begins-within no-predicate origin) in
    subst (λ cs. IsRightAnswer s.names cs answer)
    (sym (ap (λ (u : PoolRecord). handed u s) (later-append origin.options history later (start origin))
    ∙ handed-same no-predicate origin.options r t s (history-names origin.options later r) (handed-within no-predicate origin.options r s within out)))
    right

-- ---- models

abbrev is_right_model : List Bool → ℕ → List (List NameLit) → Bool
is_right_model model modelled clauses = clauses_true (valuation_of model) (take modelled clauses)

record IsModelled (model : List Bool) (modelled : ℕ) (propositional : List PropositionalClause) : Type 0 where
  few : modelled ≤ length propositional
  true_each : is_right_model model modelled (map (λ (c : PropositionalClause). c.names) propositional) ≡ true

abbrev Modelled : PoolRecord → Type 0
Modelled r = IsModelled r.model r.modelled r.propositional

module _ (is_predicate : ℕ → Bool) (options : Options) where
  abbrev SameModel : PoolRecord → PoolRecord → Type 0
  SameModel r s = (s.model ≡ r.model) × (s.modelled ≡ r.modelled)

  -- where the model stays, and clauses only come
  stays-modelled : (r s : PoolRecord) → SameModel r s → MoreNames options r s → Modelled r → Modelled s
  stays-modelled r s same more is =
      let names : PropositionalClause → List NameLit = λ c. c.names in
      let long : length s.propositional ≡ length r.propositional + length more.0 = ap length more.1 ∙ length-append r.propositional more.0 in
      let count = length-map r.propositional names in
      let before = is.few in
      let kept : Modelled (record s { model = r.model; modelled = r.modelled }) = record {
        few = omega (arith, long, before);
        true_each =
            ap (λ cs. clauses_true (valuation_of r.model) (take r.modelled cs)) (more-clauses options r s more)
            ∙ ap (clauses_true (valuation_of r.model))
            (take-append-le r.modelled (map names r.propositional) (map names more.0) (omega (arith, count, before)))
            ∙ is.true_each;
      } in
      subst (λ m. IsModelled m s.modelled s.propositional) (sym same.0) (subst (λ n. IsModelled r.model n s.propositional) (sym same.1) kept)

  claimed-model : (job : ℕ) (o : Option ℕ) (r : PoolRecord) → SameModel r (claimed_by options job o r)
  claimed-model job None r = (refl, refl)
  claimed-model job (Some n) r =
      by-if (λ s. SameModel r (given_out options job n s)) (has_number n r.positions) r (record r { positions = r.positions ++ n ∷ [] }) (refl, refl) (refl, refl)

  returned-model : (batch : Batch) (o : Option GivenJob) (r : PoolRecord) → SameModel r (returns_to options batch o r)
  returned-model batch None r = (refl, refl)
  returned-model batch (Some j) r =
      let s : PoolRecord = record r { given = without_job batch.job r.given } in
      by-if (SameModel r) (is_none r.ended) (worked options j.number batch.work s) (becomes_active j.number s) (by s batch.work) (refl, refl)
    where
      by : (s : PoolRecord) (work : Work) → SameModel s (worked options j.number work s)
      by s (Gone m) = (removed-grows options m s).model
      by s (Met entries removals) = (met-grows options j.number entries removals s).model

  refuted-model : (o : Option SolverJob) (chains : List log.Chain) (r : PoolRecord) → SameModel r (refuted_by o chains r)
  refuted-model None chains r = (refl, refl)
  refuted-model (Some s) chains r = by-if (SameModel r) (is_none r.ended) _ _ (refl, refl) (refl, refl)

  -- a model that is answered
  answered-modelled :
      (o : Option SolverJob) (job : ℕ) (truths : List Bool) (r : PoolRecord)
      → r.solver ≡ o → IsWithin is_predicate options r → IsRightSolution r job (Model truths) → Modelled r → Modelled (modelled_by o truths r)
  answered-modelled None job truths r same within right is = is
  answered-modelled (Some s) job truths r same within right is =
      let one : s ≡ right.solver = same_Some s right.solver (sym same ∙ right.out) in
      record {
        few = handed-within is_predicate options r s within same;
        true_each = ap (λ (j : SolverJob). clauses_true (valuation_of truths) (handed r j)) one ∙ (right.says).makes_true;
      }

  after-modelled :
      (r : PoolRecord) (e : Event) → IsAllowed is_predicate options r e → IsWithin is_predicate options r → Modelled r → Modelled (after options r e)
  after-modelled r (Claim job) allowed within is =
      stays-modelled r (after options r (Claim job)) (claimed-model job (next_given r) r) (after-names options r (Claim job)) is
  after-modelled r (Return batch) allowed within is =
      stays-modelled r (after options r (Return batch)) (returned-model batch (given_job r batch.job) r) (after-names options r (Return batch)) is
  after-modelled r (Stale job justifier) allowed within is = is
  after-modelled r (Void job) allowed within is = is
  after-modelled r (ClaimSolve job) allowed within is = is
  after-modelled r (ReturnModel job truths) allowed within is = answered-modelled r.solver job truths r refl within allowed is
  after-modelled r (ReturnRefuted job chains) allowed within is =
      stays-modelled r (after options r (ReturnRefuted job chains)) (refuted-model r.solver chains r) (after-names options r (ReturnRefuted job chains)) is
  after-modelled r (Abandon job) allowed within is = is

  history-modelled :
      (es : List Event) (r : PoolRecord)
      → IsLawfulFrom is_predicate options r es → IsWithin is_predicate options r → Modelled r → Modelled (fold (after options) r es)
  history-modelled [] r lawful within is = is
  history-modelled (e ∷ es) r lawful within is =
      history-modelled es (after options r e) lawful.1 (after-within is_predicate options r e within) (after-modelled r e lawful.0 within is)

-- ---- laws

begins-modelled : (origin : Origin) → Modelled (start origin)
begins-modelled origin =
    let same = (inputs-register origin.options.split 0 origin.inputs nothing_registered).same in
    let model : (start origin).model ≡ [] = ap (λ (t : PoolRecord). t.model) same in
    let modelled : (start origin).modelled ≡ 0 = ap (λ (t : PoolRecord). t.modelled) same in
    subst (λ n. IsModelled (start origin).model n (start origin).propositional) (sym modelled) (record { few = omega arith; true_each = refl })

pub models_are_right : ModelsAreRight
models_are_right is_predicate origin history lawful =
    let is = history-modelled is_predicate origin.options history (start origin) lawful (begins-within is_predicate origin) (begins-modelled origin) in
    (is.few, is.true_each)

-- at rest the model is of all clauses
rests-modelled : (r : PoolRecord) → is_at_rest r ≡ true → length r.propositional ≤ r.modelled
rests-modelled r rests =
    let first = and_parts (not (must_solve r)) (not (can_give r) && (jobs_out r == 0)) rests in
    let rest = and_parts (not (can_give r)) (jobs_out r == 0) first.1 in
    let none : jobs_out r ≡ 0 = eqb-true (jobs_out r) 0 rest.1 in
    ltb-false r.modelled (length r.propositional) (solved (nat_lt r.modelled (length r.propositional)) r.solver (length r.given) none first.0)
  where
    solved : (b : Bool) (o : Option SolverJob) (k : ℕ) → k + (if is_some o then 1 else 0) ≡ 0 → not (b && is_none o) ≡ true → b ≡ false
    solved true None k none h = sym h
    solved false None k none h = refl
    solved b (Some s) k none h = absurd (omega (arith, none))

pub resting_models : RestingModels
resting_models is_predicate origin history lawful rests =
    let r : PoolRecord = replay origin history in
    let is = models_are_right is_predicate origin history lawful in
    let all = rests-modelled r rests in
    let count = length-map r.propositional (λ (c : PropositionalClause). c.names) in
    ap (clauses_true (valuation_of r.model)) (sym (whole (propositional_clauses r) r.modelled (omega (arith, all, count)))) ∙ is.1
  where
    whole : {X : Type 0} (xs : List X) (n : ℕ) → length xs ≤ n → take n xs ≡ xs
    whole [] zero few = refl
    whole [] (suc n) few = refl
    whole (x ∷ xs) zero few = absurd (omega (arith, few))
    whole (x ∷ xs) (suc n) few = ap (λ ys. x ∷ ys) (whole xs n (omega (arith, few)))
