-- No event but a job that is given up makes an older clause wait again, and a claim takes one of those that wait.
use Rattle.std.proofs.Common.{◌≡◌, ℕ, ◌+◌, ◌<◌, Bool, true, false, ◌||◌, ◌==◌, List, [], ◌∷◌, ◌++◌, length, map, refl, ap, sym, ◌∙◌, subst, ⊎_elim}
use Rattle.std.specs.Prelude.{Option, None, Some, is_none, if◌then◌else◌}
use Rattle.std.specs.List.{list_any}
use Rattle.std.proofs.lemmas.Bool.{true≢false, or_parts, or_left, or_right, eqb-true, eq-eqb, cases_Bool}
use Rattle.std.proofs.lemmas.List.Folds.{list_any-append}
use Rattle.kernel_steps.specs.Split.{has_number}
use Rattle.sat_core.specs.declared.answer.Chain as log
use Rattle.pool_history.specs.Record.{PoolRecord, GivenJob, SolverJob, Death, clauses_of, lives, is_out, is_dead, waits, given_job, without_job}
use Rattle.pool_history.specs.Returning.{removed, dies, becomes_active, worked, returns_to}
use Rattle.pool_history.specs.Solving.{modelled_by, refuted_by}
use Rattle.pool_history.specs.Claiming.{new_job, given_out, claimed_by, next_given}
use Rattle.pool_history.specs.Replay.{after, told_anew, retold}
use Rattle.pool_history.specs.Batches.{IsRightWork}
use Rattle.pool_history.specs.Lawful.{IsAllowed}
use Rattle.pool_history.specs.Laws.{is_abandon}
use Rattle.pool_history.specs.declared.options.Options.{Options}
use Rattle.pool_history.specs.declared.batch.Batch.{Batch}
use Rattle.pool_history.specs.declared.batch.Work.{Work}
use Rattle.pool_history.specs.declared.batch.Work.TheVariants.{Gone, Met}
use Rattle.pool_history.specs.declared.event.Event.{Event}
use Rattle.pool_history.specs.declared.event.Event.TheVariants.{Claim, Return, Stale, Void, ClaimSolve, ReturnModel, ReturnRefuted, Abandon}
use Rattle.pool_history.proofs.AboutRecords.FrameLemmas.{by-if}
use Rattle.pool_history.proofs.AboutRecords.GrowthLemmas.{Grows, grows-all, replaced-after-death, met-grows, living-not-dead, waiting-parts, waiting-from, waits-before, lives-before}
use Rattle.pool_history.proofs.AboutBounds.JobLemmas.{Rising, only-of-the-job}

-- a clause of the first ones that waits after waited before
abbrev pub KeepsBusy : PoolRecord → PoolRecord → Type 0
KeepsBusy r r' = (k : ℕ) → k < length r.registered → waits r' k ≡ true → waits r k ≡ true

module _ (is_predicate : ℕ → Bool) (options : Options) where
  -- ---- claims

  -- what waits still a claim waited before, and is another clause
  given-busy :
      (job q : ℕ) (r : PoolRecord) (positions : List ℕ) (k : ℕ)
      → waits (given_out options job q (record r { positions = positions })) k ≡ true → (waits r k ≡ true) × ((k == q) ≡ false)
  given-busy job q r positions k still =
      let s : PoolRecord = record r { positions = positions } in
      let is = waiting-parts (given_out options job q s) k still in
      let hands = or_parts (is_out r k) ((k == q) || false)
      (sym (list_any-append (λ (j : GivenJob). k == j.number) r.given (new_job options job q s ∷ [])) ∙ is.in_hand) in
      (waiting-from r k (record { alive = is.alive; in_hand = hands.0; idle = is.idle }), (or_parts (k == q) false hands.1).0)

  pub claimed-busy : (job q : ℕ) (r : PoolRecord) (k : ℕ) → waits (claimed_by options job (Some q) r) k ≡ true → (waits r k ≡ true) × ((k == q) ≡ false)
  claimed-busy job q r k =
      by-if (λ s. waits (given_out options job q s) k ≡ true → (waits r k ≡ true) × ((k == q) ≡ false)) (has_number q r.positions) r
      (record r { positions = r.positions ++ q ∷ [] })
      (given-busy job q r r.positions k) (given-busy job q r (r.positions ++ q ∷ []) k)

  -- the clause that was taken doesn't wait
  pub claimed-taken : (job q : ℕ) (r : PoolRecord) → waits (claimed_by options job (Some q) r) q ≡ false
  claimed-taken job q r = by (waits (claimed_by options job (Some q) r) q) refl
    where
      by : (b : Bool) → waits (claimed_by options job (Some q) r) q ≡ b → b ≡ false
      by true is = absurd (true≢false (sym (eq-eqb q q refl) ∙ (claimed-busy job q r q is).1))
      by false is = refl

  pub claimed-claims : (job q : ℕ) (r : PoolRecord) → (claimed_by options job (Some q) r).claims ≡ r.claims + 1
  claimed-claims job q r =
      by-if (λ s. (given_out options job q s).claims ≡ r.claims + 1) (has_number q r.positions) r (record r { positions = r.positions ++ q ∷ [] }) refl refl

  pub claimed-clauses : (job : ℕ) (o : Option ℕ) (r : PoolRecord) → (claimed_by options job o r).registered ≡ r.registered
  claimed-clauses job None r = refl
  claimed-clauses job (Some q) r =
      by-if (λ s. (given_out options job q s).registered ≡ r.registered) (has_number q r.positions) r (record r { positions = r.positions ++ q ∷ [] }) refl refl

  -- ---- returns

  -- a job that is out no more, whose clause has died or is active
  pub back-busy :
      (job low high k : ℕ) (j : GivenJob) (r : PoolRecord)
      → Rising low high r.given → given_job r job ≡ Some j → (s : PoolRecord) → s.given ≡ without_job job r.given
      → ((k == j.number) ≡ true → waits s k ≡ true → ⊥)
      → (lives s k ≡ true → lives r k ≡ true) → (has_number k s.active ≡ false → has_number k r.active ≡ false)
      → waits s k ≡ true → waits r k ≡ true
  back-busy job low high k j r rise found s given own living idle still = ⊎_elim mine other (cases_Bool (k == j.number))
    where
      mine : (k == j.number) ≡ true → waits r k ≡ true
      mine is = absurd (own is still)

      other : (k == j.number) ≡ false → waits r k ≡ true
      other is =
          let parts = waiting-parts s k still in
          waiting-from r k (record {
            alive = living parts.alive;
            in_hand =
                only-of-the-job job k low high r.given j rise found is
                (ap (list_any (λ (j : GivenJob). k == j.number)) (sym given) ∙ parts.in_hand);
            idle = idle parts.idle;
          })

  abbrev without : ℕ → PoolRecord → PoolRecord
  without job r = record r { given = without_job job r.given }

  active-end : (ns : List ℕ) (n k : ℕ) → has_number k (ns ++ n ∷ []) ≡ false → (has_number k ns ≡ false) × ((k == n) ≡ false)
  active-end ns n k none =
      let parts = or_parts (has_number k ns) ((k == n) || false) (sym (list_any-append (λ m. k == m) ns (n ∷ [])) ∙ none) in
      (parts.0, (or_parts (k == n) false parts.1).0)

  -- where it becomes active, whatever is counted and removed then
  pub active-busy :
      (job low high k : ℕ) (j : GivenJob) (r s : PoolRecord)
      → Rising low high r.given → given_job r job ≡ Some j → k < length r.registered
      → Grows (becomes_active j.number (without job r)) s
      → waits s k ≡ true → waits r k ≡ true
  active-busy job low high k j r s rise found there grown still =
      let mid : PoolRecord = becomes_active j.number (without job r) in
      back-busy job low high k j r rise found mid refl
      (λ is waiting. absurd (true≢false (sym is ∙ (active-end r.active j.number k (waiting-parts mid k waiting).idle).1)))
      (λ alive. alive)
      (λ idle. (active-end r.active j.number k idle).0)
      (waits-before mid s k grown there still)

  -- where it dies
  pub dead-busy :
      (job low high k : ℕ) (justifiers : List ℕ) (j : GivenJob) (r s : PoolRecord)
      → Rising low high r.given → given_job r job ≡ Some j → k < length r.registered
      → Grows (dies j.number justifiers (without job r)) s
      → waits s k ≡ true → waits r k ≡ true
  dead-busy job low high k justifiers j r s rise found there grown still =
      let mid : PoolRecord = dies j.number justifiers (without job r) in
      back-busy job low high k j r rise found mid refl
      (λ is waiting. dead-waits r job justifiers j k is waiting)
      (λ alive. lives-before r mid k (record { victim = j.number; event = r.events; justifiers = justifiers } ∷ [], refl) there alive)
      (λ idle. idle)
      (waits-before mid s k grown there still)
    where
      dead-waits :
          (r : PoolRecord) (job : ℕ) (justifiers : List ℕ) (j : GivenJob) (k : ℕ)
          → (k == j.number) ≡ true → waits (dies j.number justifiers (without job r)) k ≡ true → ⊥
      dead-waits r job justifiers j k is waiting =
          let d : Death = record { victim = j.number; event = r.events; justifiers = justifiers } in
          let dead : is_dead (dies j.number justifiers (without job r)) k ≡ true =
          list_any-append (λ (d : Death). k == d.victim) r.deaths (d ∷ []) ∙ or_right (is_dead r k) ((k == j.number) || false) (or_left (k == j.number) false is) in
          true≢false (sym dead ∙ living-not-dead (dies j.number justifiers (without job r)) k (waiting-parts (dies j.number justifiers (without job r)) k waiting).alive)

  work-busy :
      (job low high k : ℕ) (j : GivenJob) (r : PoolRecord) (work : Work)
      → Rising low high r.given → given_job r job ≡ Some j → k < length r.registered
      → IsRightWork is_predicate options (clauses_of r) j work
      → waits (worked options j.number work (without job r)) k ≡ true → waits r k ≡ true
  work-busy job low high k j r (Gone m) rise found there right =
      dead-busy job low high k m.justifiers j r (removed options m (without job r)) rise found there
      (subst (λ v. Grows (dies v m.justifiers (without job r)) (removed options m (without job r))) right.victim (replaced-after-death options m (without job r)))
  work-busy job low high k j r (Met entries removals) rise found there right =
      active-busy job low high k j r (worked options j.number (Met entries removals) (without job r)) rise found there
      (met-grows options j.number entries removals (without job r))

  pub return-busy :
      (batch : Batch) (low high k : ℕ) (j : GivenJob) (r : PoolRecord)
      → Rising low high r.given → given_job r batch.job ≡ Some j → k < length r.registered
      → IsRightWork is_predicate options (clauses_of r) j batch.work
      → waits (returns_to options batch (given_job r batch.job) r) k ≡ true → waits r k ≡ true
  return-busy batch low high k j r rise found there right =
      subst (λ o. waits (returns_to options batch o r) k ≡ true → waits r k ≡ true) (sym found)
      (by-if (λ s. waits s k ≡ true → waits r k ≡ true) (is_none r.ended)
      (worked options j.number batch.work (without batch.job r)) (becomes_active j.number (without batch.job r))
      (work-busy batch.job low high k j r batch.work rise found there right)
      (active-busy batch.job low high k j r (becomes_active j.number (without batch.job r)) rise found there (grows-all (becomes_active j.number (without batch.job r)))))

  -- ---- other events

  void-busy :
      (job low high k : ℕ) (j : GivenJob) (r : PoolRecord)
      → Rising low high r.given → given_job r job ≡ Some j → is_dead r j.number ≡ true
      → waits (without job r) k ≡ true → waits r k ≡ true
  void-busy job low high k j r rise found dead =
      back-busy job low high k j r rise found (without job r) refl
      (λ is waiting.
      true≢false
      (sym dead ∙ ap (is_dead r) (sym (eqb-true k j.number is)) ∙ living-not-dead r k (waiting-parts (without job r) k waiting).alive))
      (λ alive. alive) (λ idle. idle)

  retold-number : (job : ℕ) (r : PoolRecord) (j : GivenJob) → (if j.job == job then retold r j else j).number ≡ j.number
  retold-number job r j = by-if (λ (i : GivenJob). i.number ≡ j.number) (j.job == job) (retold r j) j refl refl

  stale-hands : (job k : ℕ) (r : PoolRecord) (js : List GivenJob) → list_any (λ (j : GivenJob). k == j.number) (map (λ (j : GivenJob). if j.job == job then retold r j else j) js) ≡ list_any (λ (j : GivenJob). k == j.number) js
  stale-hands job k r [] = refl
  stale-hands job k r (j ∷ js) =
      ap (λ n. (k == n) || list_any (λ (j : GivenJob). k == j.number) (map (λ (j : GivenJob). if j.job == job then retold r j else j) js)) (retold-number job r j)
      ∙ ap (λ b. (k == j.number) || b) (stale-hands job k r js)

  stale-busy : (job k : ℕ) (r : PoolRecord) → waits (told_anew job r) k ≡ true → waits r k ≡ true
  stale-busy job k r still =
      let is = waiting-parts (told_anew job r) k still in
      waiting-from r k (record { alive = is.alive; in_hand = sym (stale-hands job k r r.given) ∙ is.in_hand; idle = is.idle })

  modelled-busy : (o : Option SolverJob) (truths : List Bool) (k : ℕ) (r : PoolRecord) → waits (modelled_by o truths r) k ≡ true → waits r k ≡ true
  modelled-busy None truths k r still = still
  modelled-busy (Some s) truths k r still = still

  refuted-busy : (o : Option SolverJob) (chains : List log.Chain) (k : ℕ) (r : PoolRecord) → waits (refuted_by o chains r) k ≡ true → waits r k ≡ true
  refuted-busy None chains k r still = still
  refuted-busy (Some s) chains k r still =
      by-if (λ t. waits t k ≡ true → waits r k ≡ true) (is_none r.ended) _ _ (λ h. h) (λ h. h) still

  claim-busy : (job : ℕ) (o : Option ℕ) (k : ℕ) (r : PoolRecord) → waits (claimed_by options job o r) k ≡ true → waits r k ≡ true
  claim-busy job None k r still = still
  claim-busy job (Some q) k r still = (claimed-busy job q r k still).0

  pub event-busy :
      (low high k : ℕ) (r : PoolRecord) (e : Event)
      → IsAllowed is_predicate options r e → is_abandon e ≡ false → Rising low high r.given → k < length r.registered
      → waits (after options r e) k ≡ true → waits r k ≡ true
  event-busy low high k r (Claim job) allowed stays rise there still = claim-busy job (next_given r) k r still
  event-busy low high k r (Return batch) allowed stays rise there still =
      return-busy batch low high k allowed.given r rise allowed.out there (allowed.says).2 still
  event-busy low high k r (Stale job justifier) allowed stays rise there still = stale-busy job k r still
  event-busy low high k r (Void job) allowed stays rise there still = void-busy job low high k allowed.given r rise allowed.out allowed.says still
  event-busy low high k r (ClaimSolve job) allowed stays rise there still = still
  event-busy low high k r (ReturnModel job truths) allowed stays rise there still = modelled-busy r.solver truths k r still
  event-busy low high k r (ReturnRefuted job chains) allowed stays rise there still = refuted-busy r.solver chains k r still
  event-busy low high k r (Abandon job) allowed stays rise there still = absurd (true≢false stays)
