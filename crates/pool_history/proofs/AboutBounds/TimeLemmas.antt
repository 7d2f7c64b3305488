-- The bound on claims. What falls with each given claim is six times the number of first clauses that wait, less the place of the claim among
-- six; the sixth takes the oldest.
use Rattle.std.proofs.Common.{◌≡◌, ℕ, suc, ◌+◌, ◌*◌, ◌%◌, ◌<◌, ◌≤◌, Bool, true, false, ◌&&◌, ◌==◌, List, [], ◌∷◌, ◌++◌, length, take, refl, ap, sym, ◌∙◌, subst, ⊎_elim, arith}
use Rattle.std.specs.Prelude.{Option, None, Some, is_some, is_none, cond, fold, filter, if◌then◌else◌}
use Rattle.std.specs.List.{list_any}
use Rattle.std.proofs.lemmas.Bool.{true≢false, and_parts, and_from, or_parts, eq-eqb, cases_eq, false_from_ne_true}
use Rattle.std.proofs.lemmas.List.{length-append}
use Rattle.std.proofs.lemmas.Option.{same_Some}
use Rattle.clause_queue.specs.declared.choice.Choice.TheVariants.{Light, Old}
use Rattle.kernel_steps.specs.Split.{has_number}
use Rattle.sat_core.specs.declared.answer.Chain as log
use Rattle.pool_history.specs.Record.{PoolRecord, GivenJob, SolverJob, lives, waits, is_awake, given_job, without_job, nothing_registered}
use Rattle.pool_history.specs.Returning.{becomes_active, worked, returns_to, removed}
use Rattle.pool_history.specs.Solving.{modelled_by, refuted_by}
use Rattle.pool_history.specs.Claiming.{ready, picked, next_choice, next_given, given_out, claimed_by, new_job}
use Rattle.pool_history.specs.Replay.{Origin, after, start, replay, retold}
use Rattle.pool_history.specs.Lawful.{IsAllowed, IsLawfulFrom, IsLawful}
use Rattle.pool_history.specs.Laws.{is_claim, is_abandon, ClaimedInTime}
use Rattle.pool_history.specs.declared.options.Options.{Options}
use Rattle.pool_history.specs.declared.batch.Batch.{Batch}
use Rattle.pool_history.specs.declared.batch.Work.{Work}
use Rattle.pool_history.specs.declared.batch.Work.TheVariants.{Gone, Met}
use Rattle.pool_history.specs.declared.event.Event.{Event}
use Rattle.pool_history.specs.declared.event.Event.TheVariants.{Claim, Return, Stale, Void, ClaimSolve, ReturnModel, ReturnRefuted, Abandon}
use Rattle.pool_history.proofs.AboutRecords.FrameLemmas.{by-if, inputs-register}
use Rattle.pool_history.proofs.AboutRecords.GrowthLemmas.{Grows, grows-all, removed-grows, met-grows, registers-grows}
use Rattle.pool_history.proofs.AboutClaims.HistoryLemmas.{later_of, later-append, lawful-append}
use Rattle.pool_history.proofs.AboutBounds.JobLemmas.{Rising, rising-filter, rising-end, rising-map, rising-high}
use Rattle.pool_history.proofs.AboutBounds.CountedClaims.{passing, passing-bound, passing-some, passing-less, passing-fewer, first_of, first-passes}
use Rattle.pool_history.proofs.AboutBounds.WaitLemmas.{claimed-taken, claimed-claims, claimed-clauses, event-busy}

-- what an event leaves of claims, jobs and clauses
pub record Moves (claims : ℕ) (r r' : PoolRecord) : Type 0 where
  pub claimed : r'.claims ≡ r.claims + claims
  pub clauses : length r.registered ≤ length r'.registered
  pub rising : Rising 0 r.jobs r.given → Rising 0 r'.jobs r'.given

grown-clauses : (r r' : PoolRecord) → Grows r r' → length r.registered ≤ length r'.registered
grown-clauses r r' grown =
    let same : length r'.registered ≡ length (r.registered ++ grown.clauses.0) = ap length grown.clauses.1 in
    omega (arith, same, length-append r.registered grown.clauses.0)

-- ---- numbers

falls-by-none : (w w' c c' : ℕ) → w' ≤ w → c' ≡ c + 0 → 0 + 6 * w' + c % 6 ≤ 6 * w + c' % 6
falls-by-none w w' c c' less same = subst (λ d. 0 + 6 * w' + c % 6 ≤ 6 * w + d % 6) (let e : c ≡ c' = omega (arith, same) in e) (omega (arith, less))

falls-by-one : (w w' c c' : ℕ) → (c % 6 ≡ 5 → w' + 1 ≤ w) → w' ≤ w → c' ≡ c + 1 → 1 + 6 * w' + c % 6 ≤ 6 * w + c' % 6
falls-by-one w w' c c' last less next = ⊎_elim at-last before (cases_eq (c % 6) 5)
  where
    at-last : c % 6 ≡ 5 → 1 + 6 * w' + c % 6 ≤ 6 * w + c' % 6
    at-last e = let fewer = last e in omega (arith, fewer, e)

    before : (c % 6 ≡ 5 → ⊥) → 1 + 6 * w' + c % 6 ≤ 6 * w + c' % 6
    before ne = omega (arith, ne, less, next)

falls-together :
    (one more all w w' w'' p p' p'' : ℕ)
    → all ≡ one + more → one + 6 * w' + p ≤ 6 * w + p' → more + 6 * w'' + p' ≤ 6 * w' + p'' → all + 6 * w'' + p ≤ 6 * w + p''
falls-together one more all w w' w'' p p' p'' sum first rest = omega (arith, sum, first, rest)

too-many :
    (n many w w' c c' : ℕ)
    → 6 * (n + 1) ≤ many → w ≤ suc n → 1 ≤ w' → many + 6 * w' + c % 6 ≤ 6 * w + c' % 6 → ⊥
too-many n many w w' c c' reached first some falls = absurd (omega (arith, reached, first, some, falls))

module _ (is_predicate : ℕ → Bool) (options : Options) where
  -- ---- returns

  abbrev without : ℕ → PoolRecord → PoolRecord
  without job r = record r { given = without_job job r.given }

  -- what grows after a job is back
  back-moves :
      (job : ℕ) (r mid s : PoolRecord)
      → mid.given ≡ without_job job r.given → mid.jobs ≡ r.jobs → mid.claims ≡ r.claims → mid.registered ≡ r.registered
      → Grows mid s → Moves 0 r s
  back-moves job r mid s given jobs claims registered grown = record {
    claimed = let same : s.claims ≡ mid.claims = grown.claims in omega (arith, same, claims);
    clauses =
        let longer : length mid.registered ≤ length s.registered = grown-clauses mid s grown in
        let same : length mid.registered ≡ length r.registered = ap length registered in
        omega (arith, longer, same);
    rising = λ rise.
        subst (λ n. Rising 0 n s.given) (sym (grown.jobs ∙ jobs))
        (subst (λ js. Rising 0 r.jobs js) (sym (grown.given ∙ given)) (rising-filter _ 0 r.jobs r.given rise));
  }

  worked-moves : (job n : ℕ) (r : PoolRecord) (work : Work) → Moves 0 r (worked options n work (without job r))
  worked-moves job n r (Gone m) =
      back-moves job r (without job r) (removed options m (without job r)) refl refl refl refl (removed-grows options m (without job r))
  worked-moves job n r (Met entries removals) =
      back-moves job r (becomes_active n (without job r)) (worked options n (Met entries removals) (without job r)) refl refl refl refl
      (met-grows options n entries removals (without job r))

  stays : (r : PoolRecord) → Moves 0 r r
  stays r = record { claimed = omega arith; clauses = omega arith; rising = λ rise. rise }

  returned-moves : (batch : Batch) (o : Option GivenJob) (r : PoolRecord) → Moves 0 r (returns_to options batch o r)
  returned-moves batch None r = stays r
  returned-moves batch (Some j) r =
      by-if (Moves 0 r) (is_none r.ended) (worked options j.number batch.work (without batch.job r)) (becomes_active j.number (without batch.job r))
      (worked-moves batch.job j.number r batch.work)
      (back-moves batch.job r (becomes_active j.number (without batch.job r)) (becomes_active j.number (without batch.job r)) refl refl refl refl
      (grows-all (becomes_active j.number (without batch.job r))))

  -- ---- other events

  claim-moves : (job q : ℕ) (r : PoolRecord) → r.jobs < job → Moves 1 r (claimed_by options job (Some q) r)
  claim-moves job q r above = record {
    claimed = claimed-claims is_predicate options job q r;
    clauses = let same = ap length (claimed-clauses is_predicate options job (Some q) r) in omega (arith, same);
    rising = λ rise.
        by-if (λ s. Rising 0 (given_out options job q s).jobs (given_out options job q s).given) (has_number q r.positions) r
        (record r { positions = r.positions ++ q ∷ [] })
        (rising-end 0 r.jobs r.given (new_job options job q r) rise above)
        (rising-end 0 r.jobs r.given (new_job options job q (record r { positions = r.positions ++ q ∷ [] })) rise above);
  }

  modelled-moves : (o : Option SolverJob) (truths : List Bool) (r : PoolRecord) → Moves 0 r (modelled_by o truths r)
  modelled-moves None truths r = stays r
  modelled-moves (Some s) truths r = record { claimed = omega arith; clauses = omega arith; rising = λ rise. rise }

  refuted-moves : (o : Option SolverJob) (chains : List log.Chain) (r : PoolRecord) → Moves 0 r (refuted_by o chains r)
  refuted-moves None chains r = stays r
  refuted-moves (Some s) chains r =
      by-if (Moves 0 r) (is_none r.ended) _ _ (record { claimed = omega arith; clauses = omega arith; rising = λ rise. rise })
      (record { claimed = omega arith; clauses = omega arith; rising = λ rise. rise })

  retold-job : (job : ℕ) (r : PoolRecord) (j : GivenJob) → (if j.job == job then retold r j else j).job ≡ j.job
  retold-job job r j = by-if (λ (i : GivenJob). i.job ≡ j.job) (j.job == job) (retold r j) j refl refl

  abbrev claims_of : Event → ℕ
  claims_of e = cond (is_claim e) 1 0

  some-given : (r : PoolRecord) → is_some (next_given r) ≡ true → (q : ℕ) × (next_given r ≡ Some q)
  some-given r is = by (next_given r) refl is
    where
      by : (o : Option ℕ) → next_given r ≡ o → is_some o ≡ true → (q : ℕ) × (next_given r ≡ Some q)
      by None e is = absurd (true≢false (sym is))
      by (Some q) e is = (q, e)

  pub event-moves : (r : PoolRecord) (e : Event) → IsAllowed is_predicate options r e → Moves (claims_of e) r (after options r e)
  event-moves r (Claim job) allowed =
      let given = some-given r (allowed.2) in
      let moved : Moves 1 r (claimed_by options job (next_given r) r) =
      subst (λ o. Moves 1 r (claimed_by options job o r)) (sym given.1)
      (claim-moves job given.0 r (let e : job ≡ suc r.jobs = (allowed.0).0 in omega (arith, e))) in
      record { claimed = moved.claimed; clauses = moved.clauses; rising = moved.rising }
  event-moves r (Return batch) allowed =
      let moved = returned-moves batch (given_job r batch.job) r in
      record { claimed = moved.claimed; clauses = moved.clauses; rising = moved.rising }
  event-moves r (Stale job justifier) allowed = record {
    claimed = omega arith;
    clauses = omega arith;
    rising = λ rise. rising-map (λ (j : GivenJob). if j.job == job then retold r j else j) (retold-job job r) 0 r.jobs r.given rise;
  }
  event-moves r (Void job) allowed = record { claimed = omega arith; clauses = omega arith; rising = λ rise. rising-filter _ 0 r.jobs r.given rise }
  event-moves r (ClaimSolve job) allowed = record {
    claimed = omega arith;
    clauses = omega arith;
    rising = λ rise. rising-high 0 r.jobs job r.given (let e : job ≡ suc r.jobs = (allowed.0).0 in omega (arith, e)) rise;
  }
  event-moves r (ReturnModel job truths) allowed =
      let moved = modelled-moves r.solver truths r in
      record { claimed = moved.claimed; clauses = moved.clauses; rising = moved.rising }
  event-moves r (ReturnRefuted job chains) allowed =
      let moved = refuted-moves r.solver chains r in
      record { claimed = moved.claimed; clauses = moved.clauses; rising = moved.rising }
  event-moves r (Abandon job) allowed = record { claimed = omega arith; clauses = omega arith; rising = λ rise. rising-filter _ 0 r.jobs r.given rise }

  -- ---- one event

  -- the place of the next claim among six
  abbrev place : PoolRecord → ℕ
  place r = r.claims % 6

  -- how many of the first clauses wait
  abbrev waiting : ℕ → PoolRecord → ℕ
  waiting n r = passing (waits r) n

  picked-old : (r : PoolRecord) (ns : List ℕ) → picked r Old ns ≡ first_of ns
  picked-old r [] = refl
  picked-old r (n ∷ ns) = refl

  -- what a sixth claim takes waits, and is no younger than what is ready
  oldest :
      (r : PoolRecord) (n q : ℕ)
      → place r ≡ 5 → next_given r ≡ Some q → n < length r.registered → waits r n ≡ true → is_awake r n ≡ true
      → (q ≤ n) × (waits r q ≡ true)
  oldest r n q last given there waiting awake =
      let found = first-passes (λ k. waits r k && is_awake r k) 0 (length r.registered) n (omega arith) (omega (arith, there)) (and_from (waits r n) (is_awake r n) waiting awake) in
      let choice : next_choice r ≡ Old = ap (λ b. if b then Old else Light) (eq-eqb (r.claims % 6) 5 last) in
      let same : q ≡ found.0 =
      same_Some q found.0 (sym given ∙ ap (λ c. picked r c (ready r)) choice ∙ picked-old r (ready r) ∙ found.1) in (
        subst (λ k. k ≤ n) (sym same) found.2,
        subst (λ k. waits r k ≡ true) (sym same) (and_parts (waits r found.0) (is_awake r found.0) found.3).0,
      )

  event-falls :
      (n : ℕ) (r : PoolRecord) (e : Event)
      → IsAllowed is_predicate options r e → is_abandon e ≡ false → Rising 0 r.jobs r.given → n < length r.registered
      → is_awake r n ≡ true → waits r n ≡ true
      → claims_of e + 6 * waiting (suc n) (after options r e) + place r ≤ 6 * waiting (suc n) r + place (after options r e)
  event-falls n r e allowed kept rise there awake was = by e allowed kept (event-moves r e allowed).claimed weaker
    where
      weaker : (k : ℕ) → k < suc n → waits (after options r e) k ≡ true → waits r k ≡ true
      weaker k below after = event-busy is_predicate options 0 r.jobs k r e allowed kept rise (omega (arith, below, there)) after

      plain :
          (e : Event) → (after options r e).claims ≡ r.claims + 0
          → ((k : ℕ) → k < suc n → waits (after options r e) k ≡ true → waits r k ≡ true)
          → 0 + 6 * waiting (suc n) (after options r e) + place r ≤ 6 * waiting (suc n) r + place (after options r e)
      plain e claims weaker =
          falls-by-none (waiting (suc n) r) (waiting (suc n) (after options r e)) r.claims (after options r e).claims
          (passing-less (waits r) (waits (after options r e)) (suc n) weaker) claims

      by :
          (e : Event) → IsAllowed is_predicate options r e → is_abandon e ≡ false
          → (after options r e).claims ≡ r.claims + claims_of e
          → ((k : ℕ) → k < suc n → waits (after options r e) k ≡ true → waits r k ≡ true)
          → claims_of e + 6 * waiting (suc n) (after options r e) + place r ≤ 6 * waiting (suc n) r + place (after options r e)
      by (Claim job) allowed kept claims weaker =
          let given = some-given r (allowed.2) in
          falls-by-one (waiting (suc n) r) (waiting (suc n) (after options r (Claim job))) r.claims (after options r (Claim job)).claims
          (λ last.
          let old = oldest r n given.0 last given.1 there was awake in
          passing-fewer (waits r) (waits (after options r (Claim job))) (suc n) given.0 weaker (omega (arith, old.0)) old.1
          (subst (λ o. waits (claimed_by options job o r) given.0 ≡ false) (sym given.1) (claimed-taken is_predicate options job given.0 r)))
          (passing-less (waits r) (waits (after options r (Claim job))) (suc n) weaker)
          claims
      by (Return batch) allowed kept claims weaker = plain (Return batch) claims weaker
      by (Stale job justifier) allowed kept claims weaker = plain (Stale job justifier) claims weaker
      by (Void job) allowed kept claims weaker = plain (Void job) claims weaker
      by (ClaimSolve job) allowed kept claims weaker = plain (ClaimSolve job) claims weaker
      by (ReturnModel job truths) allowed kept claims weaker = plain (ReturnModel job truths) claims weaker
      by (ReturnRefuted job chains) allowed kept claims weaker = plain (ReturnRefuted job chains) claims weaker
      by (Abandon job) allowed kept claims weaker = absurd (true≢false kept)

  -- ---- a list of events

  claims-count : (e : Event) (es : List Event) → length (filter is_claim (e ∷ es)) ≡ claims_of e + length (filter is_claim es)
  claims-count e es = by (is_claim e)
    where
      by : (b : Bool) → length (cond b (e ∷ filter is_claim es) (filter is_claim es)) ≡ cond b 1 0 + length (filter is_claim es)
      by true = omega arith
      by false = omega arith

  -- where the clause waits in the end, it waited all the time, and there were few claims
  all-falls :
      (n : ℕ) (es : List Event) (r : PoolRecord)
      → IsLawfulFrom is_predicate options r es → Rising 0 r.jobs r.given → n < length r.registered
      → ((k : ℕ) → is_awake (later_of options r (take k es)) n ≡ true) → list_any is_abandon es ≡ false
      → waits (later_of options r es) n ≡ true
      → (waits r n ≡ true)
      × (length (filter is_claim es) + 6 * waiting (suc n) (later_of options r es) + place r ≤ 6 * waiting (suc n) r + place (later_of options r es))
  all-falls n [] r lawful rise there awake kept waiting_then = (waiting_then, omega arith)
  all-falls n (e ∷ es) r lawful rise there awake kept waiting_then =
      let moved = event-moves r e lawful.0 in
      let parts = or_parts (is_abandon e) (list_any is_abandon es) kept in
      let longer : length r.registered ≤ length (after options r e).registered = moved.clauses in
      let rest = all-falls n es (after options r e) lawful.1 (moved.rising rise) (omega (arith, there, longer)) (λ k. awake (suc k)) parts.1 waiting_then in
      let was = event-busy is_predicate options 0 r.jobs n r e lawful.0 parts.0 rise there rest.0 in (
        was,
        falls-together (claims_of e) (length (filter is_claim es)) (length (filter is_claim (e ∷ es)))
            (waiting (suc n) r) (waiting (suc n) (after options r e)) (waiting (suc n) (later_of options r (e ∷ es)))
            (place r) (place (after options r e)) (place (later_of options r (e ∷ es)))
            (claims-count e es) (event-falls n r e lawful.0 parts.0 rise there (awake 0) was) rest.1,
      )

  all-move : (es : List Event) (r : PoolRecord) → IsLawfulFrom is_predicate options r es → Rising 0 r.jobs r.given → Rising 0 (later_of options r es).jobs (later_of options r es).given
  all-move [] r lawful rise = rise
  all-move (e ∷ es) r lawful rise = all-move es (after options r e) lawful.1 ((event-moves r e lawful.0).rising rise)

-- the numbers of the jobs that are out rise
pub jobs-rise : (is_predicate : ℕ → Bool) (origin : Origin) (es : List Event) → IsLawful is_predicate origin es → Rising 0 (replay origin es).jobs (replay origin es).given
jobs-rise is_predicate origin es lawful =
    let begun = registers-grows nothing_registered (start origin) (inputs-register origin.options.split 0 origin.inputs nothing_registered) in
    all-move is_predicate origin.options es (start origin) lawful
    (subst (λ k. Rising 0 k (start origin).given) (sym begun.jobs) (subst (λ js. Rising 0 0 js) (sym begun.given) (omega arith)))

pub claimed_in_time : ClaimedInTime
claimed_in_time is_predicate origin before later n lawful there stays kept many =
    let parts = lawful-append is_predicate origin.options before later (start origin) lawful in
    let rise : Rising 0 r.jobs r.given = jobs-rise is_predicate origin before parts.0 in
    false_from_ne_true (waits (replay origin (before ++ later)) n) (λ waiting_then.
    let falls =
    all-falls is_predicate origin.options n later r parts.1 rise there awake kept
    (ap (λ s. waits s n) (sym (later-append origin.options before later (start origin))) ∙ waiting_then) in
    too-many n (length (filter is_claim later)) (passing (waits r) (suc n))
    (passing (waits (fold (after origin.options) r later)) (suc n)) r.claims (fold (after origin.options) r later).claims
    many (passing-bound (waits r) (suc n))
    (passing-some (waits (fold (after origin.options) r later)) (suc n) n (omega arith)
    (ap (λ s. waits s n) (sym (later-append origin.options before later (start origin))) ∙ waiting_then))
    falls.1)
  where
    r : PoolRecord
    r = replay origin before

    awake : (k : ℕ) → is_awake (fold (after origin.options) r (take k later)) n ≡ true
    awake k =
        let s : PoolRecord = replay origin (before ++ take k later) in
        ap (λ s. is_awake s n) (sym (later-append origin.options before (take k later) (start origin)))
        ∙ (and_parts (lives s n) (is_awake s n) (stays k)).1
