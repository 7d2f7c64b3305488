-- What is told now follows from the news, and a job that is out was told what was told at its moment.
use Rattle.std.proofs.Common.{◌≡◌, ℕ, suc, ◌+◌, ◌≤◌, Bool, true, not, ◌&&◌, ◌==◌, List, [], ◌∷◌, ◌++◌, map, length, take, drop, get_or, append-nil, append_assoc, refl, ap, ap₂, sym, ◌∙◌, subst, arith}
use Rattle.std.specs.Prelude.{Option, None, Some, cond, is_none, nat_lt, slice_get, option_map, unwrap_or, fold, filter, All, if◌then◌else◌}
use Rattle.std.specs.List.{list_all, AllByRecursion}
use Rattle.std.proofs.Math.Seq.{drop-append_seam}
use Rattle.std.proofs.lemmas.Bool.{and_parts, ltb-true}
use Rattle.std.proofs.lemmas.List.{map-append}
use Rattle.std.proofs.lemmas.List.Elements.{All-nil, All-append, All-contains, All-map, All-weaker, filter_map-append}
use Rattle.std.proofs.lemmas.Option.{slice_get-get_or}
use Rattle.fol_base.specs.Clause.{TreeClause}
use Rattle.fol_base.proofs.WorkedExamples.TestLemmas.{list_all-item, list_any-map}
use Rattle.kernel_steps.specs.Conclusion.{empty_clause}
use Rattle.kernel_steps.specs.Split.{has_number}
use Rattle.sat_core.specs.declared.answer.Chain as log
use Rattle.pool_history.specs.Record.{PoolRecord, Registered, Death, GivenJob, SolverJob, clauses_of, clause_numbered, has_died, lives, told_now, given_job, without_job, nothing_registered}
use Rattle.pool_history.specs.Claiming.{new_job, next_given, given_out, claimed_by}
use Rattle.pool_history.specs.Returning.{becomes_active, worked, returns_to}
use Rattle.pool_history.specs.Solving.{modelled_by, refuted_by}
use Rattle.pool_history.specs.News.{TreeChange, activated, died, changes_between, changes_from, news_since}
use Rattle.pool_history.specs.Replay.{Origin, retold, after, start, replay}
use Rattle.pool_history.specs.Told.{activated_numbers, died_numbers, ToldAreNews, NewsAreRegistered, JobsWereTold}
use Rattle.pool_history.specs.declared.options.Options.{Options}
use Rattle.pool_history.specs.declared.batch.Batch.{Batch}
use Rattle.pool_history.specs.declared.batch.Work.{Work}
use Rattle.pool_history.specs.declared.batch.Work.TheVariants.{Gone, Met}
use Rattle.pool_history.specs.declared.event.Event.{Event}
use Rattle.pool_history.specs.declared.event.Event.TheVariants.{Claim, Return, Stale, Void, ClaimSolve, ReturnModel, ReturnRefuted, Abandon}
use Rattle.pool_history.proofs.AboutClaims.ClaimedRecords.{after-claim, positions_with}
use Rattle.pool_history.proofs.AboutCounting.CountedRecords.{lookup-more}
use Rattle.pool_history.proofs.AboutRecords.FrameLemmas.{by-if, inputs-register}
use Rattle.pool_history.proofs.AboutRecords.GrowthLemmas.{removed-grows, met-grows, more-then, registers-grows}
use Rattle.pool_history.proofs.AboutClaims.HandLemmas.{all-end, all-filter, all-found, all-weaker}
use Rattle.pool_history.proofs.AboutClaims.HistoryLemmas.{event-count, no-event}
use Rattle.pool_history.proofs.AboutLines.JoinedLemmas.{all-from}
use Rattle.pool_history.proofs.AboutRecords.JobNumberLemmas.{after-positions}
use Rattle.pool_history.proofs.AboutRecords.PlaceLemmas.{Placed, after-placed, start-placed, replay-placed}

-- ---- numbers among changes

activated-only : (clause : ℕ → TreeClause) (ns : List ℕ) → activated_numbers (map (λ n. activated n (clause n)) ns) ≡ ns
activated-only clause [] = refl
activated-only clause (n ∷ ns) = ap (λ ms. n ∷ ms) (activated-only clause ns)

none-activated : (ds : List Death) → activated_numbers (map (λ (d : Death). died d.victim) ds) ≡ []
none-activated [] = refl
none-activated (d ∷ ds) = none-activated ds

died-only : (ds : List Death) → died_numbers (map (λ (d : Death). died d.victim) ds) ≡ map (λ (d : Death). d.victim) ds
died-only [] = refl
died-only (d ∷ ds) = ap (λ ms. d.victim ∷ ms) (died-only ds)

none-died : (clause : ℕ → TreeClause) (ns : List ℕ) → died_numbers (map (λ n. activated n (clause n)) ns) ≡ []
none-died clause [] = refl
none-died clause (n ∷ ns) = none-died clause ns

-- what an event adds
pub record Adds (r s : PoolRecord) : Type 0 where
  pub places : (ns : List ℕ) × (s.positions ≡ r.positions ++ ns)
  pub deaths : (ds : List Death) × (s.deaths ≡ r.deaths ++ ds)

pub new-places : (r s : PoolRecord) (adds : Adds r s) → drop (length r.positions) s.positions ≡ adds.places.0
new-places r s adds = ap (drop (length r.positions)) adds.places.1 ∙ drop-append_seam r.positions adds.places.0

pub new-deaths : (r s : PoolRecord) (adds : Adds r s) → drop (length r.deaths) s.deaths ≡ adds.deaths.0
new-deaths r s adds = ap (drop (length r.deaths)) adds.deaths.1 ∙ drop-append_seam r.deaths adds.deaths.0

between-activated : (r s : PoolRecord) (adds : Adds r s) → r.positions ++ activated_numbers (changes_between r s) ≡ s.positions
between-activated r s adds =
    ap (λ ns. r.positions ++ ns)
    (filter_map-append _ (map (λ n. activated n (clause_numbered s n)) (drop (length r.positions) s.positions)) (map (λ (d : Death). died d.victim) (drop (length r.deaths) s.deaths))
    ∙ ap₂ (λ ns ms. ns ++ ms) (activated-only (clause_numbered s) (drop (length r.positions) s.positions)) (none-activated (drop (length r.deaths) s.deaths))
    ∙ append-nil (drop (length r.positions) s.positions) ∙ new-places r s adds)
    ∙ sym adds.places.1

between-died : (r s : PoolRecord) (adds : Adds r s) → map (λ (d : Death). d.victim) r.deaths ++ died_numbers (changes_between r s) ≡ map (λ (d : Death). d.victim) s.deaths
between-died r s adds =
    ap (λ ns. map (λ (d : Death). d.victim) r.deaths ++ ns)
    (filter_map-append _ (map (λ n. activated n (clause_numbered s n)) (drop (length r.positions) s.positions)) (map (λ (d : Death). died d.victim) (drop (length r.deaths) s.deaths))
    ∙ ap₂ (λ ns ms. ns ++ ms) (none-died (clause_numbered s) (drop (length r.positions) s.positions)) (died-only (drop (length r.deaths) s.deaths))
    ∙ ap (map (λ (d : Death). d.victim)) (new-deaths r s adds))
    ∙ sym (map-append (λ (d : Death). d.victim) r.deaths adds.deaths.0)
    ∙ ap (map (λ (d : Death). d.victim)) (sym adds.deaths.1)

module _ (options : Options) where
  abbrev without : ℕ → PoolRecord → PoolRecord
  without job r = record r { given = without_job job r.given }

  -- ---- deaths and registered clauses only grow

  abbrev MoreDeaths : PoolRecord → PoolRecord → Type 0
  MoreDeaths r s = (ds : List Death) × (s.deaths ≡ r.deaths ++ ds)

  abbrev MoreClauses : PoolRecord → PoolRecord → Type 0
  MoreClauses r s = (cs : List Registered) × (s.registered ≡ r.registered ++ cs)

  abbrev MoreOfBoth : PoolRecord → PoolRecord → Type 0
  MoreOfBoth r s = MoreDeaths r s × MoreClauses r s

  same-both : (r : PoolRecord) → MoreOfBoth r r
  same-both r = (([], sym (append-nil r.deaths)), ([], sym (append-nil r.registered)))

  claimed-both : (job : ℕ) (o : Option ℕ) (r : PoolRecord) → MoreOfBoth r (claimed_by options job o r)
  claimed-both job None r = same-both r
  claimed-both job (Some n) r =
      by-if (λ s. MoreOfBoth r (given_out options job n s)) (has_number n r.positions) r (record r { positions = r.positions ++ n ∷ [] }) (same-both r) (same-both r)

  worked-both : (job n : ℕ) (work : Work) (r : PoolRecord) → MoreOfBoth r (worked options n work (without job r))
  worked-both job n (Gone m) r = let grown = removed-grows options m (without job r) in (grown.deaths, grown.clauses)
  worked-both job n (Met entries removals) r = let grown = met-grows options n entries removals (without job r) in (grown.deaths, grown.clauses)

  returned-both : (batch : Batch) (o : Option GivenJob) (r : PoolRecord) → MoreOfBoth r (returns_to options batch o r)
  returned-both batch None r = same-both r
  returned-both batch (Some j) r =
      by-if (MoreOfBoth r) (is_none r.ended) (worked options j.number batch.work (without batch.job r)) (becomes_active j.number (without batch.job r))
      (worked-both batch.job j.number batch.work r) (same-both r)

  modelled-both : (o : Option SolverJob) (truths : List Bool) (r : PoolRecord) → MoreOfBoth r (modelled_by o truths r)
  modelled-both None truths r = same-both r
  modelled-both (Some s) truths r = same-both r

  refuted-both : (o : Option SolverJob) (chains : List log.Chain) (r : PoolRecord) → MoreOfBoth r (refuted_by o chains r)
  refuted-both None chains r = same-both r
  refuted-both (Some s) chains r = by-if (MoreOfBoth r) (is_none r.ended) _ _ (same-both r) (same-both r)

  pub after-both : (r : PoolRecord) (e : Event) → MoreOfBoth r (after options r e)
  after-both r (Claim job) = claimed-both job (next_given r) r
  after-both r (Return batch) = returned-both batch (given_job r batch.job) r
  after-both r (Stale job justifier) = same-both r
  after-both r (Void job) = same-both r
  after-both r (ClaimSolve job) = same-both r
  after-both r (ReturnModel job truths) = modelled-both r.solver truths r
  after-both r (ReturnRefuted job chains) = refuted-both r.solver chains r
  after-both r (Abandon job) = same-both r

  pub history-both : (es : List Event) (r : PoolRecord) → MoreOfBoth r (fold (after options) r es)
  history-both [] r = same-both r
  history-both (e ∷ es) r =
      let s : PoolRecord = after options r e in
      let t : PoolRecord = fold (after options) s es in
      let one = after-both r e in
      let rest = history-both es s in
      (more-then r.deaths s.deaths t.deaths one.0 rest.0, more-then r.registered s.registered t.registered one.1 rest.1)

  pub event-adds : (r : PoolRecord) (e : Event) → Adds r (after options r e)
  event-adds r e = record { places = after-positions options r e; deaths = (after-both r e).0 }

  -- ---- the numbers of all changes

  all-activated : (es : List Event) (r : PoolRecord) → r.positions ++ activated_numbers (changes_from options r es) ≡ (fold (after options) r es).positions
  all-activated [] r = append-nil r.positions
  all-activated (e ∷ es) r =
      let s : PoolRecord = after options r e in
      ap (λ ns. r.positions ++ ns) (filter_map-append _ (changes_between r s) (changes_from options s es))
      ∙ sym (append_assoc r.positions (activated_numbers (changes_between r s)) (activated_numbers (changes_from options s es)))
      ∙ ap (λ ns. ns ++ activated_numbers (changes_from options s es)) (between-activated r s (event-adds r e))
      ∙ all-activated es s

  all-died :
      (es : List Event) (r : PoolRecord)
      → map (λ (d : Death). d.victim) r.deaths ++ died_numbers (changes_from options r es) ≡ map (λ (d : Death). d.victim) (fold (after options) r es).deaths
  all-died [] r = append-nil (map (λ (d : Death). d.victim) r.deaths)
  all-died (e ∷ es) r =
      let s : PoolRecord = after options r e in
      ap (λ ns. map (λ (d : Death). d.victim) r.deaths ++ ns) (filter_map-append _ (changes_between r s) (changes_from options s es))
      ∙ sym (append_assoc (map (λ (d : Death). d.victim) r.deaths) (died_numbers (changes_between r s)) (died_numbers (changes_from options s es)))
      ∙ ap (λ ns. ns ++ died_numbers (changes_from options s es)) (between-died r s (event-adds r e))
      ∙ all-died es s

  -- ---- the clauses of changes

  abbrev IsOf : PoolRecord → TreeChange → Type 0
  IsOf r (activated n c) = clauses_of r n ≡ Some c
  IsOf r (died n) = Unit {0}

  pub numbered-there : (r : PoolRecord) (n : ℕ) → nat_lt n (length r.registered) ≡ true → clauses_of r n ≡ Some (clause_numbered r n)
  numbered-there r n below =
      let none : Registered = record { clause = empty_clause; line = 0 } in
      let there : slice_get r.registered n ≡ Some (get_or r.registered n none) =
      slice_get-get_or r.registered n none (ltb-true n (length r.registered) below) in
      let clause : clauses_of r n ≡ Some (get_or r.registered n none).clause = ap (λ (o : Option Registered). option_map (λ (x : Registered). x.clause) o) there in
      clause ∙ ap Some (sym (ap (λ (o : Option TreeClause). unwrap_or o empty_clause) clause))

  later-of : (r s : PoolRecord) → MoreClauses r s → (change : TreeChange) → IsOf r change → IsOf s change
  later-of r s more (activated n c) is =
      subst (λ (xs : List Registered). option_map (λ (x : Registered). x.clause) (slice_get xs n) ≡ Some c) (sym more.1) (lookup-more r.registered more.0 n c is)
  later-of r s more (died n) is = tt

  between-of : (r s : PoolRecord) (adds : Adds r s) → Placed s → All (IsOf s) (changes_between r s)
  between-of r s adds placed =
      All-append (IsOf s) (map (λ n. activated n (clause_numbered s n)) (drop (length r.positions) s.positions)) (map (λ (d : Death). died d.victim) (drop (length r.deaths) s.deaths))
      (All-map (IsOf s) (λ n. activated n (clause_numbered s n)) (drop (length r.positions) s.positions)
      (all-from (λ n. clauses_of s n ≡ Some (clause_numbered s n)) (drop (length r.positions) s.positions)
      (λ k n there. numbered-there s n (list_all-item (λ m. nat_lt m (length s.registered)) (drop (length r.positions) s.positions) k n there new_below))))
      (All-map (IsOf s) (λ (d : Death). died d.victim) (drop (length r.deaths) s.deaths) (λ k d within. tt))
    where
      new_below : list_all (λ m. nat_lt m (length s.registered)) (drop (length r.positions) s.positions) ≡ true
      new_below =
          ap (list_all (λ m. nat_lt m (length s.registered))) (new-places r s adds)
          ∙ behind (λ m. nat_lt m (length s.registered)) r.positions adds.places.0
          (ap (list_all (λ m. nat_lt m (length s.registered))) (sym adds.places.1) ∙ placed.registered)
        where
          behind : (p : ℕ → Bool) (xs ys : List ℕ) → list_all p (xs ++ ys) ≡ true → list_all p ys ≡ true
          behind p [] ys all = all
          behind p (x ∷ xs) ys all = behind p xs ys (and_parts (p x) (list_all p (xs ++ ys)) all).1

  pub clauses-more : (es : List Event) (r : PoolRecord) → MoreClauses r (fold (after options) r es)
  clauses-more [] r = ([], sym (append-nil r.registered))
  clauses-more (e ∷ es) r =
      more-then r.registered (after options r e).registered (fold (after options) r (e ∷ es)).registered (after-both r e).1 (clauses-more es (after options r e))

  all-of : (es : List Event) (r : PoolRecord) → Placed r → All (IsOf (fold (after options) r es)) (changes_from options r es)
  all-of [] r placed = All-nil (IsOf r)
  all-of (e ∷ es) r placed =
      let s : PoolRecord = after options r e in
      let last : PoolRecord = fold (after options) s es in
      let now : Placed s = after-placed options r e placed in
      All-append (IsOf last) (changes_between r s) (changes_from options s es)
      (All-weaker (IsOf s) (IsOf last) (later-of s last (clauses-more es s)) (changes_between r s) (between-of r s (event-adds r e) now)) (all-of es s now)

  -- ---- jobs were told what was told at their moment

  pub worked-given : (job n : ℕ) (work : Work) (r : PoolRecord) → (worked options n work (without job r)).given ≡ without_job job r.given
  worked-given job n (Gone m) r = (removed-grows options m (without job r)).given
  worked-given job n (Met entries removals) r = (met-grows options n entries removals (without job r)).given

  modelled-same : (o : Option SolverJob) (truths : List Bool) (r : PoolRecord) → (modelled_by o truths r).given ≡ r.given
  modelled-same None truths r = refl
  modelled-same (Some s) truths r = refl

  refuted-same : (o : Option SolverJob) (chains : List log.Chain) (r : PoolRecord) → (refuted_by o chains r).given ≡ r.given
  refuted-same None chains r = refl
  refuted-same (Some s) chains r = by-if (λ (t : PoolRecord). t.given ≡ r.given) (is_none r.ended) _ _ refl refl

  -- what was told after so many events is handed in
  module _ (told_at : ℕ → List ℕ) where
    abbrev IsTold : ℕ → GivenJob → Type 0
    IsTold events j = (j.as_of ≤ events) × (j.told ≡ told_at j.as_of)

    abbrev AreTold : PoolRecord → Type 0
    AreTold r = AllByRecursion (IsTold r.events) r.given

    -- what is told now is told after the events so far
    abbrev IsNow : PoolRecord → Type 0
    IsNow r = told_now r ≡ told_at r.events

    -- the jobs of before were told by earlier events
    told-before : (events : ℕ) (j : GivenJob) → IsTold events j → IsTold (events + 1) j
    told-before events j is = let low = is.0 in (omega (arith, low), is.1)

    all-before : (r s : PoolRecord) → s.events ≡ r.events + 1 → s.given ≡ r.given → AreTold r → AreTold s
    all-before r s events given told =
        subst (λ n. AllByRecursion (IsTold n) s.given) (sym events)
        (subst (AllByRecursion (IsTold (r.events + 1))) (sym given) (all-weaker (IsTold r.events) (IsTold (r.events + 1)) (told-before r.events) r.given told))

    some-before : (job : ℕ) (r s : PoolRecord) → s.events ≡ r.events + 1 → s.given ≡ without_job job r.given → AreTold r → AreTold s
    some-before job r s events given told =
        subst (λ n. AllByRecursion (IsTold n) s.given) (sym events)
        (subst (AllByRecursion (IsTold (r.events + 1))) (sym given)
        (all-filter (IsTold (r.events + 1)) (λ (j : GivenJob). not (j.job == job)) r.given
        (all-weaker (IsTold r.events) (IsTold (r.events + 1)) (told-before r.events) r.given told)))

    claimed-told : (job : ℕ) (o : Option ℕ) (r : PoolRecord) → next_given r ≡ o → IsNow (after options r (Claim job)) → AreTold r → AreTold (after options r (Claim job))
    claimed-told job None r none now told =
        all-before r (after options r (Claim job)) refl (ap (λ o. (claimed_by options job o r).given) none) told
    claimed-told job (Some n) r next now told =
        let ps : List ℕ = positions_with n r in
        let s : PoolRecord = record r { positions = ps } in
        let same = after-claim options job n r next in
        subst AreTold (sym same)
        (all-end (IsTold (r.events + 1)) r.given (new_job options job n s)
        (all-weaker (IsTold r.events) (IsTold (r.events + 1)) (told-before r.events) r.given told)
        (omega arith, subst IsNow same now))

    returned-told : (batch : Batch) (o : Option GivenJob) (r : PoolRecord) → given_job r batch.job ≡ o → AreTold r → AreTold (after options r (Return batch))
    returned-told batch None r none told =
        all-before r (after options r (Return batch)) refl (ap (λ o. (returns_to options batch o r).given) none) told
    returned-told batch (Some j) r found told =
        some-before batch.job r (after options r (Return batch)) refl
        (ap (λ o. (returns_to options batch o r).given) found
        ∙ by-if (λ (s : PoolRecord). s.given ≡ without_job batch.job r.given) (is_none r.ended) (worked options j.number batch.work (without batch.job r))
        (becomes_active j.number (without batch.job r)) (worked-given batch.job j.number batch.work r) refl) told

    retold-all :
        (job : ℕ) (r : PoolRecord) (js : List GivenJob) → told_now r ≡ told_at (r.events + 1) → AllByRecursion (IsTold r.events) js
        → AllByRecursion (IsTold (r.events + 1)) (map (λ (j : GivenJob). if j.job == job then retold r j else j) js)
    retold-all job r [] now told = tt
    retold-all job r (j ∷ js) now told = (
      by-if (IsTold (r.events + 1)) (j.job == job) (retold r j) j (omega arith, now) (told-before r.events j told.0),
      retold-all job r js now told.1,
    )

    after-told : (r : PoolRecord) (e : Event) → IsNow (after options r e) → AreTold r → AreTold (after options r e)
    after-told r (Claim job) now told = claimed-told job (next_given r) r refl now told
    after-told r (Return batch) now told = returned-told batch (given_job r batch.job) r refl told
    after-told r (Stale job justifier) now told = retold-all job r r.given now told
    after-told r (Void job) now told = some-before job r (after options r (Void job)) refl refl told
    after-told r (ClaimSolve job) now told = all-before r (after options r (ClaimSolve job)) refl refl told
    after-told r (ReturnModel job truths) now told = all-before r (after options r (ReturnModel job truths)) refl (modelled-same r.solver truths r) told
    after-told r (ReturnRefuted job chains) now told = all-before r (after options r (ReturnRefuted job chains)) refl (refuted-same r.solver chains r) told
    after-told r (Abandon job) now told = some-before job r (after options r (Abandon job)) refl refl told

    history-told :
        (es : List Event) (r : PoolRecord)
        → ((k : ℕ) → told_now (fold (after options) r (take k es)) ≡ told_at (r.events + k)) → AreTold r → AreTold (fold (after options) r es)
    history-told [] r each told = told
    history-told (e ∷ es) r each told =
        history-told es (after options r e)
        (λ k. each (suc k) ∙ ap told_at (let same : r.events + suc k ≡ (r.events + 1) + k = omega arith in same))
        (after-told r e (each 1) told)

-- ---- the laws

-- of registered clauses, those that live are those that didn't die
pub living-kept : (r : PoolRecord) (ns : List ℕ) → list_all (λ n. nat_lt n (length r.registered)) ns ≡ true → filter (lives r) ns ≡ filter (λ n. not (has_died r.deaths n)) ns
living-kept r [] below = refl
living-kept r (n ∷ ns) below =
    let parts = and_parts (nat_lt n (length r.registered)) (list_all (λ m. nat_lt m (length r.registered)) ns) below in
    ap (λ b. cond (b && not (has_died r.deaths n)) (n ∷ filter (lives r) ns) (filter (lives r) ns)) parts.0
    ∙ ap (λ ms. cond (not (has_died r.deaths n)) (n ∷ ms) ms) (living-kept r ns parts.1)

module _ (origin : Origin) (history : List Event) where
  abbrev changes : List TreeChange
  changes = news_since origin history 0

  pub start-is : (r : PoolRecord) → r ≡ start origin → (r.positions ≡ []) × (r.deaths ≡ [])
  start-is r is =
      let grown = registers-grows nothing_registered (start origin) (inputs-register origin.options.split 0 origin.inputs nothing_registered) in (
        ap (λ (s : PoolRecord). s.positions) is ∙ grown.positions,
        ap (λ (s : PoolRecord). s.deaths) is ∙ ap (λ (s : PoolRecord). s.deaths) (inputs-register origin.options.split 0 origin.inputs nothing_registered).same,
      )

  positions-told : activated_numbers changes ≡ (replay origin history).positions
  positions-told =
      ap (λ ns. ns ++ activated_numbers changes) (sym (start-is (start origin) refl).0) ∙ all-activated origin.options history (start origin)

  deaths-told : died_numbers changes ≡ map (λ (d : Death). d.victim) (replay origin history).deaths
  deaths-told =
      ap (λ (ds : List Death). map (λ (d : Death). d.victim) ds ++ died_numbers changes) (sym (start-is (start origin) refl).1)
      ∙ all-died origin.options history (start origin)

pub told_are_news : ToldAreNews
told_are_news origin history =
    let r : PoolRecord = replay origin history in
    living-kept r r.positions (replay-placed origin history).registered
    ∙ ap (λ (p : ℕ → Bool). filter p r.positions) (λ i n. not (sym (list_any-map (λ m. n == m) (λ (d : Death). d.victim) r.deaths) i))
    ∙ ap₂ (λ ds ns. filter (λ n. not (has_number n ds)) ns) (sym (deaths-told origin history)) (sym (positions-told origin history))

pub news_are_registered : NewsAreRegistered
news_are_registered origin history n c there =
    All-contains (IsOf origin.options (replay origin history)) (news_since origin history 0) (activated n c)
    (all-of origin.options history (start origin) (start-placed origin)) there

pub jobs_were_told : JobsWereTold
jobs_were_told origin history job j out =
    let told_at : ℕ → List ℕ = λ n. told_now (replay origin (take n history)) in
    let r : PoolRecord = replay origin history in
    let begun = registers-grows nothing_registered (start origin) (inputs-register origin.options.split 0 origin.inputs nothing_registered) in
    let none = no-event origin in
    let all =
    history-told origin.options told_at history (start origin)
    (λ k. ap told_at (let same : k ≡ (start origin).events + k = omega (arith, none) in same))
    (subst (AllByRecursion (IsTold origin.options told_at (start origin).events)) (sym begun.given) tt) in
    let is = all-found (IsTold origin.options told_at r.events) job r.given j all out in
    let low = is.0 in
    let count = event-count origin history in
    (omega (arith, low, count), is.1)
