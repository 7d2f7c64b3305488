-- No key is counted twice: of two clauses that meet, the one of the later position met the other in its one job; and a clause dies once.
use Rattle.std.proofs.Common.{◌≡◌, ◌≢◌, ℕ, ◌≤◌, Bool, true, false, not, ◌||◌, ◌==◌, List, [], ◌∷◌, ◌++◌, map, append-nil, refl, ap, sym, ◌∙◌, inl, inr, ⊎_elim, subst, arith}
use Rattle.std.specs.Prelude.{Option, None, Some, cond, is_none, fold, find, All, if◌then◌else◌}
use Rattle.std.specs.List.{list_all, AllByRecursion}
use Rattle.std.proofs.lemmas.Bool.{true≢false, and_parts, and_from, or_cases, or_left, or_right, eqb-true, ne_eqb}
use Rattle.std.proofs.lemmas.List.Elements.{All-nil, All-weaker, All-from_recursion, recursion_from_All}
use Rattle.std.proofs.lemmas.Option.{same_Some}
use Rattle.fol_base.specs.Literal.{clause_of}
use Rattle.fol_base.specs.Selection.{SelectionMode}
use Rattle.kernel_steps.specs.Split.{has_number}
use Rattle.kernel_steps.specs.declared.key.Key.{Key}
use Rattle.kernel_steps.specs.declared.key.Key.TheVariants.{Replaced}
use Rattle.literal_selection.specs.Mode.{mode_of}
use Rattle.kernel_steps.proofs.AboutSplits.SplitTables.{has-right}
use Rattle.sat_core.specs.declared.answer.Chain as log
use Rattle.pool_history.specs.Record.{PoolRecord, Registered, GivenJob, SolverJob, clauses_of, has_died, lives, given_job, without_job, nothing_registered}
use Rattle.pool_history.specs.Counting.{keys_of, lines_of_entries, counts}
use Rattle.pool_history.specs.Returning.{removed, becomes_active, sets_aside, worked, returns_to}
use Rattle.pool_history.specs.Solving.{modelled_by, refuted_by}
use Rattle.pool_history.specs.Claiming.{new_job, next_given, claimed_by}
use Rattle.pool_history.specs.Outcomes.{premises}
use Rattle.pool_history.specs.Batches.{told_before, IsRightFate, IsRightWork, is_to_meet}
use Rattle.pool_history.specs.Replay.{Origin, retold, after, start, replay}
use Rattle.pool_history.specs.Lawful.{IsAllowed, IsLawfulFrom}
use Rattle.pool_history.specs.Laws.{IsCounted, CountedOnce}
use Rattle.pool_history.specs.Told.{GivenAreTold}
use Rattle.pool_history.specs.declared.options.Options.{Options}
use Rattle.pool_history.specs.declared.batch.Batch.{Batch}
use Rattle.pool_history.specs.declared.batch.Entry.{Entry}
use Rattle.pool_history.specs.declared.batch.Fate.{Fate}
use Rattle.pool_history.specs.declared.batch.Fate.TheVariants.{Kept, Dropped, Heavy}
use Rattle.pool_history.specs.declared.batch.Removal.{Removal}
use Rattle.pool_history.specs.declared.batch.Work.{Work}
use Rattle.pool_history.specs.declared.batch.Work.TheVariants.{Gone, Met}
use Rattle.pool_history.specs.declared.event.Event.{Event}
use Rattle.pool_history.specs.declared.event.Event.TheVariants.{Claim, Return, Stale, Void, ClaimSolve, ReturnModel, ReturnRefuted, Abandon}
use Rattle.pool_history.proofs.AboutClaims.ClaimedRecords.{after-claim, given-waits, positions_with}
use Rattle.pool_history.proofs.AboutCounting.DeathLemmas.{all-weaker}
use Rattle.pool_history.proofs.AboutRecords.FrameLemmas.{by-if, inputs-register}
use Rattle.pool_history.proofs.AboutRecords.GrowthLemmas.{Grows, registers-grows, removed-grows, met-grows, waiting-parts}
use Rattle.pool_history.proofs.AboutClaims.HandLemmas.{AreInHand, all-filter, all-end, all-found, after-in-hand, same-in-hand}
use Rattle.pool_history.proofs.AboutBounds.JobLemmas.{Rising}
use Rattle.pool_history.proofs.AboutLines.JoinedLemmas.{by-test}
use Rattle.pool_history.proofs.AboutRecords.PlaceLemmas.{has-first}
use Rattle.pool_history.proofs.AboutBounds.TimeLemmas.{event-moves}
use Rattle.pool_history.proofs.AboutCounting.CountedRecords.{all-proposed-tallied, counts-tallied, Accounts, AreNew, IsInferred, IsMet, IsTally, Longer, Lookup, Tallied, TellsBefore, each-weaker, front, front-taken, has-kept, inferred-told, never-both, no-replaced, number-passes, removed-tallied, tallied-longer, tallied-registers, tells-longer, tells-now}

-- ---- right batches

module _ (is_predicate : ℕ → Bool) (options : Options) where
  abbrev the_mode : SelectionMode
  the_mode = mode_of options.select

  pub fate-inferred :
      (registered : List Registered) (j : GivenJob) (key : Key) (fate : Fate)
      → IsRightFate is_predicate options (Lookup registered) j key fate → IsInferred is_predicate the_mode registered key
  fate-inferred registered j key (Kept lines results) right =
      inferred-told is_predicate the_mode options j registered key (clause_of right.first.clause) false right.inferred
  fate-inferred registered j key (Dropped redundancy) right = inferred-told is_predicate the_mode options j registered key right.conclusion false right.inferred
  fate-inferred registered j key Heavy right = inferred-told is_predicate the_mode options j registered key right.0 true right.1

  module _ (r : PoolRecord) (j : GivenJob) (idle : has_number j.number r.active ≡ false) (tells : TellsBefore r.positions j) where
    -- a clause that is to be met is the given one, or stands before it
    stands-before : (n : ℕ) → ((n == j.number) || has_number n (told_before j)) ≡ true → ((n == j.number) || has_number n (front j.number r.positions)) ≡ true
    stands-before n there =
        ⊎_elim
        (λ (same : (n == j.number) ≡ true). or_left (n == j.number) (has_number n (front j.number r.positions)) same)
        (λ (told : has_number n (told_before j) ≡ true).
        or_right (n == j.number) (has_number n (front j.number r.positions))
        (number-passes (λ k. has_number k (front j.number r.positions)) n (front j.number j.told)
        (ap (has_number n) (sym (front-taken j.number j.told)) ∙ told) tells.1))
        (or_cases (n == j.number) (has_number n (told_before j)) there)

    -- it is a premise, and the others stand before it
    meets-itself : (key : Key) → is_to_meet is_predicate options (Lookup r.registered) j key ≡ true → has_number j.number (premises key) ≡ true
    meets-itself key meets =
        (and_parts (has_number j.number (premises key)) (list_all (λ n. (n == j.number) || has_number n (told_before j)) (premises key)) meets).0

    meets-earlier :
        (key : Key) → is_to_meet is_predicate options (Lookup r.registered) j key ≡ true
        → list_all (λ n. (n == j.number) || has_number n (front j.number r.positions)) (premises key) ≡ true
    meets-earlier key meets =
        all-weaker (λ n. (n == j.number) || has_number n (told_before j)) (λ n. (n == j.number) || has_number n (front j.number r.positions))
        stands-before (premises key)
        (and_parts (has_number j.number (premises key)) (list_all (λ n. (n == j.number) || has_number n (told_before j)) (premises key)) meets).1

    met-by : (key : Key) → is_to_meet is_predicate options (Lookup r.registered) j key ≡ true → IsMet r.positions (r.active ++ j.number ∷ []) key
    met-by key meets = record {
      last = j.number;
      done = has-right j.number r.active (j.number ∷ []) (has-first j.number []);
      placed = tells.0;
      is_premise = meets-itself key meets;
      earlier = meets-earlier key meets;
    }

    -- so none of the keys was counted
    another :
        (key : Key) → is_to_meet is_predicate options (Lookup r.registered) j key ≡ true → IsInferred is_predicate the_mode r.registered key
        → (k : Key) → Accounts is_predicate the_mode r k → k ≡ key → ⊥
    another key meets inferred k is same =
        ⊎_elim
        (λ (met : IsMet r.positions r.active k × IsInferred is_predicate the_mode r.registered k). both-last (subst (IsMet r.positions r.active) same met.0))
        (λ (died : (n : ℕ) × (k ≡ Replaced n) × (has_died r.deaths n ≡ true)).
        no-replaced is_predicate the_mode options r.registered died.0 key inferred (sym same ∙ died.1))
        is
      where
        both-last : IsMet r.positions r.active key → ⊥
        both-last met =
            let apart : (met.last ≡ j.number) → ⊥ = λ e. true≢false (sym met.done ∙ ap (λ n. has_number n r.active) e ∙ idle) in
            let mine = number-passes (λ n. (n == met.last) || has_number n (front met.last r.positions)) j.number (premises key) (meets-itself key meets) met.earlier in
            let other = number-passes (λ n. (n == j.number) || has_number n (front j.number r.positions)) met.last (premises key) met.is_premise (meets-earlier key meets) in
            ⊎_elim (λ (same : (j.number == met.last) ≡ true). apart (sym (eqb-true j.number met.last same)))
            (λ (before : has_number j.number (front met.last r.positions) ≡ true).
            ⊎_elim (λ (same : (met.last == j.number) ≡ true). apart (eqb-true met.last j.number same))
            (λ (after : has_number met.last (front j.number r.positions) ≡ true). never-both met.last j.number r.positions after before)
            (or_cases (met.last == j.number) (has_number met.last (front j.number r.positions)) other))
            (or_cases (j.number == met.last) (has_number j.number (front met.last r.positions)) mine)

    -- the keys of entries
    entry-keys :
        (entries : List Entry)
        → list_all (is_to_meet is_predicate options (Lookup r.registered) j) (keys_of entries) ≡ true
        → AllByRecursion (λ (e : Entry). IsRightFate is_predicate options (Lookup r.registered) j e.key e.fate) entries
        → AllByRecursion (λ (key : Key). (is_to_meet is_predicate options (Lookup r.registered) j key ≡ true) × IsInferred is_predicate the_mode r.registered key) (keys_of entries)
    entry-keys [] meet right = tt
    entry-keys (e ∷ es) meet right =
        let parts = and_parts (is_to_meet is_predicate options (Lookup r.registered) j e.key) (list_all (is_to_meet is_predicate options (Lookup r.registered) j) (keys_of es)) meet in
        ((parts.0, fate-inferred r.registered j e.key e.fate right.0), entry-keys es parts.1 right.1)

  abbrev without : ℕ → PoolRecord → PoolRecord
  without job r = record r { given = without_job job r.given }

  abbrev Tally : PoolRecord → Type 0
  Tally r = Tallied is_predicate the_mode r

  active-longer : (n : ℕ) (r : PoolRecord) → Longer is_predicate the_mode r (becomes_active n r)
  active-longer n r = record {
    clauses = ([], sym (append-nil r.registered));
    places = ([], sym (append-nil r.positions));
    active = (n ∷ [], refl);
    deaths = ([], sym (append-nil r.deaths));
  }

  entries-new :
      (job : ℕ) (j : GivenJob) (entries : List Entry) (removals : List Removal) (r : PoolRecord)
      → has_number j.number r.active ≡ false → TellsBefore r.positions j → IsRightWork is_predicate options (clauses_of r) j (Met entries removals)
      → Tally r → AreNew is_predicate the_mode (sets_aside entries (becomes_active j.number (without job r))) (keys_of entries)
  entries-new job j entries removals r idle tells right tallied =
      let s : PoolRecord = becomes_active j.number (without job r) in
      let keys =
      entry-keys r j idle tells entries right.keys_met
      (recursion_from_All (λ (e : Entry). IsRightFate is_predicate options (clauses_of r) j e.key e.fate) entries right.right_entries) in
      record {
        differ = right.keys_differ;
        across =
            All-weaker (Accounts is_predicate the_mode r) (λ k. All (λ l. k ≢ l) (keys_of entries))
            (λ k is.
            All-from_recursion (λ l. k ≢ l) (keys_of entries)
            (each-weaker (λ l. (is_to_meet is_predicate options (clauses_of r) j l ≡ true) × IsInferred is_predicate the_mode r.registered l) (λ l. k ≢ l)
            (λ l h. another r j idle tells l h.0 h.1 k is) (keys_of entries) keys))
            r.counted tallied.accounted;
        accounted =
            All-from_recursion (Accounts is_predicate the_mode s) (keys_of entries)
            (each-weaker (λ l. (is_to_meet is_predicate options (clauses_of r) j l ≡ true) × IsInferred is_predicate the_mode r.registered l) (Accounts is_predicate the_mode s)
            (λ l h. inl (met-by r j idle tells l h.0, h.1)) (keys_of entries) keys);
      }

  worked-tallied :
      (job : ℕ) (j : GivenJob) (work : Work) (r : PoolRecord)
      → has_number j.number r.active ≡ false → TellsBefore r.positions j → lives r j.number ≡ true → IsRightWork is_predicate options (clauses_of r) j work
      → Tally r → Tally (worked options j.number work (without job r))
  worked-tallied job j (Gone m) r idle tells alive right tallied =
      removed-tallied is_predicate the_mode options m (without job r) (ap (lives r) right.victim ∙ alive) tallied
  worked-tallied job j (Met entries removals) r idle tells alive right tallied =
      let s : PoolRecord = sets_aside entries (becomes_active j.number (without job r)) in
      let begun : Tally (becomes_active j.number (without job r)) =
      tallied-longer is_predicate the_mode (without job r) (becomes_active j.number (without job r)) (active-longer j.number (without job r)) refl tallied in
      all-proposed-tallied is_predicate the_mode options removals (counts options (keys_of entries) (lines_of_entries entries) s)
      (counts-tallied is_predicate the_mode options (keys_of entries) (lines_of_entries entries) s (entries-new job j entries removals r idle tells right tallied) begun)

  returned-tallied :
      (batch : Batch) (o : Option GivenJob) (j : GivenJob) (r : PoolRecord)
      → o ≡ Some j → has_number j.number r.active ≡ false → TellsBefore r.positions j → lives r j.number ≡ true
      → IsRightWork is_predicate options (clauses_of r) j batch.work → Tally r → Tally (returns_to options batch o r)
  returned-tallied batch o j r out idle tells alive right tallied =
      subst (λ p. Tally (returns_to options batch p r)) (sym out)
      (by-if Tally (is_none r.ended) (worked options j.number batch.work (without batch.job r)) (becomes_active j.number (without batch.job r))
      (worked-tallied batch.job j batch.work r idle tells alive right tallied)
      (tallied-longer is_predicate the_mode (without batch.job r) (becomes_active j.number (without batch.job r)) (active-longer j.number (without batch.job r)) refl tallied))

  -- ---- what jobs are told, through events

  abbrev Tells : PoolRecord → Type 0
  Tells r = AllByRecursion (TellsBefore r.positions) r.given

  grown-tells : (r s : PoolRecord) → Grows r s → Tells r → Tells s
  grown-tells r s grown tells =
      subst (λ ps. AllByRecursion (TellsBefore ps) s.given) (sym grown.positions) (subst (AllByRecursion (TellsBefore r.positions)) (sym grown.given) tells)

  without-tells : (job : ℕ) (r : PoolRecord) → Tells r → Tells (without job r)
  without-tells job r tells = all-filter (TellsBefore r.positions) (λ (j : GivenJob). not (j.job == job)) r.given tells

  worked-tells : (job n : ℕ) (work : Work) (r : PoolRecord) → Tells r → Tells (worked options n work (without job r))
  worked-tells job n (Gone m) r tells =
      grown-tells (without job r) (removed options m (without job r)) (removed-grows options m (without job r)) (without-tells job r tells)
  worked-tells job n (Met entries removals) r tells =
      grown-tells (becomes_active n (without job r)) (worked options n (Met entries removals) (without job r)) (met-grows options n entries removals (without job r))
      (without-tells job r tells)

  returned-tells : (batch : Batch) (o : Option GivenJob) (r : PoolRecord) → Tells r → Tells (returns_to options batch o r)
  returned-tells batch None r tells = tells
  returned-tells batch (Some j) r tells =
      by-if Tells (is_none r.ended) (worked options j.number batch.work (without batch.job r)) (becomes_active j.number (without batch.job r))
      (worked-tells batch.job j.number batch.work r tells) (without-tells batch.job r tells)

  claimed-tells : (job n : ℕ) (r : PoolRecord) (ps : List ℕ) → lives r n ≡ true → has_number n ps ≡ true → AllByRecursion (TellsBefore ps) r.given
      → AllByRecursion (TellsBefore ps) (r.given ++ new_job options job n (record r { positions = ps }) ∷ [])
  claimed-tells job n r ps alive there tells =
      all-end (TellsBefore ps) r.given (new_job options job n (record r { positions = ps })) tells
      (there, tells-now (record r { positions = ps }) n alive, has-kept (lives r) n ps alive there)

  -- a claim
  record ClaimKeeps (job n : ℕ) (r : PoolRecord) (ps : List ℕ) : Type 0 where
    pub tells : AllByRecursion (TellsBefore ps) (r.given ++ new_job options job n (record r { positions = ps }) ∷ [])
    pub tallied : IsTally is_predicate the_mode r.registered ps r.active r.deaths r.counted

  claim-keeps : (job n : ℕ) (r : PoolRecord) → next_given r ≡ Some n → Tells r → Tally r → ClaimKeeps job n r (positions_with n r)
  claim-keeps job n r next tells tallied = by (has_number n r.positions) refl
    where
      alive : lives r n ≡ true
      alive = (waiting-parts r n (given-waits r n next).0).alive

      longer : Longer is_predicate the_mode r (record r { positions = r.positions ++ n ∷ [] })
      longer = record {
        clauses = ([], sym (append-nil r.registered));
        places = (n ∷ [], refl);
        active = ([], sym (append-nil r.active));
        deaths = ([], sym (append-nil r.deaths));
      }

      by : (b : Bool) → has_number n r.positions ≡ b → ClaimKeeps job n r (if b then r.positions else r.positions ++ n ∷ [])
      by true there = record { tells = claimed-tells job n r r.positions alive there tells; tallied = tallied }
      by false none = record {
        tells =
            claimed-tells job n r (r.positions ++ n ∷ []) alive (has-right n r.positions (n ∷ []) (has-first n []))
            (each-weaker (TellsBefore r.positions) (TellsBefore (r.positions ++ n ∷ [])) (tells-longer r.positions (n ∷ [])) r.given tells);
        tallied = tallied-longer is_predicate the_mode r (record r { positions = r.positions ++ n ∷ [] }) longer refl tallied;
      }

  -- a job that is told anew
  retold-tells :
      (job : ℕ) (r : PoolRecord) (js : List GivenJob)
      → AllByRecursion (λ (k : GivenJob). (k.job == job) ≡ true → lives r k.number ≡ true) js → AllByRecursion (TellsBefore r.positions) js
      → AllByRecursion (TellsBefore r.positions) (map (λ (j : GivenJob). if j.job == job then retold r j else j) js)
  retold-tells job r [] alive tells = tt
  retold-tells job r (j ∷ js) alive tells = (
    by-test (TellsBefore r.positions) (j.job == job) (retold r j) j (λ is. ((tells.0).0, tells-now r j.number (alive.0 is), has-kept (lives r) j.number r.positions (alive.0 is) (tells.0).0)) (λ other. tells.0),
    retold-tells job r js alive.1 tells.1,
  )

  -- ---- events

  claimed-tallied : (job : ℕ) (o : Option ℕ) (r : PoolRecord) → next_given r ≡ o → Tells r → Tally r → Tally (after options r (Claim job))
  claimed-tallied job None r none tells tallied = subst (λ p. Tally (claimed_by options job p r)) (sym none) tallied
  claimed-tallied job (Some n) r next tells tallied = subst Tally (sym (after-claim options job n r next)) (claim-keeps job n r next tells tallied).tallied

  claimed-told : (job : ℕ) (o : Option ℕ) (r : PoolRecord) → next_given r ≡ o → Tells r → Tally r → Tells (after options r (Claim job))
  claimed-told job None r none tells tallied = subst (λ p. Tells (claimed_by options job p r)) (sym none) tells
  claimed-told job (Some n) r next tells tallied = subst Tells (sym (after-claim options job n r next)) (claim-keeps job n r next tells tallied).tells

  modelled-tallied : (o : Option SolverJob) (truths : List Bool) (r : PoolRecord) → Tally r → Tally (modelled_by o truths r)
  modelled-tallied None truths r tallied = tallied
  modelled-tallied (Some s) truths r tallied = tallied

  refuted-tallied : (o : Option SolverJob) (chains : List log.Chain) (r : PoolRecord) → Tally r → Tally (refuted_by o chains r)
  refuted-tallied None chains r tallied = tallied
  refuted-tallied (Some s) chains r tallied = by-if Tally (is_none r.ended) _ _ tallied tallied

  modelled-tells : (o : Option SolverJob) (truths : List Bool) (r : PoolRecord) → Tells r → Tells (modelled_by o truths r)
  modelled-tells None truths r tells = tells
  modelled-tells (Some s) truths r tells = tells

  refuted-tells : (o : Option SolverJob) (chains : List log.Chain) (r : PoolRecord) → Tells r → Tells (refuted_by o chains r)
  refuted-tells None chains r tells = tells
  refuted-tells (Some s) chains r tells = by-if Tells (is_none r.ended) _ _ tells tells

  -- the numbers of jobs rise, so one job alone has a number
  none-above : (job low high : ℕ) (js : List GivenJob) → job ≤ low → Rising low high js → AllByRecursion (λ (k : GivenJob). (k.job == job) ≡ false) js
  none-above job low high [] below rise = tt
  none-above job low high (j ∷ js) below rise = (
    ne_eqb j.job job (λ e. absurd (omega (arith, e, below, rise.0))),
    none-above job j.job high js (omega (arith, below, rise.0)) rise.1,
  )

  one-job :
      (job low high : ℕ) (js : List GivenJob) (j : GivenJob)
      → Rising low high js → find (λ (k : GivenJob). k.job == job) js ≡ Some j → AllByRecursion (λ (k : GivenJob). (k.job == job) ≡ true → k ≡ j) js
  one-job job low high [] j rise found = tt
  one-job job low high (k ∷ ks) j rise found = by (k.job == job) refl found (one-job job k.job high ks j rise.1)
    where
      by :
          (b : Bool) → (k.job == job) ≡ b → cond b (Some k) (find (λ (i : GivenJob). i.job == job) ks) ≡ Some j
          → (find (λ (i : GivenJob). i.job == job) ks ≡ Some j → AllByRecursion (λ (i : GivenJob). (i.job == job) ≡ true → i ≡ j) ks)
          → ((k.job == job) ≡ true → k ≡ j) × AllByRecursion (λ (i : GivenJob). (i.job == job) ≡ true → i ≡ j) ks
      by true is found rest = (
        λ _. same_Some k j found,
        each-weaker (λ (i : GivenJob). (i.job == job) ≡ false) (λ (i : GivenJob). (i.job == job) ≡ true → i ≡ j)
            (λ i other same. absurd (true≢false (sym same ∙ other))) ks
            (none-above job k.job high ks (let e : k.job ≡ job = eqb-true k.job job is in omega (arith, e)) rise.1),
      )
      by false is found rest = (λ same. absurd (true≢false (sym same ∙ is)), rest found)

  record IsGood (r : PoolRecord) : Type 0 where
    pub tallied : Tally r
    pub tells : Tells r
    pub hands : AreInHand r
    pub rise : Rising 0 r.jobs r.given

  -- what holds of the job that is out
  out-idle : (r : PoolRecord) (job : ℕ) (j : GivenJob) → AreInHand r → given_job r job ≡ Some j → has_number j.number r.active ≡ false
  out-idle r job j hands out = all-found (λ (k : GivenJob). has_number k.number r.active ≡ false) job r.given j hands.idle out

  out-tells : (r : PoolRecord) (job : ℕ) (j : GivenJob) → Tells r → given_job r job ≡ Some j → TellsBefore r.positions j
  out-tells r job j tells out = all-found (TellsBefore r.positions) job r.given j tells out

  after-tallied : (r : PoolRecord) (e : Event) → IsAllowed is_predicate options r e → IsGood r → Tally (after options r e)
  after-tallied r (Claim job) allowed good = claimed-tallied job (next_given r) r refl good.tells good.tallied
  after-tallied r (Return batch) allowed good =
      returned-tallied batch (given_job r batch.job) allowed.given r allowed.out (out-idle r batch.job allowed.given good.hands allowed.out)
      (out-tells r batch.job allowed.given good.tells allowed.out) (allowed.says).0 (allowed.says).2 good.tallied
  after-tallied r (Stale job justifier) allowed good = good.tallied
  after-tallied r (Void job) allowed good = good.tallied
  after-tallied r (ClaimSolve job) allowed good = good.tallied
  after-tallied r (ReturnModel job truths) allowed good = modelled-tallied r.solver truths r good.tallied
  after-tallied r (ReturnRefuted job chains) allowed good = refuted-tallied r.solver chains r good.tallied
  after-tallied r (Abandon job) allowed good = good.tallied

  after-tells : (r : PoolRecord) (e : Event) → IsAllowed is_predicate options r e → IsGood r → Tells (after options r e)
  after-tells r (Claim job) allowed good = claimed-told job (next_given r) r refl good.tells good.tallied
  after-tells r (Return batch) allowed good = returned-tells batch (given_job r batch.job) r good.tells
  after-tells r (Stale job justifier) allowed good =
      retold-tells job r r.given
      (each-weaker (λ (k : GivenJob). (k.job == job) ≡ true → k ≡ allowed.given) (λ (k : GivenJob). (k.job == job) ≡ true → lives r k.number ≡ true)
      (λ k own is. ap (λ (i : GivenJob). lives r i.number) (own is) ∙ (allowed.says).0) r.given
      (one-job job 0 r.jobs r.given allowed.given good.rise allowed.out)) good.tells
  after-tells r (Void job) allowed good = without-tells job r good.tells
  after-tells r (ClaimSolve job) allowed good = good.tells
  after-tells r (ReturnModel job truths) allowed good = modelled-tells r.solver truths r good.tells
  after-tells r (ReturnRefuted job chains) allowed good = refuted-tells r.solver chains r good.tells
  after-tells r (Abandon job) allowed good = without-tells job r good.tells

  history-good : (es : List Event) (r : PoolRecord) → IsLawfulFrom is_predicate options r es → IsGood r → IsGood (fold (after options) r es)
  history-good [] r lawful good = good
  history-good (e ∷ es) r lawful good =
      history-good es (after options r e) lawful.1
      (record {
        tallied = after-tallied r e lawful.0 good;
        tells = after-tells r e lawful.0 good;
        hands = after-in-hand is_predicate options r e lawful.0 good.hands;
        rise = (event-moves is_predicate options r e lawful.0).rising good.rise;
      })

-- ---- the law

module _ (is_predicate : ℕ → Bool) (origin : Origin) where
  start-good : IsGood is_predicate origin.options (start origin)
  start-good =
      let mode : SelectionMode = mode_of origin.options.select in
      let registers = inputs-register origin.options.split 0 origin.inputs nothing_registered in
      let begun = registers-grows nothing_registered (start origin) registers in
      record {
        tallied =
            tallied-registers is_predicate mode nothing_registered (start origin) registers
            (record { differ = λ i j d before within. absurd (omega (arith, within)); accounted = All-nil (Accounts is_predicate mode nothing_registered) });
        tells = subst (AllByRecursion (TellsBefore (start origin).positions)) (sym begun.given) tt;
        hands = same-in-hand nothing_registered (start origin) begun.given begun.active (omega arith) (record { apart = tt; idle = tt; known = tt });
        rise = subst (λ k. Rising 0 k (start origin).given) (sym begun.jobs) (subst (λ js. Rising 0 0 js) (sym begun.given) (omega arith));
      }

  counted-is : (r : PoolRecord) (key : Key) → Accounts is_predicate (mode_of origin.options.select) r key → IsCounted is_predicate origin.options r key
  counted-is r key is =
      ⊎_elim
      (λ (met : IsMet r.positions r.active key × IsInferred is_predicate (mode_of origin.options.select) r.registered key). inl met.1)
      (λ (died : (n : ℕ) × (key ≡ Replaced n) × (has_died r.deaths n ≡ true)). inr died) is

pub counted_once : CountedOnce
counted_once is_predicate origin history lawful =
    let good = history-good is_predicate origin.options history (start origin) lawful (start-good is_predicate origin) in
    let r : PoolRecord = replay origin history in
    (good.tallied.differ, All-weaker (Accounts is_predicate (mode_of origin.options.select) r) (IsCounted is_predicate origin.options r) (counted-is is_predicate origin r) r.counted good.tallied.accounted)

pub given_are_told : GivenAreTold
given_are_told is_predicate origin history lawful =
    all (replay origin history).given (history-good is_predicate origin.options history (start origin) lawful (start-good is_predicate origin)).tells
  where
    all : (js : List GivenJob) → AllByRecursion (TellsBefore (replay origin history).positions) js → list_all (λ (j : GivenJob). has_number j.number j.told) js ≡ true
    all [] tells = refl
    all (j ∷ js) tells = and_from (has_number j.number j.told) (list_all (λ (k : GivenJob). has_number k.number k.told) js) (tells.0).2 (all js tells.1)
