-- A pool after a claim.
use Rattle.std.proofs.Common.{◌≡◌, ℕ, suc, ◌+◌, ◌-◌, ◌%◌, ◌<◌, ◌≤◌, Bool, true, false, not, ◌&&◌, ◌||◌, ◌==◌, List, [], ◌∷◌, ◌++◌, map, length, append-nil, refl, ap, ap₂, sym, ◌∙◌, subst, ⊎_elim, arith}
use Rattle.std.specs.Prelude.{Option, None, Some, cond, if◌then◌else◌, position, slice_get, is_some, option_map, unwrap_or, vec_len, vec_capacity, All, IsFalse}
use Rattle.std.specs.List.{position_or_len}
use Rattle.std.specs.Ordering.{nat_cmp}
use Rattle.std.specs.BTreeMap.{insert_entry}
use Rattle.std.proofs.Math.ListN.{set}
use Rattle.std.proofs.Math.Seq.{map-set_same}
use Rattle.std.proofs.lemmas.Bool.{and_from, eq-eqb, ne_eqb, eqb-false, cond-true, cond-false, or_left, or_right}
use Rattle.std.proofs.lemmas.List.{length-append, map-append}
use Rattle.std.proofs.lemmas.List.Elements.{All-set, All-push, All-weaker}
use Rattle.std.proofs.lemmas.List.Folds.{list_any-append, position_or_len_push}
use Rattle.std.proofs.lemmas.Option.{none-some, get_or_from_slice_get, slice_get_within}
use Rattle.kernel_steps.specs.Conclusion.{empty_clause}
use Rattle.kernel_steps.specs.Split.{has_number}
use Rattle.term_bank.specs.declared.table.Table.{Table}
use Rattle.bank_clause.specs.Clause.{clause_at}
use Rattle.clause_queue.specs.Pairs.{without}
use Rattle.pool_core.specs.Splits.{SplitView, AreSplitsOf, split_view}
use Rattle.pool_core.specs.CountedList.{keys_in}
use Rattle.pool_history.specs.Record.{PoolRecord, Registered, GivenJob, clauses_of, clause_numbered, position_of, given_job, jobs_out}
use Rattle.pool_history.specs.Claiming.{next_given, can_give, new_job}
use Rattle.pool_history.specs.Replay.{Origin, after, replay}
use Rattle.pool_history.specs.News.{TreeChange, changes_between, news_since, first_told}
use Rattle.pool_core.specs.Noted.{IsNoted, IsNextTicket, clause_in, change_at}
use Rattle.pool_history.specs.Answers.{IsTicket}
use Rattle.pool_history.specs.Lawful.{IsAllowed}
use Rattle.pool_history.specs.Solving.{must_solve}
use Rattle.pool_history.specs.Outcomes.{outcome_of, outcome_by, heavy_or_saturated, is_of_living}
use Rattle.pool_core.specs.KeptEvents.{events_of}
use Rattle.clause_register.specs.Register.{at_position}
use Rattle.pool_core.specs.Started.{registered_at, IsOfTable}
use Rattle.pool_core.specs.State.{origin_of, IsRegistration, AreOfRegistered, IsStateOf, IsPool, job_entry, solver_job}
use Rattle.pool_history.specs.declared.options.Options.{Options}
use Rattle.pool_history.specs.declared.outcome.Outcome.{Outcome}
use Rattle.pool_history.specs.declared.event.Event.{Event}
use Rattle.pool_history.specs.declared.event.Event.TheVariants.{Claim}
use Rattle.pool_core.specs.declared.pool.OutJob.{OutJob}
use Rattle.pool_core.specs.declared.pool.Note.{Note}
use Rattle.pool_core.specs.declared.pool.Note.TheVariants.{Activated}
use Rattle.pool_core.specs.declared.pool.Pool.TheInside.{Inside}
use Rattle.clause_register.specs.declared.register.Registration.{Registration}
use Rattle.pool_history.specs.declared.ticket.Ticket.{Ticket}
use Rattle.pool_history.proofs.AboutRecords.EditLemmas.{at-set, insert-last}
use Rattle.pool_history.proofs.AboutRecords.FrameLemmas.{by-if}
use Rattle.pool_history.proofs.AboutClaims.HistoryLemmas.{event-count, replay-end, news-end}
use Rattle.pool_history.proofs.AboutBounds.JobLemmas.{Rising}
use Rattle.pool_history.proofs.AboutRecords.ItemLemmas.{all-at, clause-numbered}
use Rattle.clause_register.proofs.PlaceLemmas.{found-place, position-end-new, position-end-old}
use Rattle.pool_core.proofs.AboutClaims.StateLemmas.{rising-by, clause-in, record_of, pool-rises, one-more-event, clause-there, registered-count, given-count, long-register, solver-few}
use Rattle.pool_history.proofs.AboutClaims.ClaimedRecords.{absent-place, absent-position, after-claim, changes-claimed, claim_after, find-last, given-waits, has-no-position, has-position, positions_with, present-place, ready-claimed, told-first}

-- ---- the pool after a claim

next-place : (c p : ℕ) → p ≡ c % 6 → (p + 1) % 6 ≡ (c + 1) % 6
next-place c p is = omega (arith, is)

-- what is told then is of registered clauses
told-of-claimed :
    (options : Options) (job n : ℕ) (ps : List ℕ) (r : PoolRecord)
    → next_given r ≡ Some n → ps ≡ positions_with n r → AreOfRegistered r → AreOfRegistered (claim_after options job n r ps)
told-of-claimed options job n ps r next are told =
    subst (λ qs. AreOfRegistered (claim_after options job n r qs)) (sym are)
    (record {
      positions = by-if (All (λ k. k < length r.registered)) (has_number n r.positions) r.positions (r.positions ++ n ∷ []) told.positions
          (All-push (λ k. k < length r.registered) r.positions n told.positions below);
      active = told.active;
      given = All-push (λ (j : GivenJob). j.number < length r.registered) r.given job_on told.given below;
      placed = All-push (λ (j : GivenJob). has_number j.number (positions_with n r) ≡ true) r.given job_on
          (All-weaker (λ (j : GivenJob). has_number j.number r.positions ≡ true) (λ (j : GivenJob). has_number j.number (positions_with n r) ≡ true)
          (λ j has. by-if (λ qs. has_number j.number qs ≡ true) (has_number n r.positions) r.positions (r.positions ++ n ∷ []) has (still j.number has))
          r.given told.placed)
          (placed-now (has_number n r.positions) refl);
      victims = told.victims;
    })
  where
    job_on : GivenJob
    job_on = new_job options job n (record r { positions = positions_with n r })

    below : n < length r.registered
    below = (given-waits r n next).1

    still : (k : ℕ) → has_number k r.positions ≡ true → has_number k (r.positions ++ n ∷ []) ≡ true
    still k has = list_any-append (λ m. k == m) r.positions (n ∷ []) ∙ ap (λ b. b || has_number k (n ∷ [])) has

    placed-now : (b : Bool) → has_number n r.positions ≡ b → has_number n (if b then r.positions else r.positions ++ n ∷ []) ≡ true
    placed-now true has = has
    placed-now false none =
        list_any-append (λ m. n == m) r.positions (n ∷ []) ∙ or_right (has_number n r.positions) (has_number n (n ∷ []))
        (or_left (n == n) false (eq-eqb n n refl))

claimed-state :
    (a b : Inside) (r : PoolRecord) (n job left : ℕ) (ps : List ℕ)
    → IsStateOf a r → next_given r ≡ Some n → Rising 0 r.jobs r.given → job ≡ suc r.jobs → left ≡ a.options.inferences - length r.counted
    → ps ≡ positions_with n r
    → map registered_at b.proof.register.clauses ≡ map registered_at a.proof.register.clauses
    → All (IsOfTable b.table.bank b.table) b.proof.register.clauses
    → ((k : ℕ) (s : Registration) → slice_get b.proof.register.clauses k ≡ Some s → IsRegistration (claim_after a.options job n r ps) k s)
    → b.positions.items ≡ ps
    → b.proof.queue.pairs ≡ without n a.proof.queue.pairs
    → length b.proof.queue.pairs + b.proof.queue.spare ≡ length a.proof.queue.pairs + a.proof.queue.spare
    → b.jobs.entries ≡ insert_entry nat_cmp a.jobs.entries job (record { number = n; left = left })
    → b.proof.steps.items ≡ a.proof.steps.items → keys_in b.counted ≡ keys_in a.counted → b.set_aside.items ≡ a.set_aside.items
    → b.proof.ended ≡ a.proof.ended → split_view b.proof.splits ≡ split_view a.proof.splits
    → b.proof.asserting.entries ≡ a.proof.asserting.entries → b.solver ≡ a.solver
    → b.last_job ≡ job → b.place_in_round ≡ (a.place_in_round + 1) % 6
    → vec_len b.history.events + (length r.given + 2) ≤ vec_capacity b.history.events
    → vec_len b.notes_before + (length r.given + 2) ≤ vec_capacity b.notes_before
    → IsStateOf b (claim_after a.options job n r ps)
claimed-state a b r n job left ps is next rise number remaining are register of_table registrations positions queue nodes jobs steps counted set_aside ended splits asserting solver last_job place events_room before_room = record {
  proof = record {
    registered = register ∙ is.proof.registered;
    of_table = of_table;
    registrations = registrations;
    queue = queue ∙ ap (without n) is.proof.queue ∙ sym (ready-claimed a.options job n r ps);
    steps = steps ∙ is.proof.steps;
    ended = ended ∙ is.proof.ended;
    splits = subst (λ (v : SplitView). AreSplitsOf v r.parts r.lines r.propositional r.model r.modelled) (sym splits) is.proof.splits;
    tags = is.proof.tags;
    asserting = asserting ∙ is.proof.asserting;
    of_registered = told-of-claimed a.options job n ps r next are is.proof.of_registered;
    no_empty = is.proof.no_empty;
  };
  positions = positions;
  jobs =
      jobs
      ∙ ap₂ (λ (es : List (ℕ × OutJob)) (k : ℕ). insert_entry nat_cmp es job (record { number = n; left = k })) is.jobs remaining
      ∙ insert-last (λ (j : GivenJob). j.job) (λ (j : GivenJob). let o : OutJob = record { number = j.number; left = j.left } in o) 0 r.jobs job
      (record { number = n; left = a.options.inferences - length r.counted }) r.given (rising-by 0 r.jobs r.given rise) (omega (arith, number))
      ∙ sym (map-append job_entry r.given (new_job a.options job n (record r { positions = ps }) ∷ []));
  counted = counted ∙ is.counted;
  set_aside = set_aside ∙ is.set_aside;
  last_job = last_job;
  place = place ∙ next-place r.claims a.place_in_round is.place;
  solver = ap (option_map solver_job) solver ∙ is.solver;
  queue_room =
      let room = is.queue_room in let same = long-register a.proof.register.clauses b.proof.register.clauses register in
      omega (arith, room, same, nodes);
  history_room = let more = one-longer in let few = solver-few r.solver in omega (arith, more, few, events_room);
  notes_room = let more = one-longer in let few = solver-few r.solver in omega (arith, more, few, before_room);
}
  where
    one-longer : length (r.given ++ new_job a.options job n (record r { positions = ps }) ∷ []) ≡ length r.given + 1
    one-longer = length-append r.given (new_job a.options job n (record r { positions = ps }) ∷ [])

-- the fields that a claim changes by the position of its clause
pub record IsActivated (a b : Inside) (n position : ℕ) (s : Registration) : Type 0 where
  pub register : b.proof.register.clauses ≡ (if position == length a.positions.items then set a.proof.register.clauses n (at_position position s) else a.proof.register.clauses)
  pub positions : b.positions.items ≡ (if position == length a.positions.items then a.positions.items ++ n ∷ [] else a.positions.items)
  pub notes : b.proof.notes.items ≡ (if position == length a.positions.items then a.proof.notes.items ++ Activated n ∷ [] else a.proof.notes.items)

-- the fields that it changes in any case, and those that it keeps
pub record IsGivenOutBy (a b : Inside) (n job left : ℕ) : Type 0 where
  pub origin : origin_of b ≡ origin_of a
  pub table : b.table ≡ a.table
  pub queue : b.proof.queue.pairs ≡ without n a.proof.queue.pairs
  pub nodes : length b.proof.queue.pairs + b.proof.queue.spare ≡ length a.proof.queue.pairs + a.proof.queue.spare
  pub jobs : b.jobs.entries ≡ insert_entry nat_cmp a.jobs.entries job (record { number = n; left = left })
  pub history : events_of b.history ≡ events_of a.history ++ Claim job ∷ []
  pub history_room : vec_len b.history.events + (length a.jobs.entries + 2) ≤ vec_capacity b.history.events
  pub before : b.notes_before.items ≡ a.notes_before.items ++ length a.proof.notes.items ∷ []
  pub before_room : vec_len b.notes_before + (length a.jobs.entries + 2) ≤ vec_capacity b.notes_before
  pub steps : b.proof.steps.items ≡ a.proof.steps.items
  pub counted : keys_in b.counted ≡ keys_in a.counted
  pub set_aside : b.set_aside.items ≡ a.set_aside.items
  pub ended : b.proof.ended ≡ a.proof.ended
  pub splits : split_view b.proof.splits ≡ split_view a.proof.splits
  pub asserting : b.proof.asserting.entries ≡ a.proof.asserting.entries
  pub solver : b.solver ≡ a.solver
  pub last_job : b.last_job ≡ job
  pub place : b.place_in_round ≡ (a.place_in_round + 1) % 6

pub claimed-pool :
    (a b : Inside) (n job left position : ℕ) (s : Registration)
    → IsPool a → (record_of a).ended ≡ None → IsFalse (must_solve (record_of a)) → next_given (record_of a) ≡ Some n
    → slice_get a.proof.register.clauses n ≡ Some s
    → job ≡ suc (record_of a).jobs → left ≡ a.options.inferences - length (record_of a).counted → position ≡ position_of (record_of a) n
    → IsActivated a b n position s → IsGivenOutBy a b n job left
    → IsPool b
claimed-pool a b n job left place s is open_yet solved next there number remaining position activation given =
    by (has_number n r.positions) refl
  where
    r : PoolRecord
    r = record_of a

    st : IsStateOf a r
    st = is.state

    allowed : (is_predicate : ℕ → Bool) → IsAllowed is_predicate a.options r (Claim job)
    allowed is_predicate = ((number, open_yet), solved, ap (λ (o : Option ℕ). is_some o) next)

    at-length : has_number n r.positions ≡ false → (place == length a.positions.items) ≡ true
    at-length none = eq-eqb place (length a.positions.items) (position ∙ absent-place n r.positions none ∙ ap length (sym st.positions))

    below-length : has_number n r.positions ≡ true → (place == length a.positions.items) ≡ false
    below-length some =
        ne_eqb place (length a.positions.items) (λ e.
        absurd (let below = present-place n r.positions some in let same = ap length st.positions in omega (arith, below, e, position, same)))

    -- with these positions
    whole :
        (ps : List ℕ) (new : List Note)
        → positions_with n r ≡ ps → b.positions.items ≡ ps
        → map registered_at b.proof.register.clauses ≡ map registered_at a.proof.register.clauses
        → All (IsOfTable a.table.bank a.table) b.proof.register.clauses
        → ((k : ℕ) (z : Registration) → slice_get b.proof.register.clauses k ≡ Some z → IsRegistration (claim_after a.options job n r ps) k z)
        → b.proof.notes.items ≡ a.proof.notes.items ++ new
        → map (change_at a.proof.register.clauses) new ≡ changes_between r (claim_after a.options job n r ps)
        → All (IsNoted (length a.proof.register.clauses)) b.proof.notes.items
        → IsPool b
    whole ps new are positions register of_table registrations noted told within =
        let is_after : after a.options r (Claim job) ≡ claim_after a.options job n r ps =
        after-claim a.options job n r next ∙ ap (claim_after a.options job n r) are in
        one-more-event a b (Claim job) new is given.origin given.history allowed
        (subst (IsStateOf b) (sym is_after)
        (claimed-state a b r n job left ps st next (pool-rises a is) number remaining (sym are) register
        (subst (λ (t : Table). All (IsOfTable t.bank t) b.proof.register.clauses) (sym given.table) of_table)
        registrations positions given.queue given.nodes given.jobs given.steps given.counted given.set_aside given.ended given.splits given.asserting given.solver given.last_job given.place
        (let many = given-count a r st in let room = given.history_room in omega (arith, many, room))
        (let many = given-count a r st in let room = given.before_room in omega (arith, many, room))))
        register noted (told ∙ ap (changes_between r) (sym is_after)) within given.before

    again : (b : Bool) {X : Type 0} (x y z : X) → b ≡ false → z ≡ (if b then x else y) → z ≡ y
    again b x y z is e = e ∙ cond-false b x y is

    first : (b : Bool) {X : Type 0} (x y z : X) → b ≡ true → z ≡ (if b then x else y) → z ≡ x
    first b x y z is e = e ∙ cond-true b x y is

    by : (known : Bool) → has_number n r.positions ≡ known → IsPool b
    by true some =
        let no = below-length some in
        let same : b.proof.register.clauses ≡ a.proof.register.clauses = again _ _ _ _ no activation.register in
        whole r.positions [] (cond-true (has_number n r.positions) r.positions (r.positions ++ n ∷ []) some)
        (again _ _ _ _ no activation.positions ∙ st.positions)
        (ap (map registered_at) same)
        (subst (All (IsOfTable a.table.bank a.table)) (sym same) st.proof.of_table)
        (λ k z at.
        let was = st.proof.registrations k z (ap (λ ss. slice_get ss k) (sym same) ∙ at) in
        record { position = was.position; death = was.death; active = was.active })
        (again _ _ _ _ no activation.notes ∙ sym (append-nil a.proof.notes.items))
        (sym (changes-claimed a.options job n r []) ∙ ap (λ ps. changes_between r (claim_after a.options job n r ps)) (append-nil r.positions))
        (subst (All (IsNoted (length a.proof.register.clauses))) (sym (again _ _ _ _ no activation.notes)) is.news.noted)
    by false none =
        let yes = at-length none in
        let at_place = at_position place s in
        let changed : b.proof.register.clauses ≡ set a.proof.register.clauses n at_place = first _ _ _ _ yes activation.register in
        let last : place ≡ length r.positions = position ∙ absent-place n r.positions none in
        whole (r.positions ++ n ∷ []) (Activated n ∷ []) (cond-false (has_number n r.positions) r.positions (r.positions ++ n ∷ []) none)
        (first _ _ _ _ yes activation.positions ∙ ap (λ ps. ps ++ n ∷ []) st.positions)
        (ap (map registered_at) changed
        ∙ map-set_same registered_at a.proof.register.clauses n at_place s (ap registered_at (sym (get_or_from_slice_get a.proof.register.clauses n s s there))))
        (subst (All (IsOfTable a.table.bank a.table)) (sym changed)
        (All-set (IsOfTable a.table.bank a.table) a.proof.register.clauses n at_place
        (let was = all-at (IsOfTable a.table.bank a.table) a.proof.register.clauses n s st.proof.of_table there in record { of_bank = was.of_bank; known = was.known }) st.proof.of_table))
        (λ k z at. ⊎_elim
        (λ (here : (k ≡ n) × (at_place ≡ z)).
        let was = st.proof.registrations n s there in
        subst (IsRegistration (claim_after a.options job n r (r.positions ++ n ∷ [])) k) here.1
        (subst (λ m. IsRegistration (claim_after a.options job n r (r.positions ++ n ∷ [])) m at_place) (sym here.0)
        (record {
          position = ap Some last ∙ sym (position-end-new (λ m. n == m) r.positions n (absent-position n r.positions none) (eq-eqb n n refl));
          death = was.death;
          active = was.active;
        })))
        (λ (there_too : (k ≡ n → ⊥) × (slice_get a.proof.register.clauses k ≡ Some z)).
        let was = st.proof.registrations k z there_too.1 in
        record {
          position = was.position ∙ sym (position-end-old (λ m. k == m) r.positions n (ne_eqb k n there_too.0));
          death = was.death;
          active = was.active;
        })
        (at-set a.proof.register.clauses n at_place k z (ap (λ ss. slice_get ss k) (sym changed) ∙ at)))
        (first _ _ _ _ yes activation.notes)
        (ap (λ c. TreeChange.activated n c ∷ []) (clause-in-state)
        ∙ sym (changes-claimed a.options job n r (n ∷ [])))
        (subst (All (IsNoted (length a.proof.register.clauses))) (sym (first _ _ _ _ yes activation.notes))
        (All-push (IsNoted (length a.proof.register.clauses)) a.proof.notes.items (Activated n) is.news.noted (slice_get_within a.proof.register.clauses n s there)))
      where
        clause-in-state : clause_in a.proof.register.clauses n ≡ clause_numbered r n
        clause-in-state =
            clause-in a.proof.register.clauses n ∙ ap (λ xs. unwrap_or (option_map (λ (c : Registered). c.clause) (slice_get xs n)) empty_clause) st.proof.registered

-- ---- the ticket

position-kept : (r : PoolRecord) (n : ℕ) → position_or_len (λ m. n == m) (positions_with n r) ≡ position_of r n
position-kept r n = by (has_number n r.positions) refl
  where
    more : (k : ℕ) → k + 0 ≡ k
    more k = omega arith

    by : (b : Bool) → has_number n r.positions ≡ b → position_or_len (λ m. n == m) (if b then r.positions else r.positions ++ n ∷ []) ≡ position_of r n
    by true some = refl
    by false none =
        position_or_len_push (λ m. n == m) r.positions n
        ∙ cond-true (position_of r n == length r.positions) _ _ (eq-eqb (position_of r n) (length r.positions) (absent-place n r.positions none))
        ∙ ap (λ b. length r.positions + cond b 0 1) (eq-eqb n n refl)
        ∙ more (length r.positions)
        ∙ sym (absent-place n r.positions none)

pub claimed-ticket :
    (origin : Origin) (h : List Event) (told n : ℕ) (ticket : Ticket)
    → Rising 0 (replay origin h).jobs (replay origin h).given → next_given (replay origin h) ≡ Some n → told ≤ length h
    → IsNextTicket origin h told n ticket → IsTicket origin (h ++ Claim ticket.job ∷ []) told ticket
claimed-ticket origin h told n ticket rise next within is = record {
  job = j;
  out =
      ap (λ (s : PoolRecord). given_job s ticket.job) afterwards
      ∙ find-last 0 r.jobs r.given j rise (let e : ticket.job ≡ suc r.jobs = is.job in omega (arith, e));
  number = is.same;
  position = is.position ∙ sym (position-kept r n) ∙ sym (ap (λ (s : PoolRecord). position_of s n) afterwards);
  clause = ap (λ (s : PoolRecord). clauses_of s n) afterwards ∙ is.clause;
  news =
      is.news
      ∙ ap (λ cs. news_since origin h told ++ cs)
      (sym (ap (changes_between r) (after-claim origin.options ticket.job n r next) ∙ told-first origin.options ticket.job n r))
      ∙ sym (news-end origin h (Claim ticket.job) told within);
  left = is.left;
  as_of = (
    is.as_of ∙ ap (λ k. k + 1) (sym (event-count origin h)),
    is.as_of ∙ sym (length-append h (Claim ticket.job ∷ [])),
  );
}
  where
    r : PoolRecord
    r = replay origin h

    j : GivenJob
    j = new_job origin.options ticket.job n (record r { positions = positions_with n r })

    afterwards : replay origin (h ++ Claim ticket.job ∷ []) ≡ claim_after origin.options ticket.job n r (positions_with n r)
    afterwards = replay-end origin h (Claim ticket.job) ∙ after-claim origin.options ticket.job n r next

-- ---- no other answer

-- where no outcome stands, the pool isn't ended
pub open-without : (r : PoolRecord) → outcome_of r ≡ None → r.ended ≡ None
open-without r none = by r.ended none
  where
    by : (o : Option Outcome) → outcome_by o r ≡ None → o ≡ None
    by None h = refl
    by (Some o) h = h

-- and where nothing is given then, a job is out
pub some-out : (r : PoolRecord) → outcome_of r ≡ None → must_solve r ≡ false → next_given r ≡ None → 0 < jobs_out r
some-out r none solved nothing = by (jobs_out r == 0) refl
  where
    by : (b : Bool) → (jobs_out r == 0) ≡ b → 0 < jobs_out r
    by true is =
        absurd (none-some (heavy_or_saturated (position (is_of_living r) r.set_aside))
        (sym none
        ∙ ap (λ o. outcome_by o r) (open-without r none)
        ∙ ap (λ b. if b then Some (heavy_or_saturated (position (is_of_living r) r.set_aside)) else None)
        (and_from (not (must_solve r)) (not (can_give r) && (jobs_out r == 0)) (ap not solved)
        (and_from (not (can_give r)) (jobs_out r == 0) (ap (λ (o : Option ℕ). not (is_some o)) nothing) is))))
    by false is = let other : jobs_out r ≡ 0 → ⊥ = eqb-false (jobs_out r) 0 is in omega (arith, other)

-- ---- a clause that is given, by its registration

pub given-registered : (a : Inside) (n : ℕ) → IsPool a → next_given (record_of a) ≡ Some n → n < length a.proof.register.clauses
given-registered a n is next =
    let below = (given-waits (record_of a) n next).1 in
    let same : length (record_of a).registered ≡ length a.proof.register.clauses = registered-count a (record_of a) is.state in
    omega (arith, below, same)

-- it has a position, and nothing is told of it
pub told-before :
    (a : Inside) (r : PoolRecord) (n p : ℕ) (s : Registration)
    → IsStateOf a r → slice_get a.proof.register.clauses n ≡ Some s → s.position ≡ Some p → (first_told r n ≡ []) × (p ≡ position_of r n)
told-before a r n p s is there found =
    let place : position (λ m. n == m) r.positions ≡ Some p = sym (is.proof.registrations n s there).position ∙ found in (
      cond-true (has_number n r.positions) [] (TreeChange.activated n (clause_numbered r n) ∷ []) (has-position n p r.positions place),
      sym (found-place (λ m. n == m) r.positions p place).0,
    )

-- or it gets the next one, and that it is activated is told
pub told-now :
    (a : Inside) (r : PoolRecord) (n : ℕ) (s : Registration)
    → IsStateOf a r → slice_get a.proof.register.clauses n ≡ Some s → s.position ≡ None
    → (first_told r n ≡ TreeChange.activated n (clause_at s.clause) ∷ []) × (length a.positions.items ≡ position_of r n)
told-now a r n s is there none =
    let absent = has-no-position n r.positions (sym (is.proof.registrations n s there).position ∙ none) in (
      cond-false (has_number n r.positions) [] (TreeChange.activated n (clause_numbered r n) ∷ []) absent
          ∙ ap (λ c. TreeChange.activated n c ∷ []) (clause-numbered r n (clause_at s.clause) (clause-there a r n s is there)),
      ap length is.positions ∙ sym (absent-place n r.positions absent),
    )

-- ---- the changed fields

pub activated-by :
    (a b : Inside) (n place : ℕ) (s : Registration) (ps : List ℕ) (notes : List Note)
    → ps ≡ a.positions.items → notes ≡ a.proof.notes.items
    → b.proof.register.clauses ≡ (if place == length ps then set a.proof.register.clauses n (at_position place s) else a.proof.register.clauses)
    → b.positions.items ≡ (if place == length ps then ps ++ n ∷ [] else ps)
    → b.proof.notes.items ≡ (if place == length ps then notes ++ Activated n ∷ [] else notes)
    → IsActivated a b n place s
activated-by a b n place s ps notes same_positions same_notes register positions noted = record {
  register = register ∙ ap (λ (qs : List ℕ). if place == length qs then set a.proof.register.clauses n (at_position place s) else a.proof.register.clauses) same_positions;
  positions = positions ∙ ap (λ (qs : List ℕ). if place == length qs then qs ++ n ∷ [] else qs) same_positions;
  notes =
      noted
      ∙ ap₂ (λ (qs : List ℕ) (xs : List Note). if place == length qs then xs ++ Activated n ∷ [] else xs) same_positions same_notes;
}

-- ---- no value

pub no-value : {X : Type 0} (o : Option X) → ((x : X) → o ≡ Some x → ⊥) → o ≡ None
no-value None none = refl
no-value (Some x) none = absurd (none x refl)
