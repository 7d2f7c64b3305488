-- A pool after a stale return.
use Rattle.std.proofs.Common.{◌≡◌, ℕ, ◌+◌, ◌<◌, ◌≤◌, Bool, true, false, not, ◌&&◌, ◌||◌, ◌==◌, List, [], ◌∷◌, ◌++◌, map, length, append-nil, refl, ap, ap₂, sym, ◌∙◌, subst, arith}
use Rattle.std.specs.Prelude.{Option, Some, cond, find, filter, option_map, vec_len, vec_capacity, All, IsTrue, if◌then◌else◌}
use Rattle.std.specs.List.{list_any}
use Rattle.std.proofs.Math.Seq.{drop-length}
use Rattle.std.proofs.lemmas.List.{length-append, length-map}
use Rattle.std.proofs.lemmas.List.Elements.{All-map, All-weaker}
use Rattle.std.proofs.lemmas.Option.{none-some, same_Some}
use Rattle.fol_base.specs.WellFormed.{SymbolUse}
use Rattle.kernel_steps.specs.Split.{has_number}
use Rattle.term_bank.specs.declared.table.Table.{Table}
use Rattle.pool_core.specs.CountedList.{keys_in}
use Rattle.pool_history.specs.Answers.{IsTicket, dead_justifier}
use Rattle.pool_history.specs.Batches.{IsRightWork}
use Rattle.pool_history.specs.Claiming.{ready, pair_of}
use Rattle.pool_core.specs.KeptEvents.{events_of}
use Rattle.pool_history.specs.Inputs.{IsUseOf, IsRightBatch}
use Rattle.pool_history.specs.Lawful.{IsAllowed, IsGivenOut, IsStale}
use Rattle.pool_history.specs.News.{TreeChange, changes_between, news_since}
use Rattle.pool_core.specs.Noted.{IsNoted, IsTicketAgain, change_at}
use Rattle.pool_history.specs.Record.{PoolRecord, GivenJob, Death, clauses_of, clause_numbered, numbers_of, lives, is_dead, is_awake, position_of, given_job}
use Rattle.pool_history.specs.Replay.{Origin, after, retold, replay}
use Rattle.pool_core.specs.State.{origin_of, HasNodes, IsProofStateOf, IsStateOf, IsPool, job_entry, solver_job}
use Rattle.pool_history.specs.declared.batch.Batch.{Batch}
use Rattle.pool_history.specs.declared.batch.Work.{Work}
use Rattle.pool_history.specs.declared.batch.Work.TheVariants.{Gone, Met}
use Rattle.pool_history.specs.declared.event.Event.{Event}
use Rattle.pool_history.specs.declared.event.Event.TheVariants.{Stale}
use Rattle.pool_core.specs.declared.pool.Pool.TheInside.{Inside}
use Rattle.pool_core.specs.declared.pool.ProofState.{ProofState}
use Rattle.pool_history.specs.declared.ticket.Ticket.{Ticket}
use Rattle.pool_history.proofs.AboutRecords.FrameLemmas.{by-if}
use Rattle.pool_history.proofs.AboutClaims.HistoryLemmas.{event-count, replay-end, news-end}
use Rattle.pool_core.proofs.AboutReturns.ReturnLemmas.{found-one}
use Rattle.pool_core.proofs.AboutClaims.StateLemmas.{record_of, event-added, given-count, solver-few}

-- ---- the jobs that are out

module _ (job : ℕ) (r : PoolRecord) where
  abbrev anew : GivenJob → GivenJob
  anew j = if j.job == job then retold r j else j

  abbrev is_job : GivenJob → Bool
  is_job j = j.job == job

  -- what doesn't tell of the clauses that the job was told
  same-anew : {X : Type 0} (g : GivenJob → X) → ((j : GivenJob) → g (retold r j) ≡ g j) → (j : GivenJob) → g (anew j) ≡ g j
  same-anew g same j = by-if (λ (k : GivenJob). g k ≡ g j) (j.job == job) (retold r j) j (same j) refl

  map-anew : {X : Type 0} (g : GivenJob → X) → ((j : GivenJob) → g (retold r j) ≡ g j) → (js : List GivenJob) → map g (map anew js) ≡ map g js
  map-anew g same [] = refl
  map-anew g same (j ∷ js) = ap₂ (λ x xs. x ∷ xs) (same-anew g same j) (map-anew g same js)

  any-anew : (n : ℕ) (js : List GivenJob) → list_any (λ (j : GivenJob). n == j.number) (map anew js) ≡ list_any (λ (j : GivenJob). n == j.number) js
  any-anew n [] = refl
  any-anew n (j ∷ js) = ap₂ (λ b c. b || c) (same-anew (λ (i : GivenJob). n == i.number) (λ i. refl) j) (any-anew n js)

  all-anew : (P : ℕ → Type 0) (js : List GivenJob) → All (λ (j : GivenJob). P j.number) js → All (λ (j : GivenJob). P j.number) (map anew js)
  all-anew P js all =
      All-map (λ (j : GivenJob). P j.number) anew js
      (All-weaker (λ (j : GivenJob). P j.number) (λ (j : GivenJob). P (anew j).number)
      (λ j holds. subst P (sym (same-anew (λ (i : GivenJob). i.number) (λ i. refl) j)) holds) js all)

  find-anew : (js : List GivenJob) (j : GivenJob) → find is_job js ≡ Some j → find is_job (map anew js) ≡ Some (retold r j)
  find-anew [] j found = absurd (none-some j found)
  find-anew (k ∷ ks) j found = by (k.job == job) refl found (λ later. find-anew ks j later)
    where
      by :
          (b : Bool) → (k.job == job) ≡ b → cond b (Some k) (find is_job ks) ≡ Some j
          → (find is_job ks ≡ Some j → find is_job (map anew ks) ≡ Some (retold r j))
          → cond (is_job (anew k)) (Some (anew k)) (find is_job (map anew ks)) ≡ Some (retold r j)
      by true is here rest =
          ap (λ (i : GivenJob). cond (is_job i) (Some i) (find is_job (map anew ks))) (ap (λ b. if b then retold r k else k) is)
          ∙ ap (λ b. cond b (Some (retold r k)) (find is_job (map anew ks))) is
          ∙ ap (λ (i : GivenJob). let o : Option GivenJob = Some (retold r i) in o) (same_Some k j here)
      by false is later rest =
          ap (λ (i : GivenJob). cond (is_job i) (Some i) (find is_job (map anew ks))) (ap (λ b. if b then retold r k else k) is)
          ∙ ap (λ b. cond b (Some k) (find is_job (map anew ks))) is
          ∙ rest later

-- ---- the pool

-- what a stale return changes
pub record IsTurnedDownBy (a b : Inside) (e : Event) : Type 0 where
  pub origin : origin_of b ≡ origin_of a
  pub table : b.table ≡ a.table
  pub proof : b.proof ≡ a.proof
  pub positions : b.positions.items ≡ a.positions.items
  pub jobs : b.jobs.entries ≡ a.jobs.entries
  pub history : events_of b.history ≡ events_of a.history ++ e ∷ []
  pub history_room : vec_len b.history.events + (length a.jobs.entries + 1) ≤ vec_capacity b.history.events
  pub before : b.notes_before.items ≡ a.notes_before.items ++ length a.proof.notes.items ∷ []
  pub before_room : vec_len b.notes_before + (length a.jobs.entries + 1) ≤ vec_capacity b.notes_before
  pub counted : keys_in b.counted ≡ keys_in a.counted
  pub set_aside : b.set_aside.items ≡ a.set_aside.items
  pub solver : b.solver ≡ a.solver
  pub last_job : b.last_job ≡ a.last_job
  pub place : b.place_in_round ≡ a.place_in_round

module _ (a b : Inside) (job justifier : ℕ) (is : IsPool a) (by : IsTurnedDownBy a b (Stale job justifier)) where
  abbrev was : PoolRecord
  was = record_of a

  abbrev now : PoolRecord
  now = after a.options was (Stale job justifier)

  ready-anew : ready now ≡ ready was
  ready-anew =
      ap (λ (p : ℕ → Bool). filter p (numbers_of was))
      (λ i n. (lives was n && (not (any-anew job was n was.given i) && not (has_number n was.active))) && is_awake was n)

  turned-down-state : IsStateOf b now
  turned-down-state = record {
    proof =
        subst (λ (t : Table). IsProofStateOf t.bank t b.proof now) (sym by.table)
        (subst (λ (s : ProofState). IsProofStateOf a.table.bank a.table s now) (sym by.proof) (record {
          registered = is.state.proof.registered;
          of_table = is.state.proof.of_table;
          registrations = λ n z there.
              let told = is.state.proof.registrations n z there in record { position = told.position; death = told.death; active = told.active };
          queue = is.state.proof.queue ∙ ap (map (pair_of was)) (sym ready-anew);
          steps = is.state.proof.steps;
          ended = is.state.proof.ended;
          splits = is.state.proof.splits;
          tags = is.state.proof.tags;
          asserting = is.state.proof.asserting;
          of_registered = let told = is.state.proof.of_registered in record {
            positions = told.positions;
            active = told.active;
            given = all-anew job was (λ n. n < length was.registered) was.given told.given;
            placed = all-anew job was (λ n. has_number n was.positions ≡ true) was.given told.placed;
            victims = told.victims;
          };
          no_empty = is.state.proof.no_empty;
        }));
    positions = by.positions ∙ is.state.positions;
    jobs = by.jobs ∙ is.state.jobs ∙ sym (map-anew job was job_entry (λ j. refl) was.given);
    counted = by.counted ∙ is.state.counted;
    set_aside = by.set_aside ∙ is.state.set_aside;
    last_job = by.last_job ∙ is.state.last_job;
    place = by.place ∙ is.state.place;
    solver = ap (option_map solver_job) by.solver ∙ is.state.solver;
    queue_room = subst (λ (s : ProofState). HasNodes s 0) (sym by.proof) is.state.queue_room;
    history_room =
        let room = by.history_room in let same = many in let count = given-count a was is.state in let few = solver-few was.solver in
        omega (arith, room, same, count, few);
    notes_room =
        let room = by.before_room in let same = many in let count = given-count a was is.state in let few = solver-few was.solver in
        omega (arith, room, same, count, few);
  }
    where
      many : length (map (anew job was) was.given) ≡ length was.given
      many = length-map was.given (anew job was)

  pub turned-down-pool :
      ((usage : SymbolUse) → IsUseOf (origin_of a).inputs usage → IsAllowed usage.is_predicate a.options was (Stale job justifier)) → IsPool b
  turned-down-pool allowed =
      event-added a b (Stale job justifier) [] is by.origin by.history allowed turned-down-state
      (ap (λ (s : ProofState). map (change_at s.register.clauses) a.proof.notes.items) by.proof)
      (ap (λ (s : ProofState). s.notes.items) by.proof ∙ sym (append-nil a.proof.notes.items))
      (sym nothing-new)
      (subst (λ (s : ProofState). All (IsNoted (length s.register.clauses)) b.proof.notes.items) (sym by.proof)
      (subst (λ (s : ProofState). All (IsNoted (length a.proof.register.clauses)) s.notes.items) (sym by.proof) is.news.noted))
      by.before
    where
      nothing-new : changes_between was now ≡ []
      nothing-new =
          ap₂ (λ (ns : List ℕ) (ds : List Death). map (λ k. TreeChange.activated k (clause_numbered was k)) ns ++ map (λ (d : Death). TreeChange.died d.victim) ds)
          (drop-length was.positions) (drop-length was.deaths)

-- ---- the ticket

module _ (origin : Origin) (history : List Event) (told job justifier : ℕ) (given : GivenJob) (ticket : Ticket) where
  abbrev before : PoolRecord
  before = replay origin history

  pub turned-down-ticket :
      given_job before job ≡ Some given → told ≤ length history → IsTicketAgain origin history told job given ticket
      → IsTicket origin (history ++ Stale job justifier ∷ []) told ticket
  turned-down-ticket found within is = record {
    job = retold before given;
    out =
        ap (λ (r : PoolRecord). given_job r ticket.job) ended
        ∙ ap (given_job (after origin.options before (Stale job justifier))) is.same
        ∙ find-anew job before before.given given found;
    number = is.number;
    position = is.position ∙ ap (λ (r : PoolRecord). position_of r given.number) (sym ended);
    clause = ap (λ (r : PoolRecord). clauses_of r given.number) ended ∙ is.clause;
    news =
        is.news ∙ sym (append-nil (news_since origin history told))
        ∙ ap (λ (cs : List TreeChange). news_since origin history told ++ cs) (sym nothing-new)
        ∙ sym (news-end origin history (Stale job justifier) told within);
    left = is.left;
    as_of = (
      is.as_of ∙ ap (λ k. k + 1) (sym (event-count origin history)),
      is.as_of ∙ sym (length-append history (Stale job justifier ∷ [])),
    );
  }
    where
      ended : replay origin (history ++ Stale job justifier ∷ []) ≡ after origin.options before (Stale job justifier)
      ended = replay-end origin history (Stale job justifier)

      nothing-new : changes_between before (after origin.options before (Stale job justifier)) ≡ []
      nothing-new =
          ap₂ (λ (ns : List ℕ) (ds : List Death). map (λ k. TreeChange.activated k (clause_numbered before k)) ns ++ map (λ (d : Death). TreeChange.died d.victim) ds)
          (drop-length before.positions) (drop-length before.deaths)

-- ---- the event is allowed

pub stale-allowed :
    (a : Inside) (batch : Batch) (justifier : ℕ)
    → IsPool a → IsRightBatch (origin_of a) (events_of a.history) batch
    → IsGivenOut (record_of a) batch.job (λ j. IsTrue (lives (record_of a) j.number))
    → dead_justifier (record_of a) batch.work ≡ Some justifier
    → (usage : SymbolUse) → IsUseOf (origin_of a).inputs usage → IsAllowed usage.is_predicate a.options (record_of a) (Stale batch.job justifier)
stale-allowed a batch justifier is right living dead usage used = record {
  given = right.given;
  out = right.out;
  says = by batch.work (right.says usage used) dead;
}
  where
    r : PoolRecord
    r = record_of a

    alive : lives r right.given.number ≡ true
    alive = subst (λ (j : GivenJob). lives r j.number ≡ true) (same_Some living.given right.given (sym living.out ∙ right.out)) living.says

    by : (work : Work) → IsRightWork usage.is_predicate a.options (clauses_of r) right.given work → dead_justifier r work ≡ Some justifier → IsStale usage.is_predicate a.options r justifier right.given
    by (Gone m) is_right found = let one = found-one (is_dead r) m.justifiers justifier found in (alive, one.0, (m, one.1, is_right))
    by (Met entries removals) is_right found = absurd (none-some justifier found)
