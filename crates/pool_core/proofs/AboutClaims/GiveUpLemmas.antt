-- A pool after a job is given up.
use Rattle.std.proofs.Common.{◌≡◌, ℕ, zero, suc, ◌+◌, ◌<◌, ◌≤◌, Bool, true, false, not, ◌&&◌, ◌||◌, ◌==◌, List, [], ◌∷◌, map, length, refl, ap, ap₂, sym, ◌∙◌, subst, inl, inr, ◌⊎◌, ⊎_elim, arith}
use Rattle.std.specs.Prelude.{Option, None, Some, cond, find, filter, option_map, is_some, if◌then◌else◌, vec_len, vec_capacity, Contains}
use Rattle.std.specs.List.{list_any, range_with_len, AllByRecursion}
use Rattle.std.specs.Ordering.{nat_cmp}
use Rattle.std.specs.BTreeMap.{is_at}
use Rattle.std.specs.Map.{remove_entry, lookup}
use Rattle.std.proofs.lemmas.Bool.{true≢false, and_from, eqb-true, eq-eqb, not_from_false, cases_eq}
use Rattle.std.proofs.lemmas.List.Elements.{All-filter}
use Rattle.std.proofs.lemmas.Option.{none-some, same_Some}
use Rattle.fol_base.specs.Clause.{clause_size}
use Rattle.kernel_steps.specs.Split.{has_number}
use Rattle.term_bank.specs.declared.bank.Bank.{Bank}
use Rattle.term_bank.specs.declared.table.Table.{Table}
use Rattle.clause_queue.specs.Pairs.{with_pair, without, numbers, IsAbsent, IsRising}
use Rattle.clause_queue.proofs.Numbers.{lacks_from}
use Rattle.clause_queue.proofs.PairsLemmas.{absent-without}
use Rattle.clause_queue.proofs.PutBack.{put_back_restores}
use Rattle.pool_history.specs.Record.{PoolRecord, GivenJob, SolverJob, clause_numbered, numbers_of, lives, is_out, waits, is_awake, given_job, jobs_out, without_job}
use Rattle.pool_history.specs.Claiming.{ready, pair_of}
use Rattle.pool_history.specs.Replay.{after, without_solver}
use Rattle.pool_core.specs.KeptEvents.{events_of}
use Rattle.pool_history.specs.Lawful.{IsAllowed, IsOut}
use Rattle.pool_core.specs.State.{origin_of, solver_job, AreOfRegistered, IsProofStateOf, IsStateOf, IsPool}
use Rattle.pool_history.specs.declared.event.Event.{Event}
use Rattle.pool_history.specs.declared.event.Event.TheVariants.{Abandon}
use Rattle.pool_history.specs.declared.options.Options.{Options}
use Rattle.pool_core.specs.declared.pool.OutJob.{OutJob}
use Rattle.pool_core.specs.declared.pool.ProofState.{ProofState}
use Rattle.pool_core.specs.declared.pool.Pool.TheInside.{Inside}
use Rattle.pool_history.proofs.AboutRecords.EditLemmas.{filter-less, filter-pairs, remove-filter, lookup-find}
use Rattle.pool_history.proofs.AboutClaims.HandLemmas.{AreInHand, hands-of, others-apart, all-none, all-found}
use Rattle.pool_history.proofs.AboutBounds.JobLemmas.{Rising, none-removed}
use Rattle.pool_history.proofs.AboutClaims.PickLemmas.{In, RiseFrom, filter-rises, contains-in}
use Rattle.pool_core.proofs.AboutClaims.QuietLemmas.{IsQuietBy, quiet-pool}
use Rattle.pool_core.proofs.AboutClaims.StateLemmas.{rising-by, record_of, pool-rises}

-- ---- one job less

or-swap : (b c : Bool) → (b || c) ≡ (c || b)
or-swap true true = refl
or-swap true false = refl
or-swap false true = refl
or-swap false false = refl

or-assoc : (b c d : Bool) → (b || (c || d)) ≡ ((b || c) || d)
or-assoc true c d = refl
or-assoc false c d = refl

module _ (job : ℕ) where
  abbrev is_job : GivenJob → Bool
  is_job j = j.job == job

  -- one of all is that job's
  pub any-without :
      (low high : ℕ) (p : GivenJob → Bool) (js : List GivenJob) (j : GivenJob)
      → Rising low high js → find is_job js ≡ Some j → list_any p js ≡ (list_any p (without_job job js) || p j)
  any-without low high p [] j rise found = absurd (none-some j found)
  any-without low high p (k ∷ ks) j rise found = by (k.job == job) refl found (λ found. any-without k.job high p ks j rise.1 found)
    where
      by :
          (b : Bool) → (k.job == job) ≡ b → cond b (Some k) (find is_job ks) ≡ Some j
          → (find is_job ks ≡ Some j → list_any p ks ≡ (list_any p (without_job job ks) || p j))
          → (p k || list_any p ks) ≡ (list_any p (cond (not b) (k ∷ without_job job ks) (without_job job ks)) || p j)
      by true is found rest =
          or-swap (p k) (list_any p ks)
          ∙ ap₂ (λ (is : List GivenJob) (i : GivenJob). list_any p is || p i)
          (sym (none-removed job k.job high ks (let e : k.job ≡ job = eqb-true k.job job is in omega (arith, e)) rise.1)) (same_Some k j found)
      by false is found rest = ap (λ b. p k || b) (rest found) ∙ or-assoc (p k) (list_any p (without_job job ks)) (p j)

  pub length-without :
      (low high : ℕ) (js : List GivenJob) (j : GivenJob)
      → Rising low high js → find is_job js ≡ Some j → length js ≡ length (without_job job js) + 1
  length-without low high [] j rise found = absurd (none-some j found)
  length-without low high (k ∷ ks) j rise found = by (k.job == job) refl found (λ found. length-without k.job high ks j rise.1 found)
    where
      by :
          (b : Bool) → (k.job == job) ≡ b → cond b (Some k) (find is_job ks) ≡ Some j
          → (find is_job ks ≡ Some j → length ks ≡ length (without_job job ks) + 1)
          → suc (length ks) ≡ length (cond (not b) (k ∷ without_job job ks) (without_job job ks)) + 1
      by true is found rest =
          let same : length (without_job job ks) ≡ length ks = ap length (none-removed job k.job high ks (let e : k.job ≡ job = eqb-true k.job job is in omega (arith, e)) rise.1) in
          omega (arith, same)
      by false is found rest = let more = rest found in omega (arith, more)

-- ---- what waits then

abbrev pub given_up : Options → ℕ → PoolRecord → PoolRecord
given_up options job r = after options r (Abandon job)

-- the job isn't on a given clause any more, and the solver has that job then
abbrev pub let_go : Option SolverJob → ℕ → PoolRecord → PoolRecord
let_go solver job r = record r { given = without_job job r.given; solver = solver; events = r.events + 1 }

-- the clause was in no other hand, so it is in none
pub in-no-hand :
    (options : Options) (job : ℕ) (r : PoolRecord) (j : GivenJob)
    → AreInHand r → given_job r job ≡ Some j → is_out (given_up options job r) j.number ≡ false
in-no-hand options job r j hands found = all-none j.number (without_job job r.given) (others-apart job r.given j hands.apart found)

-- another clause is in hand as before
out-before :
    (options : Options) (job low high k : ℕ) (r : PoolRecord) (j : GivenJob)
    → Rising low high r.given → given_job r job ≡ Some j → is_out r k ≡ (is_out (given_up options job r) k || (k == j.number))
out-before options job low high k r j rise found = any-without job low high (λ (i : GivenJob). k == i.number) r.given j rise found

one-less : (l o e i w : Bool) → ((l && (not (o || e) && i)) && w) ≡ (((l && (not o && i)) && w) && not e)
one-less false o e i w = refl
one-less true true e i w = refl
one-less true false true i w = sym (none ((not false && i) && w))
  where
    none : (b : Bool) → (b && false) ≡ false
    none true = refl
    none false = refl
one-less true false false i w = sym (all (i && w))
  where
    all : (b : Bool) → (b && true) ≡ b
    all true = refl
    all false = refl

-- what was ready is ready, but for the clause of the job
pub ready-given_up :
    (options : Options) (job low high : ℕ) (r : PoolRecord) (j : GivenJob)
    → Rising low high r.given → given_job r job ≡ Some j
    → map (pair_of r) (ready r) ≡ without j.number (map (pair_of (given_up options job r)) (ready (given_up options job r)))
ready-given_up options job low high r j rise found =
    ap (map (pair_of r))
    (filter-less (λ k. waits s k && is_awake s k) (λ k. waits r k && is_awake r k) j.number (numbers_of r) (λ k.
    ap (λ b. (lives r k && (not b && not (has_number k r.active))) && is_awake r k) (out-before options job low high k r j rise found)
    ∙ one-less (lives r k) (is_out s k) (k == j.number) (not (has_number k r.active)) (is_awake r k)))
    ∙ sym (filter-pairs (λ k. clause_size (clause_numbered r k)) (λ k. not (k == j.number)) (ready s))
  where
    s : PoolRecord
    s = given_up options job r

-- a dead clause isn't ready, whoever has it in hand
same-where-dead : (l o e i w : Bool) → (e ≡ true → l ≡ false) → ((l && (not (o || e) && i)) && w) ≡ ((l && (not o && i)) && w)
same-where-dead false o e i w dead = refl
same-where-dead true true e i w dead = refl
same-where-dead true false true i w dead = absurd (true≢false (dead refl))
same-where-dead true false false i w dead = refl

pub ready-dead :
    (options : Options) (job low high : ℕ) (r : PoolRecord) (j : GivenJob)
    → Rising low high r.given → given_job r job ≡ Some j → lives r j.number ≡ false
    → ready (given_up options job r) ≡ ready r
ready-dead options job low high r j rise found dead =
    sym (ap (λ (p : ℕ → Bool). filter p (numbers_of r)) (λ x k. each k x))
  where
    s : PoolRecord
    s = given_up options job r

    each : (k : ℕ) → (waits r k && is_awake r k) ≡ (waits s k && is_awake s k)
    each k =
        ap (λ b. (lives r k && (not b && not (has_number k r.active))) && is_awake r k) (out-before options job low high k r j rise found)
        ∙ same-where-dead (lives r k) (is_out s k) (k == j.number) (not (has_number k r.active)) (is_awake r k)
        (λ e. ap (lives r) (eqb-true k j.number e) ∙ dead)

-- a number that passes is in the filter
pub filter-in : (p : ℕ → Bool) (m from count : ℕ) → p m ≡ true → from ≤ m → m < from + count → In m (filter p (range_with_len from count))
filter-in p m from zero is above below = absurd (omega (arith, above, below))
filter-in p m from (suc count) is above below =
    by (p from) refl (λ more. filter-in p m (from + 1) count is more (omega (arith, below)))
  where
    at-or-above : (m ≡ from) ⊎ (from + 1 ≤ m)
    at-or-above = ⊎_elim (λ (e : m ≡ from). inl e) (λ (ne : m ≡ from → ⊥). inr (omega (arith, ne, above))) (cases_eq m from)

    by :
        (b : Bool) → p from ≡ b → (from + 1 ≤ m → In m (filter p (range_with_len (from + 1) count)))
        → In m (cond b (from ∷ filter p (range_with_len (from + 1) count)) (filter p (range_with_len (from + 1) count)))
    by true here rest = ⊎_elim (λ (e : m ≡ from). inl e) (λ (more : from + 1 ≤ m). inr (rest more)) at-or-above
    by false here rest = rest (let other : m ≡ from → ⊥ = (λ (e : m ≡ from). true≢false (sym is ∙ ap p e ∙ here)) in omega (arith, other, above))

rise-pairs : (r : PoolRecord) (low : ℕ) (ns : List ℕ) → RiseFrom low ns → AllByRecursion (λ (q : ℕ × ℕ). low ≤ q.0) (map (pair_of r) ns) × IsRising (map (pair_of r) ns)
rise-pairs r low [] rise = (tt, tt)
rise-pairs r low (n ∷ ns) rise =
    let rest = rise-pairs r (suc n) ns rise.1 in
    ((rise.0, lower (suc n) low (map (pair_of r) ns) (omega (arith, rise.0)) rest.0), (strictly n (map (pair_of r) ns) rest.0, rest.1))
  where
    lower : (high low : ℕ) (qs : List (ℕ × ℕ)) → low ≤ high → AllByRecursion (λ (q : ℕ × ℕ). high ≤ q.0) qs → AllByRecursion (λ (q : ℕ × ℕ). low ≤ q.0) qs
    lower high low [] less all = tt
    lower high low (q ∷ qs) less all = (omega (arith, less, all.0), lower high low qs less all.1)

    strictly : (n : ℕ) (qs : List (ℕ × ℕ)) → AllByRecursion (λ (q : ℕ × ℕ). suc n ≤ q.0) qs → AllByRecursion (λ (q : ℕ × ℕ). n < q.0) qs
    strictly n [] all = tt
    strictly n (q ∷ qs) all = (omega (arith, all.0), strictly n qs all.1)

-- the clause of the job waits again where it lives
pub waits-again :
    (options : Options) (job : ℕ) (r : PoolRecord) (j : GivenJob)
    → AreInHand r → given_job r job ≡ Some j → lives r j.number ≡ true → waits (given_up options job r) j.number ≡ true
waits-again options job r j hands found alive =
    and_from (lives r j.number) (not (is_out s j.number) && not (has_number j.number r.active)) alive
    (and_from (not (is_out s j.number)) (not (has_number j.number r.active))
    (not_from_false (is_out s j.number) (in-no-hand options job r j hands found))
    (not_from_false (has_number j.number r.active) (all-found (λ (i : GivenJob). has_number i.number r.active ≡ false) job r.given j hands.idle found)))
  where
    s : PoolRecord
    s = given_up options job r

pub put-back :
    (options : Options) (job low high : ℕ) (r : PoolRecord) (j : GivenJob)
    → Rising low high r.given → AreInHand r → given_job r job ≡ Some j → lives r j.number ≡ true → is_awake r j.number ≡ true
    → with_pair (pair_of r j.number) (map (pair_of r) (ready r)) ≡ map (pair_of (given_up options job r)) (ready (given_up options job r))
put-back options job low high r j rise hands found alive awake =
    ap (with_pair (pair_of r j.number)) (ready-given_up options job low high r j rise found)
    ∙ put_back_restores (pair_of r j.number) (map (pair_of s) (ready s))
    (rise-pairs s 0 (ready s) (filter-rises (λ k. waits s k && is_awake s k) 0 (length r.registered))).1
    (contains-in s j.number (ready s)
    (filter-in (λ k. waits s k && is_awake s k) j.number 0 (length r.registered)
    (and_from (waits s j.number) (is_awake s j.number) (waits-again options job r j hands found alive) awake) (omega arith)
    (let below = all-found (λ (i : GivenJob). i.number < length r.registered) job r.given j hands.known found in omega (arith, below))))
  where
    s : PoolRecord
    s = given_up options job r

-- it isn't among those that were ready
pub absent-from-ready :
    (options : Options) (job low high : ℕ) (r : PoolRecord) (j : GivenJob) (pairs : List (ℕ × ℕ))
    → Rising low high r.given → given_job r job ≡ Some j → pairs ≡ map (pair_of r) (ready r) → Contains (numbers pairs) j.number → ⊥
absent-from-ready options job low high r j pairs rise found are =
    lacks_from j.number pairs
    (subst (IsAbsent j.number) (sym (are ∙ ready-given_up options job low high r j rise found))
    (absent-without j.number (map (pair_of (given_up options job r)) (ready (given_up options job r)))))

-- ---- the job that is out

abbrev out_of : GivenJob → OutJob
out_of j = record { number = j.number; left = j.left }

entries-found :
    (a : Inside) (r : PoolRecord) (job : ℕ)
    → IsStateOf a r → Rising 0 r.jobs r.given → lookup (is_at (nat_cmp job)) a.jobs.entries ≡ option_map out_of (given_job r job)
entries-found a r job is rise =
    ap (lookup (is_at (nat_cmp job))) is.jobs
    ∙ lookup-find (λ (i : GivenJob). i.job) out_of 0 r.jobs job r.given (rising-by 0 r.jobs r.given rise)

pub entry-out :
    (a : Inside) (r : PoolRecord) (job : ℕ) (j : GivenJob)
    → IsStateOf a r → Rising 0 r.jobs r.given → given_job r job ≡ Some j
    → lookup (is_at (nat_cmp job)) a.jobs.entries ≡ Some (record { number = j.number; left = j.left })
entry-out a r job j is rise found = entries-found a r job is rise ∙ ap (option_map out_of) found

-- an entry that is found is of a job that is out
pub record IsOutBy (r : PoolRecord) (job n : ℕ) : Type 0 where
  pub given : GivenJob
  pub found : given_job r job ≡ Some given
  pub same : given.number ≡ n

pub out-by :
    (a : Inside) (r : PoolRecord) (job : ℕ) (out : OutJob)
    → IsStateOf a r → Rising 0 r.jobs r.given → lookup (is_at (nat_cmp job)) a.jobs.entries ≡ Some out → IsOutBy r job out.number
out-by a r job out is rise there = by (given_job r job) refl
  where
    by : (o : Option GivenJob) → given_job r job ≡ o → IsOutBy r job out.number
    by None none = absurd (none-some out (sym (ap (option_map out_of) none) ∙ sym (entries-found a r job is rise) ∙ there))
    by (Some j) found = record {
      given = j;
      found = found;
      same =
          ap (λ (e : OutJob). e.number)
          (same_Some (out_of j) out (sym (ap (option_map out_of) found) ∙ sym (entries-found a r job is rise) ∙ there));
    }

-- where none is found, the job is on no given clause
pub out-nowhere :
    (a : Inside) (r : PoolRecord) (job : ℕ)
    → IsStateOf a r → Rising 0 r.jobs r.given → lookup (is_at (nat_cmp job)) a.jobs.entries ≡ None → given_job r job ≡ None
out-nowhere a r job is rise none = by (given_job r job) refl
  where
    by : (o : Option GivenJob) → given_job r job ≡ o → o ≡ None
    by None nothing = refl
    by (Some j) found = absurd (none-some (out_of j) (sym none ∙ entries-found a r job is rise ∙ ap (option_map out_of) found))

-- ---- one job less is out

abbrev one_if : Option SolverJob → ℕ
one_if o = if is_some o then 1 else 0

solver-left : (job : ℕ) (o : Option SolverJob) → one_if (without_solver job o) ≤ one_if o
solver-left job None = omega arith
solver-left job (Some s) = by (s.job == job)
  where
    by : (b : Bool) → one_if (if b then None else Some s) ≤ 1
    by true = omega arith
    by false = omega arith

given-left : (job : ℕ) (js : List GivenJob) → length (without_job job js) ≤ length js
given-left job [] = omega arith
given-left job (j ∷ js) = by (not (j.job == job)) (given-left job js)
  where
    by : (b : Bool) → length (without_job job js) ≤ length js → length (cond b (j ∷ without_job job js) (without_job job js)) ≤ suc (length js)
    by true rest = omega (arith, rest)
    by false rest = omega (arith, rest)

pub fewer-out :
    (job : ℕ) (r : PoolRecord)
    → Rising 0 r.jobs r.given → IsOut r job → (length (without_job job r.given) + one_if (without_solver job r.solver)) + 1 ≤ length r.given + one_if r.solver
fewer-out job r rise (inl given) =
    let one = length-without job 0 r.jobs r.given given.given rise given.out in
    let left = solver-left job r.solver in
    omega (arith, one, left)
fewer-out job r rise (inr solver) =
    let none : one_if (without_solver job r.solver) ≡ 0 =
    ap (λ (o : Option SolverJob). one_if (without_solver job o)) solver.out
    ∙ ap (λ b. one_if (if b then None else Some solver.solver)) (eq-eqb solver.solver.job job solver.same) in
    let one : one_if r.solver ≡ 1 = ap one_if solver.out in
    let left = given-left job r.given in
    omega (arith, none, one, left)

-- so one is out, for whose event there is room
pub some-out : (job : ℕ) (r : PoolRecord) → Rising 0 r.jobs r.given → IsOut r job → 1 ≤ jobs_out r
some-out job r rise out = let less = fewer-out job r rise out in omega (arith, less)

-- ---- the pool

-- what is told of fewer jobs
pub told-without : (job : ℕ) (r : PoolRecord) → AreOfRegistered r → AreOfRegistered (record r { given = without_job job r.given })
told-without job r told = record {
  positions = told.positions;
  active = told.active;
  given = All-filter (λ (j : GivenJob). not (j.job == job)) (λ (j : GivenJob). j.number < length r.registered) r.given told.given;
  placed = All-filter (λ (j : GivenJob). not (j.job == job)) (λ (j : GivenJob). has_number j.number r.positions ≡ true) r.given told.placed;
  victims = told.victims;
}

-- the fields without the job, where the queue is what it is to be
pub let-go-proof :
    (bank : Bank) (table : Table) (s t : ProofState) (r : PoolRecord) (job : ℕ) (solver : Option SolverJob)
    → t ≡ record s { queue = t.queue }
    → t.queue.pairs ≡ map (pair_of (let_go solver job r)) (ready (let_go solver job r))
    → IsProofStateOf bank table s r → IsProofStateOf bank table t (let_go solver job r)
let-go-proof bank table s t r job solver same queue is =
    subst (λ (u : ProofState). IsProofStateOf bank table u (let_go solver job r)) (sym same) (record {
      registered = is.registered;
      of_table = is.of_table;
      registrations = λ k z there. let was = is.registrations k z there in record { position = was.position; death = was.death; active = was.active };
      queue = queue;
      steps = is.steps;
      ended = is.ended;
      splits = is.splits;
      tags = is.tags;
      asserting = is.asserting;
      of_registered = let told = told-without job r is.of_registered in
          record { positions = told.positions; active = told.active; given = told.given; placed = told.placed; victims = told.victims };
      no_empty = is.no_empty;
    })

-- an event lets a job go: its entry goes, and the event takes one place
pub record IsLetGoBy (a b : Inside) (job : ℕ) : Type 0 where
  pub jobs : b.jobs.entries ≡ remove_entry (is_at (nat_cmp job)) a.jobs.entries
  pub last_job : b.last_job ≡ a.last_job
  pub history_len : vec_len b.history.events ≡ vec_len a.history.events + 1
  pub history_room : vec_capacity b.history.events ≡ vec_capacity a.history.events
  pub before_len : vec_len b.notes_before ≡ vec_len a.notes_before + 1
  pub before_room : vec_capacity b.notes_before ≡ vec_capacity a.notes_before

pub let-go-pool :
    (a b : Inside) (e : Event) (job : ℕ) (solver : Option SolverJob)
    → IsPool a → after a.options (record_of a) e ≡ let_go solver job (record_of a)
    → ((is_predicate : ℕ → Bool) → IsAllowed is_predicate a.options (record_of a) e)
    → jobs_out (let_go solver job (record_of a)) + 1 ≤ jobs_out (record_of a)
    → IsQuietBy a b e → IsLetGoBy a b job → option_map solver_job b.solver ≡ solver
    → length b.proof.queue.pairs + b.proof.queue.spare ≡ length a.proof.queue.pairs + a.proof.queue.spare
    → IsProofStateOf b.table.bank b.table b.proof (let_go solver job (record_of a))
    → IsPool b
let-go-pool a b e job solver is comes allowed fewer quiet by solving nodes proof =
    quiet-pool a b e (let_go solver job r) is comes allowed
    (record { positions = refl; deaths = refl; claims = refl; counted = refl; set_aside = refl }) quiet
    (record {
      jobs =
          by.jobs ∙ ap (remove_entry (is_at (nat_cmp job))) is.state.jobs
          ∙ remove-filter (λ (i : GivenJob). i.job) out_of 0 r.jobs job r.given (rising-by 0 r.jobs r.given (pool-rises a is));
      solver = solving;
      last_job = by.last_job ∙ is.state.last_job;
      queue_room = let room = is.state.queue_room in let same = ap length quiet.register in omega (arith, room, same, nodes);
      history_room = let enough = is.state.history_room in omega (arith, fewer, enough, by.history_len, by.history_room);
      notes_room = let enough = is.state.notes_room in omega (arith, fewer, enough, by.before_len, by.before_room);
    })
    proof
  where
    r : PoolRecord
    r = record_of a

-- ---- a job that is given up

pub pool-hands : (a : Inside) → IsPool a → AreInHand (record_of a)
pool-hands a is =
    let wf = is.inputs.well_formed in
    hands-of wf.usage.is_predicate (origin_of a) (events_of a.history) (is.lawful wf.usage wf.used)

-- the given clause isn't in the queue
pub absent-out :
    (a : Inside) (job n : ℕ) → IsPool a → IsOutBy (record_of a) job n → Contains (numbers a.proof.queue.pairs) n → ⊥
absent-out a job n is out there =
    absent-from-ready a.options job 0 (record_of a).jobs (record_of a) out.given a.proof.queue.pairs (pool-rises a is) out.found is.state.proof.queue
    (subst (Contains (numbers a.proof.queue.pairs)) (sym out.same) there)

module _ (a : Inside) (job n : ℕ) (is : IsPool a) (out : IsOutBy (record_of a) job n) where
  abbrev r : PoolRecord
  r = record_of a

  abbrev s : PoolRecord
  s = given_up a.options job r

  -- where it lives it waits, and is all that the queue may lack
  pub waits-then : lives r n ≡ true → waits s n ≡ true
  waits-then alive =
      subst (λ k. waits s k ≡ true) out.same
      (waits-again a.options job r out.given (pool-hands a is) out.found (subst (λ k. lives r k ≡ true) (sym out.same) alive))

  pub queue-lacks : (pairs : List (ℕ × ℕ)) → pairs ≡ a.proof.queue.pairs → pairs ≡ without n (map (pair_of s) (ready s))
  queue-lacks pairs kept =
      kept ∙ is.state.proof.queue ∙ ready-given_up a.options job 0 r.jobs r out.given (pool-rises a is) out.found
      ∙ ap (λ k. without k (map (pair_of s) (ready s))) out.same

  -- where it has died the queue stays
  pub queue-dead : lives r n ≡ false → a.proof.queue.pairs ≡ map (pair_of s) (ready s)
  queue-dead dead =
      is.state.proof.queue
      ∙ ap (map (pair_of r))
      (sym (ready-dead a.options job 0 r.jobs r out.given (pool-rises a is) out.found (ap (lives r) out.same ∙ dead)))

-- and where the job is on no given clause
pub queue-nowhere :
    (a : Inside) (job : ℕ) → IsPool a → given_job (record_of a) job ≡ None
    → a.proof.queue.pairs ≡ map (pair_of (given_up a.options job (record_of a))) (ready (given_up a.options job (record_of a)))
queue-nowhere a job is none =
    is.state.proof.queue
    ∙ ap (λ (js : List GivenJob). map (pair_of (record_of a)) (ready (record (record_of a) { given = js }))) (sym (nothing-goes job (record_of a).given none))
  where
    nothing-goes : (job : ℕ) (js : List GivenJob) → find (λ (i : GivenJob). i.job == job) js ≡ None → without_job job js ≡ js
    nothing-goes job [] none = refl
    nothing-goes job (j ∷ js) none = by (j.job == job) none (nothing-goes job js)
      where
        by :
            (b : Bool) → cond b (Some j) (find (λ (i : GivenJob). i.job == job) js) ≡ None
            → (find (λ (i : GivenJob). i.job == job) js ≡ None → without_job job js ≡ js)
            → cond (not b) (j ∷ without_job job js) (without_job job js) ≡ j ∷ js
        by true found rest = absurd (none-some j (sym found))
        by false none rest = ap (λ (ks : List GivenJob). j ∷ ks) (rest none)
