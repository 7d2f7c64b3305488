-- A pool after a batch was taken.
use Rattle.std.proofs.Common.{◌≡◌, ℕ, suc, ◌+◌, ◌<◌, ◌≤◌, ◌%◌, List, [], ◌∷◌, ◌++◌, map, length, drop, append-nil, refl, ap, ap₂, sym, ◌∙◌, subst, arith}
use Rattle.std.specs.Prelude.{Option, None, Some, is_some, nat_le, slice_get, option_map, unwrap_or, find, fold, vec_len, vec_capacity, All, if◌then◌else◌}
use Rattle.std.specs.Ordering.{nat_cmp}
use Rattle.std.specs.BTreeMap.{is_at}
use Rattle.std.specs.Map.{remove_entry}
use Rattle.std.proofs.Math.Seq.{drop-length, drop-append_seam}
use Rattle.std.proofs.lemmas.List.{length-append, length-map}
use Rattle.std.proofs.lemmas.List.Elements.{All-append, All-map, All-weaker}
use Rattle.fol_base.specs.Clause.{TreeClause}
use Rattle.fol_base.specs.WellFormed.{SymbolUse}
use Rattle.kernel_steps.specs.Conclusion.{empty_clause}
use Rattle.kernel_steps.specs.declared.key.Key.{Key}
use Rattle.kernel_steps.specs.declared.key.Key.TheVariants.{Replaced}
use Rattle.kernel_steps.specs.declared.step.Line.{Line}
use Rattle.term_bank.specs.declared.bank.Bank.{Bank}
use Rattle.term_bank.specs.declared.table.Table.{Table}
use Rattle.pool_core.specs.Splits.{SplitView, AreSplitsOf, split_view}
use Rattle.pool_core.specs.CountedList.{keys_in}
use Rattle.pool_history.specs.Claiming.{ready, pair_of}
use Rattle.pool_history.specs.Counting.{result_comes, refutes, spends, counts, keys_of, lines_of_entries}
use Rattle.pool_core.specs.KeptEvents.{events_of}
use Rattle.pool_history.specs.Inputs.{IsUseOf}
use Rattle.pool_history.specs.Lawful.{IsAllowed}
use Rattle.pool_history.specs.News.{TreeChange, changes_between}
use Rattle.pool_core.specs.Noted.{IsNoted, change_at}
use Rattle.pool_core.specs.Placing.{KnowsMore, NotesDeaths, entries_of, with_queue}
use Rattle.pool_history.specs.Record.{PoolRecord, Registered, GivenJob, SolverJob, Death, clause_numbered, given_job, without_job}
use Rattle.pool_history.specs.Replay.{after, with_events}
use Rattle.pool_history.specs.Returning.{dies, replaced, removed, takes_effect, proposed, becomes_active, heavy_entries, sets_aside, worked}
use Rattle.pool_core.specs.Started.{registered_at, IsOfTable}
use Rattle.pool_core.specs.State.{origin_of, HasNodes, IsProofStateOf, IsStateOf, IsPool, job_entry, solver_job}
use Rattle.pool_history.specs.declared.batch.Batch.{Batch}
use Rattle.pool_history.specs.declared.batch.Fate.{Fate}
use Rattle.pool_history.specs.declared.batch.Fate.TheVariants.{Kept, Dropped, Heavy}
use Rattle.pool_history.specs.declared.batch.Removal.{Removal}
use Rattle.pool_history.specs.declared.batch.Work.{Work}
use Rattle.pool_history.specs.declared.batch.Work.TheVariants.{Gone, Met}
use Rattle.pool_history.specs.declared.event.Event.TheVariants.{Return}
use Rattle.pool_history.specs.declared.options.Options.{Options}
use Rattle.pool_core.specs.declared.pool.Note.{Note}
use Rattle.pool_core.specs.declared.pool.Note.TheVariants.{Activated, Died}
use Rattle.pool_core.specs.declared.pool.OutJob.{OutJob}
use Rattle.pool_core.specs.declared.pool.Pool.TheInside.{Inside}
use Rattle.pool_core.specs.declared.pool.ProofState.{ProofState}
use Rattle.clause_register.specs.declared.register.Registration.{Registration}
use Rattle.pool_core.proofs.AboutReturns.ArrivalLemmas.{recounted}
use Rattle.pool_history.proofs.AboutCounting.CountedRecords.{lookup-more}
use Rattle.pool_history.proofs.AboutRecords.EditLemmas.{remove-filter}
use Rattle.pool_history.proofs.AboutRecords.FrameLemmas.{Registers, by-if, result-registers, results-register}
use Rattle.pool_core.proofs.AboutClaims.GiveUpLemmas.{length-without, told-without}
use Rattle.pool_history.proofs.AboutRecords.GrowthLemmas.{removed-grows, met-grows}
use Rattle.pool_history.proofs.AboutRecords.ItemLemmas.{all-at, item-at}
use Rattle.pool_core.proofs.AboutClaims.StateLemmas.{rising-by, clause-in, record_of, pool-rises, event-added, learned-all}

-- ---- what the work of a batch leaves

-- neither the solver's job nor what is set aside changes
record Leaves (r s : PoolRecord) : Type 0 where
  pub solver : s.solver ≡ r.solver
  pub aside : s.set_aside ≡ r.set_aside

leaves-then : (r s t : PoolRecord) → Leaves r s → Leaves s t → Leaves r t
leaves-then r s t first second = record { solver = second.solver ∙ first.solver; aside = second.aside ∙ first.aside }

registers-leaves : (r s : PoolRecord) → Registers r s → Leaves r s
registers-leaves r s is = record { solver = ap (λ (t : PoolRecord). t.solver) is.same; aside = ap (λ (t : PoolRecord). t.set_aside) is.same }

module _ (options : Options) where
  abbrev with_keys : List Key → PoolRecord → PoolRecord
  with_keys keys r = record r { counted = r.counted ++ keys }

  spends-leaves : (o : Option (List Line)) (r : PoolRecord) → Leaves r (spends options.split o r)
  spends-leaves None r = record { solver = refl; aside = refl }
  spends-leaves (Some lines) r = registers-leaves r (result_comes options.split r lines) (result-registers options.split r lines)

  counts-leaves : (keys : List Key) (results : List (List Line)) (r : PoolRecord) → Leaves r (counts options keys results r)
  counts-leaves keys results r =
      leaves-then r (with_keys keys r) (counts options keys results r) (record { solver = refl; aside = refl })
      (by-if (Leaves (with_keys keys r)) (nat_le options.inferences (length (with_keys keys r).counted))
      (spends options.split (find refutes results) (with_keys keys r)) (fold (result_comes options.split) (with_keys keys r) results)
      (spends-leaves (find refutes results) (with_keys keys r))
      (registers-leaves (with_keys keys r) (fold (result_comes options.split) (with_keys keys r) results)
      (results-register options.split results (with_keys keys r))))

  replaced-leaves : (victim : ℕ) (fate : Fate) (r : PoolRecord) → Leaves r (replaced options victim fate r)
  replaced-leaves victim (Kept lines results) r = counts-leaves (Replaced victim ∷ []) (lines ∷ []) r
  replaced-leaves victim (Dropped redundancy) r = record { solver = refl; aside = refl }
  replaced-leaves victim Heavy r = record { solver = refl; aside = refl }

  removed-leaves : (m : Removal) (r : PoolRecord) → Leaves r (removed options m r)
  removed-leaves m r =
      leaves-then r (dies m.victim m.justifiers r) (removed options m r) (record { solver = refl; aside = refl })
      (replaced-leaves m.victim m.fate (dies m.victim m.justifiers r))

  proposed-leaves : (ms : List Removal) (r : PoolRecord) → Leaves r (fold (proposed options) r ms)
  proposed-leaves [] r = record { solver = refl; aside = refl }
  proposed-leaves (m ∷ ms) r =
      leaves-then r (proposed options r m) (fold (proposed options) (proposed options r m) ms)
      (by-if (Leaves r) (takes_effect r m) (removed options m r) r (removed-leaves m r) (record { solver = refl; aside = refl }))
      (proposed-leaves ms (proposed options r m))

  abbrev pub without : ℕ → PoolRecord → PoolRecord
  without job r = record r { given = without_job job r.given }

  -- what stays of a record whose job is done, and what is added
  pub record Follows (job : ℕ) (aside : List Key) (r s : PoolRecord) : Type 0 where
    pub given : s.given ≡ without_job job r.given
    pub positions : s.positions ≡ r.positions
    pub jobs : s.jobs ≡ r.jobs
    pub claims : s.claims ≡ r.claims
    pub solver : s.solver ≡ r.solver
    pub set_aside : s.set_aside ≡ r.set_aside ++ aside
    pub clauses : (cs : List Registered) × (s.registered ≡ r.registered ++ cs)

  pub worked-follows : (job n : ℕ) (work : Work) (r : PoolRecord) → Follows job (keys_of (heavy_entries (entries_of work))) r (worked options n work (without job r))
  worked-follows job n (Gone m) r =
      let grown = removed-grows options m (without job r) in
      let left = removed-leaves m (without job r) in
      record {
        given = grown.given;
        positions = grown.positions;
        jobs = grown.jobs;
        claims = grown.claims;
        solver = left.solver;
        set_aside = left.aside ∙ sym (append-nil r.set_aside);
        clauses = grown.clauses;
      }
  worked-follows job n (Met entries removals) r =
      let grown = met-grows options n entries removals (without job r) in
      let aside : PoolRecord = sets_aside entries (becomes_active n (without job r)) in
      let counted : PoolRecord = counts options (keys_of entries) (lines_of_entries entries) aside in
      let left =
      leaves-then aside counted (fold (proposed options) counted removals) (counts-leaves (keys_of entries) (lines_of_entries entries) aside)
      (proposed-leaves removals counted) in
      record {
        given = grown.given;
        positions = grown.positions;
        jobs = grown.jobs;
        claims = grown.claims;
        solver = left.solver;
        set_aside = left.aside;
        clauses = grown.clauses;
      }

  pub closed-follows : (job n : ℕ) (r : PoolRecord) → Follows job [] r (becomes_active n (without job r))
  closed-follows job n r = record {
    given = refl;
    positions = refl;
    jobs = refl;
    claims = refl;
    solver = refl;
    set_aside = sym (append-nil r.set_aside);
    clauses = ([], sym (append-nil r.registered));
  }

-- ---- the fields without the job

-- with a table that may know more
pub without-state :
    (bank : Bank) (known learned : Table) (options : Options) (s t : ProofState) (r : PoolRecord) (job : ℕ)
    → KnowsMore known learned
    → t.register.clauses ≡ s.register.clauses → t.steps.items ≡ s.steps.items → t.ended ≡ s.ended → split_view t.splits ≡ split_view s.splits
    → t.asserting.entries ≡ s.asserting.entries → IsProofStateOf bank known s r
    → IsProofStateOf bank learned (with_queue (map (pair_of (without options job r)) (ready (without options job r))) t) (without options job r)
without-state bank known learned options s t r job more register steps ended splits asserting is = record {
  registered = ap (map registered_at) register ∙ is.registered;
  of_table =
      subst (All (IsOfTable bank learned)) (sym register) (learned-all bank known learned s.register.clauses more is.of_table);
  registrations = λ n z there.
      let was = is.registrations n z (ap (λ ss. slice_get ss n) (sym register) ∙ there) in
      record { position = was.position; death = was.death; active = was.active };
  queue = refl;
  steps = steps ∙ is.steps;
  ended = ended ∙ is.ended;
  splits = subst (λ (v : SplitView). AreSplitsOf v r.parts r.lines r.propositional r.model r.modelled) (sym splits) is.splits;
  tags = is.tags;
  asserting = asserting ∙ is.asserting;
  of_registered = let told = told-without job r is.of_registered in
      record { positions = told.positions; active = told.active; given = told.given; placed = told.placed; victims = told.victims };
  no_empty = is.no_empty;
}

-- ---- notes by a register that has grown

-- of a clause that was there they tell the same
grown-note :
    (ss ts : List Registration) (more : List Registered) → map registered_at ts ≡ map registered_at ss ++ more
    → (note : Note) → IsNoted (length ss) note → change_at ts note ≡ change_at ss note
grown-note ss ts more grown (Activated n) below =
    ap (TreeChange.activated n)
    (clause-in ts n
    ∙ ap (λ xs. unwrap_or (option_map (λ (c : Registered). c.clause) (slice_get xs n)) empty_clause) grown
    ∙ same
    ∙ sym (clause-in ss n))
  where
    there : (x : Registered) × (slice_get (map registered_at ss) n ≡ Some x)
    there = item-at (map registered_at ss) n (subst (λ k. n < k) (sym (long ss)) below)
      where
        long : (zs : List Registration) → length (map registered_at zs) ≡ length zs
        long [] = refl
        long (z ∷ zs) = ap suc (long zs)

    clause : (o : Option Registered) (x : Registered) → o ≡ Some x → option_map (λ (c : Registered). c.clause) o ≡ Some x.clause
    clause o x is = ap (option_map (λ (c : Registered). c.clause)) is

    same :
        unwrap_or (option_map (λ (c : Registered). c.clause) (slice_get (map registered_at ss ++ more) n)) empty_clause
        ≡ unwrap_or (option_map (λ (c : Registered). c.clause) (slice_get (map registered_at ss) n)) empty_clause
    same =
        ap (λ (o : Option TreeClause). unwrap_or o empty_clause)
        (lookup-more (map registered_at ss) more n there.0.clause (clause _ there.0 there.1) ∙ sym (clause _ there.0 there.1))
grown-note ss ts more grown (Died n) below = refl

grown-notes :
    (ss ts : List Registration) (more : List Registered) → map registered_at ts ≡ map registered_at ss ++ more
    → (notes : List Note) → ((k : ℕ) (note : Note) → slice_get notes k ≡ Some note → IsNoted (length ss) note) → map (change_at ts) notes ≡ map (change_at ss) notes
grown-notes ss ts more grown [] noted = refl
grown-notes ss ts more grown (note ∷ notes) noted =
    ap₂ (λ (c : TreeChange) (cs : List TreeChange). c ∷ cs) (grown-note ss ts more grown note (noted 0 note refl))
    (grown-notes ss ts more grown notes (λ k m there. noted (suc k) m there))

wider-note : (few many : ℕ) → few ≤ many → (note : Note) → IsNoted few note → IsNoted many note
wider-note few many wide (Activated n) below = omega (arith, wide, below)
wider-note few many wide (Died n) below = tt

-- the deaths
died-told : (ss : List Registration) (ds : List Death) → map (change_at ss) (map (λ (d : Death). Died d.victim) ds) ≡ map (λ (d : Death). TreeChange.died d.victim) ds
died-told ss [] = refl
died-told ss (d ∷ ds) = ap (λ (cs : List TreeChange). TreeChange.died d.victim ∷ cs) (died-told ss ds)

died-noted : (count : ℕ) (ds : List Death) → All (IsNoted count) (map (λ (d : Death). Died d.victim) ds)
died-noted count ds = All-map (IsNoted count) (λ (d : Death). Died d.victim) ds (λ k d below. tt)

-- ---- the pool

-- what taking a batch changes beside the proof state and the keys
pub record IsTakenBy (a b : Inside) (batch : Batch) : Type 0 where
  pub origin : origin_of b ≡ origin_of a
  pub positions : b.positions.items ≡ a.positions.items
  pub jobs : b.jobs.entries ≡ remove_entry (is_at (nat_cmp batch.job)) a.jobs.entries
  pub history : events_of b.history ≡ events_of a.history ++ Return batch ∷ []
  pub history_len : vec_len b.history.events ≡ vec_len a.history.events + 1
  pub history_room : vec_capacity b.history.events ≡ vec_capacity a.history.events
  pub before : b.notes_before.items ≡ a.notes_before.items ++ length a.proof.notes.items ∷ []
  pub before_len : vec_len b.notes_before ≡ vec_len a.notes_before + 1
  pub before_room : vec_capacity b.notes_before ≡ vec_capacity a.notes_before
  pub solver : b.solver ≡ a.solver
  pub last_job : b.last_job ≡ a.last_job
  pub place : b.place_in_round ≡ a.place_in_round

module _ (a b : Inside) (batch : Batch) (j : GivenJob) (aside : List Key) (s : PoolRecord) (is : IsPool a) (found : given_job (record_of a) batch.job ≡ Some j) where
  abbrev pub r : PoolRecord
  r = record_of a

  abbrev now : PoolRecord
  now = with_events (r.events + 1) s

  pub one : length r.given ≡ length (without_job batch.job r.given) + 1
  one = length-without batch.job 0 r.jobs r.given j (pool-rises a is) found

  taken-state :
      IsTakenBy a b batch → Follows a.options batch.job aside r s
      → IsProofStateOf b.table.bank b.table b.proof s → keys_in b.counted ≡ s.counted → b.set_aside.items ≡ a.set_aside.items ++ aside
      → HasNodes b.proof 0 → IsStateOf b now
  taken-state by follows proof counted set_aside nodes = record {
    proof = recounted b.table.bank b.table b.proof s s.counted s.set_aside (r.events + 1) proof;
    positions = by.positions ∙ is.state.positions ∙ sym follows.positions;
    jobs =
        by.jobs ∙ ap (remove_entry (is_at (nat_cmp batch.job))) is.state.jobs
        ∙ remove-filter (λ (i : GivenJob). i.job) (λ (i : GivenJob). let o : OutJob = record { number = i.number; left = i.left } in o) 0 r.jobs batch.job r.given
        (rising-by 0 r.jobs r.given (pool-rises a is))
        ∙ ap (map job_entry) (sym follows.given);
    counted = counted;
    set_aside = set_aside ∙ ap (λ (ks : List Key). ks ++ aside) is.state.set_aside ∙ sym follows.set_aside;
    last_job = by.last_job ∙ is.state.last_job ∙ sym follows.jobs;
    place = by.place ∙ is.state.place ∙ ap (λ k. k % 6) (sym follows.claims);
    solver = ap (option_map solver_job) by.solver ∙ is.state.solver ∙ sym follows.solver;
    queue_room = nodes;
    history_room =
        let less = one in let same : length s.given ≡ length (without_job batch.job r.given) = ap length follows.given in
        let room = is.state.history_room in let solving = same-solver in
        omega (arith, less, same, solving, by.history_len, by.history_room, room);
    notes_room =
        let less = one in let same : length s.given ≡ length (without_job batch.job r.given) = ap length follows.given in
        let room = is.state.notes_room in let solving = same-solver in
        omega (arith, less, same, solving, by.before_len, by.before_room, room);
  }
    where
      same-solver : ◌≡◌ {A = ℕ} (if is_some s.solver then 1 else 0) (if is_some r.solver then 1 else 0)
      same-solver = ap (λ (o : Option SolverJob). if is_some o then 1 else 0) follows.solver

  pub taken-pool :
      after a.options r (Return batch) ≡ now
      → ((usage : SymbolUse) → IsUseOf (origin_of a).inputs usage → IsAllowed usage.is_predicate a.options r (Return batch))
      → IsTakenBy a b batch → Follows a.options batch.job aside r s
      → IsProofStateOf b.table.bank b.table b.proof s → keys_in b.counted ≡ s.counted → b.set_aside.items ≡ a.set_aside.items ++ aside
      → NotesDeaths r s a.proof.notes.items b.proof.notes.items
      → HasNodes b.proof 0 → IsPool b
  taken-pool comes allowed by follows proof counted set_aside noted nodes =
      event-added a b (Return batch) (map (λ (d : Death). Died d.victim) noted.deaths) is by.origin by.history allowed
      (subst (IsStateOf b) (sym comes) (taken-state by follows proof counted set_aside nodes))
      (grown-notes a.proof.register.clauses b.proof.register.clauses follows.clauses.0 grown a.proof.notes.items within)
      noted.noted
      (died-told b.proof.register.clauses noted.deaths ∙ sym told ∙ ap (changes_between r) (sym comes))
      (subst (All (IsNoted (length b.proof.register.clauses))) (sym noted.noted)
      (All-append (IsNoted (length b.proof.register.clauses)) a.proof.notes.items (map (λ (d : Death). Died d.victim) noted.deaths)
      (All-weaker (IsNoted (length a.proof.register.clauses)) (IsNoted (length b.proof.register.clauses))
      (wider-note (length a.proof.register.clauses) (length b.proof.register.clauses) longer) a.proof.notes.items is.news.noted)
      (died-noted (length b.proof.register.clauses) noted.deaths)))
      by.before
    where
      grown : map registered_at b.proof.register.clauses ≡ map registered_at a.proof.register.clauses ++ follows.clauses.0
      grown = proof.registered ∙ follows.clauses.1 ∙ ap (λ (xs : List Registered). xs ++ follows.clauses.0) (sym is.state.proof.registered)

      within : (k : ℕ) (note : Note) → slice_get a.proof.notes.items k ≡ Some note → IsNoted (length a.proof.register.clauses) note
      within k note there = all-at (IsNoted (length a.proof.register.clauses)) a.proof.notes.items k note is.news.noted there

      longer : length a.proof.register.clauses ≤ length b.proof.register.clauses
      longer =
          let before : length (map registered_at a.proof.register.clauses) ≡ length a.proof.register.clauses = length-map a.proof.register.clauses registered_at in
          let behind : length (map registered_at b.proof.register.clauses) ≡ length b.proof.register.clauses = length-map b.proof.register.clauses registered_at in
          let all : length (map registered_at b.proof.register.clauses) ≡ length (map registered_at a.proof.register.clauses) + length follows.clauses.0 =
          ap length grown ∙ length-append (map registered_at a.proof.register.clauses) follows.clauses.0 in
          omega (arith, before, behind, all)

      told : changes_between r now ≡ map (λ (d : Death). TreeChange.died d.victim) noted.deaths
      told =
          ap₂ (λ (ns : List ℕ) (ds : List Death). map (λ k. TreeChange.activated k (clause_numbered now k)) ns ++ map (λ (d : Death). TreeChange.died d.victim) ds)
          (ap (drop (length r.positions)) follows.positions ∙ drop-length r.positions)
          (ap (drop (length r.deaths)) noted.died ∙ drop-append_seam r.deaths noted.deaths)
