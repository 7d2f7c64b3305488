-- What a pool's fields keep through an event that registers nothing.
use Rattle.std.proofs.Common.{◌≡◌, ℕ, ◌+◌, ◌<◌, ◌≤◌, Bool, List, [], ◌∷◌, ◌++◌, map, length, take, drop, refl, ap, ap₂, sym, ◌∙◌, subst, ⊎_elim, arith}
use Rattle.std.specs.Prelude.{Option, None, Some, Result, Ok, Err, OnOk, slice_get, option_map, unwrap_or, is_some, if◌then◌else◌, vec_len, vec_capacity, All}
use Rattle.std.proofs.lemmas.Option.{slice_get-map, slice_get_within}
use Rattle.std.proofs.lemmas.List.{length-append, length-map, length-take-le, map-append, take-append-le, take_all}
use Rattle.std.proofs.lemmas.List.Elements.{All-weaker}
use Rattle.std.proofs.Math.Seq.{take-append_seam, drop-append_seam}
use Rattle.fol_base.specs.WellFormed.{SymbolUse}
use Rattle.kernel_steps.specs.Conclusion.{empty_clause}
use Rattle.bank_clause.specs.Clause.{clause_at, IsClauseOf}
use Rattle.bank_clause.specs.declared.clause.BankClause.{BankClause}
use Rattle.term_bank.specs.declared.bank.Bank.{Bank}
use Rattle.term_bank.specs.declared.table.Table.{Table}
use Rattle.pool_core.specs.Splits.{SplitView, AreSplitsOf, split_view}
use Rattle.pool_core.specs.CountedList.{keys_in}
use Rattle.pool_history.specs.Record.{PoolRecord, Registered, GivenJob, SolverJob, clauses_of}
use Rattle.pool_history.specs.Replay.{Origin, after, start, replay}
use Rattle.pool_history.specs.News.{TreeChange, change_of, changes_between, changes_from, news_since}
use Rattle.pool_core.specs.Noted.{AreOfBank, IsNoted, clause_in, change_at}
use Rattle.pool_core.specs.KeptEvents.{events_of}
use Rattle.pool_history.specs.Inputs.{AreInputs, IsLimit, IsHistoryOf, IsUseOf}
use Rattle.pool_history.specs.Lawful.{IsAllowed}
use Rattle.pool_core.specs.Placing.{KnowsMore}
use Rattle.pool_core.specs.Started.{registered_at, IsOfTable}
use Rattle.pool_core.specs.State.{origin_of, IsProofStateOf, IsStateOf, IsPool, job_entry, solver_job}
use Rattle.pool_history.specs.declared.event.Event.{Event}
use Rattle.clause_register.specs.declared.register.Registration.{Registration}
use Rattle.pool_core.specs.declared.pool.OutJob.{OutJob}
use Rattle.pool_core.specs.declared.pool.ProofState.{ProofState}
use Rattle.pool_core.specs.declared.pool.Note.{Note}
use Rattle.pool_core.specs.declared.pool.Note.TheVariants.{Activated, Died}
use Rattle.pool_core.specs.declared.pool.Pool.TheInside.{Inside}
use Rattle.pool_history.specs.declared.ticket.Change.{Change}
use Rattle.pool_history.proofs.AboutRecords.EditLemmas.{get-end, RisingBy}
use Rattle.pool_history.proofs.AboutClaims.HistoryLemmas.{replay-end, changes-end, lawful-end, news-drop, news-bound}
use Rattle.pool_history.proofs.AboutBounds.JobLemmas.{Rising}
use Rattle.pool_history.proofs.AboutRecords.ItemLemmas.{all-at}
use Rattle.pool_history.proofs.AboutBounds.TimeLemmas.{jobs-rise}

-- ---- the clauses of a register

pub clause-in : (ss : List Registration) (n : ℕ) → clause_in ss n ≡ unwrap_or (option_map (λ (c : Registered). c.clause) (slice_get (map registered_at ss) n)) empty_clause
clause-in ss n = by (slice_get ss n) refl ∙ ap (λ (o : Option Registered). unwrap_or (option_map (λ (c : Registered). c.clause) o) empty_clause) (sym (slice_get-map registered_at ss n))
  where
    by :
        (o : Option Registration) → slice_get ss n ≡ o
        → unwrap_or (option_map (λ (s : Registration). clause_at s.clause) (slice_get ss n)) empty_clause
        ≡ unwrap_or (option_map (λ (c : Registered). c.clause) (option_map registered_at (slice_get ss n))) empty_clause
    by None is = ap (λ (o : Option Registration). unwrap_or (option_map (λ (s : Registration). clause_at s.clause) o) empty_clause) is
        ∙ sym (ap (λ (o : Option Registration). unwrap_or (option_map (λ (c : Registered). c.clause) (option_map registered_at o)) empty_clause) is)
    by (Some s) is = ap (λ (o : Option Registration). unwrap_or (option_map (λ (s : Registration). clause_at s.clause) o) empty_clause) is
        ∙ sym (ap (λ (o : Option Registration). unwrap_or (option_map (λ (c : Registered). c.clause) (option_map registered_at o)) empty_clause) is)

-- notes tell the same by registers of the same clauses
pub note-kept : (ss ts : List Registration) (note : Note) → map registered_at ts ≡ map registered_at ss → change_at ts note ≡ change_at ss note
note-kept ss ts (Activated n) same =
    ap (TreeChange.activated n) (clause-in ts n ∙ ap (λ xs. unwrap_or (option_map (λ (c : Registered). c.clause) (slice_get xs n)) empty_clause) same ∙ sym (clause-in ss n))
note-kept ss ts (Died n) same = refl

pub notes-kept : (ss ts : List Registration) (notes : List Note) → map registered_at ts ≡ map registered_at ss → map (change_at ts) notes ≡ map (change_at ss) notes
notes-kept ss ts notes same = ap (λ (f : Note → TreeChange). map f notes) (λ i note. note-kept ss ts note same i)

pub long-register : (ss ts : List Registration) → map registered_at ts ≡ map registered_at ss → length ts ≡ length ss
long-register ss ts same = sym (length-map ts registered_at) ∙ ap length same ∙ length-map ss registered_at

-- the clause of a number
pub clause-there :
    (a : Inside) (r : PoolRecord) (n : ℕ) (s : Registration) → IsStateOf a r → slice_get a.proof.register.clauses n ≡ Some s → clauses_of r n ≡ Some (clause_at s.clause)
clause-there a r n s is there =
    ap (λ xs. option_map (λ (c : Registered). c.clause) (slice_get xs n)) (sym is.proof.registered)
    ∙ ap (λ (o : Option Registered). option_map (λ (c : Registered). c.clause) o) (slice_get-map registered_at a.proof.register.clauses n)
    ∙ ap (λ (o : Option Registration). option_map (λ (c : Registered). c.clause) (option_map registered_at o)) there

-- the numbers of the jobs that are out rise
pub rising-by : (low high : ℕ) (js : List GivenJob) → Rising low high js → RisingBy (λ (j : GivenJob). j.job) (λ (j : GivenJob). let o : OutJob = record { number = j.number; left = j.left } in o) low high js
rising-by low high [] rise = rise
rising-by low high (j ∷ js) rise = (rise.0, rising-by j.job high js rise.1)

pub registered-count : (a : Inside) (r : PoolRecord) → IsStateOf a r → length r.registered ≡ length a.proof.register.clauses
registered-count a r is = ap length (sym is.proof.registered) ∙ length-map a.proof.register.clauses registered_at

pub given-count : (a : Inside) (r : PoolRecord) → IsStateOf a r → length a.jobs.entries ≡ length r.given
given-count a r is = ap length is.jobs ∙ length-map r.given job_entry

-- the solver has one job at most
pub solver-few : (o : Option SolverJob) → (if is_some o then 1 else 0) ≤ 1
solver-few None = omega arith
solver-few (Some s) = omega arith

-- ---- a pool with one more event

abbrev pub record_of : Inside → PoolRecord
record_of a = replay (origin_of a) (events_of a.history)

pub pool-rises : (a : Inside) → IsPool a → Rising 0 (record_of a).jobs (record_of a).given
pool-rises a is =
    let wf = is.inputs.well_formed in
    jobs-rise wf.usage.is_predicate (origin_of a) (events_of a.history) (is.lawful wf.usage wf.used)

-- clauses may have come
pub event-added :
    (a b : Inside) (e : Event) (notes : List Note)
    → IsPool a
    → origin_of b ≡ origin_of a → events_of b.history ≡ events_of a.history ++ e ∷ []
    → ((usage : SymbolUse) → IsUseOf (origin_of a).inputs usage → IsAllowed usage.is_predicate a.options (record_of a) e)
    → IsStateOf b (after a.options (record_of a) e)
    → map (change_at b.proof.register.clauses) a.proof.notes.items ≡ map (change_at a.proof.register.clauses) a.proof.notes.items
    → b.proof.notes.items ≡ a.proof.notes.items ++ notes
    → map (change_at b.proof.register.clauses) notes ≡ changes_between (record_of a) (after a.options (record_of a) e)
    → All (IsNoted (length b.proof.register.clauses)) b.proof.notes.items
    → b.notes_before.items ≡ a.notes_before.items ++ length a.proof.notes.items ∷ []
    → IsPool b
event-added a b e notes is same events allowed state kept noted told within before = record {
  inputs = subst (λ (o : Origin). AreInputs o.inputs) (sym same) is.inputs;
  limit = subst IsLimit (sym same_options) is.limit;
  lawful =
      subst (λ (o : Origin). IsHistoryOf o (events_of b.history)) (sym same)
      (subst (λ es. IsHistoryOf (origin_of a) es) (sym events) (λ usage used.
      lawful-end usage.is_predicate a.options h e (start (origin_of a)) (is.lawful usage used) (allowed usage used)));
  state =
      subst (λ (o : Origin). IsStateOf b (replay o (events_of b.history))) (sym same)
      (subst (λ es. IsStateOf b (replay (origin_of a) es)) (sym events) (subst (IsStateOf b) (sym (replay-end (origin_of a) h e)) state));
  news = record {
    all =
        ap (map (change_at b.proof.register.clauses)) noted
        ∙ map-append (change_at b.proof.register.clauses) a.proof.notes.items notes
        ∙ ap₂ (λ (xs ys : List TreeChange). xs ++ ys) (kept ∙ is.news.all) told
        ∙ sym (changes-end a.options h e (start (origin_of a)))
        ∙ sym (whole (events_of b.history) ∙ ap (changes_from a.options (start (origin_of a))) events);
    noted = within;
    count =
        let one : length b.notes_before.items ≡ length a.notes_before.items + 1 = ap length before ∙ length-append a.notes_before.items (length a.proof.notes.items ∷ []) in
        let more : length (events_of b.history) ≡ length h + 1 = ap length events ∙ length-append h (e ∷ []) in
        omega (arith, one, more, is.news.count);
    before = λ k n there.
        ⊎_elim (earlier k n) (λ (last : (k ≡ length a.notes_before.items) × (length a.proof.notes.items ≡ n)). latest k n last.0 last.1)
        (get-end a.notes_before.items (length a.proof.notes.items) n k (ap (λ xs. slice_get xs k) (sym before) ∙ there));
  };
}
  where
    h : List Event
    h = events_of a.history

    same_options : b.options ≡ a.options
    same_options = ap (λ (o : Origin). o.options) same

    whole : (es : List Event) → changes_from b.options (start (origin_of b)) es ≡ changes_from a.options (start (origin_of a)) es
    whole es = ap (λ (o : Origin). changes_from o.options (start o) es) same

    earlier : (k n : ℕ) → slice_get a.notes_before.items k ≡ Some n → n ≡ length (changes_from b.options (start (origin_of b)) (take k (events_of b.history)))
    earlier k n there =
        let below : k < length a.notes_before.items = slice_get_within a.notes_before.items k n there in
        is.news.before k n there
        ∙ ap (λ es. length (changes_from a.options (start (origin_of a)) es))
        (sym (ap (take k) events ∙ take-append-le k h (e ∷ []) (omega (arith, below, is.news.count))))
        ∙ ap length (sym (whole (take k (events_of b.history))))

    latest : (k n : ℕ) → k ≡ length a.notes_before.items → length a.proof.notes.items ≡ n → n ≡ length (changes_from b.options (start (origin_of b)) (take k (events_of b.history)))
    latest k n last many =
        sym many ∙ sym (length-map a.proof.notes.items (change_at a.proof.register.clauses)) ∙ ap length is.news.all
        ∙ ap (λ es. length (changes_from a.options (start (origin_of a)) es))
        (sym (ap₂ take (last ∙ is.news.count) events ∙ take-append_seam h (e ∷ [])))
        ∙ ap length (sym (whole (take k (events_of b.history))))

-- the clauses are the same
pub one-more-event :
    (a b : Inside) (e : Event) (notes : List Note)
    → IsPool a
    → origin_of b ≡ origin_of a → events_of b.history ≡ events_of a.history ++ e ∷ []
    → ((is_predicate : ℕ → Bool) → IsAllowed is_predicate a.options (record_of a) e)
    → IsStateOf b (after a.options (record_of a) e)
    → map registered_at b.proof.register.clauses ≡ map registered_at a.proof.register.clauses
    → b.proof.notes.items ≡ a.proof.notes.items ++ notes
    → map (change_at a.proof.register.clauses) notes ≡ changes_between (record_of a) (after a.options (record_of a) e)
    → All (IsNoted (length a.proof.register.clauses)) b.proof.notes.items
    → b.notes_before.items ≡ a.notes_before.items ++ length a.proof.notes.items ∷ []
    → IsPool b
one-more-event a b e notes is same events allowed state register noted told within before =
    event-added a b e notes is same events (λ usage used. allowed usage.is_predicate) state
    (notes-kept a.proof.register.clauses b.proof.register.clauses a.proof.notes.items register) noted
    (notes-kept a.proof.register.clauses b.proof.register.clauses notes register ∙ told)
    (subst (λ k. All (IsNoted k) b.proof.notes.items) (sym (long-register a.proof.register.clauses b.proof.register.clauses register)) within)
    before

-- ---- a pool that changed nothing but its room, and what its table knows

pub record KeepsAll (a b : Inside) : Type 0 where
  pub origin : origin_of b ≡ origin_of a
  pub bank : b.table.bank ≡ a.table.bank
  pub knows : KnowsMore a.table b.table
  pub register : b.proof.register.clauses ≡ a.proof.register.clauses
  pub positions : b.positions.items ≡ a.positions.items
  pub pairs : b.proof.queue.pairs ≡ a.proof.queue.pairs
  pub spare : a.proof.queue.spare ≤ b.proof.queue.spare
  pub jobs : b.jobs.entries ≡ a.jobs.entries
  pub history : events_of b.history ≡ events_of a.history
  pub history_len : vec_len b.history.events ≡ vec_len a.history.events
  pub history_room : vec_capacity a.history.events ≤ vec_capacity b.history.events
  pub notes : b.proof.notes.items ≡ a.proof.notes.items
  pub before : b.notes_before.items ≡ a.notes_before.items
  pub before_len : vec_len b.notes_before ≡ vec_len a.notes_before
  pub before_room : vec_capacity a.notes_before ≤ vec_capacity b.notes_before
  pub steps : b.proof.steps.items ≡ a.proof.steps.items
  pub counted : keys_in b.counted ≡ keys_in a.counted
  pub set_aside : b.set_aside.items ≡ a.set_aside.items
  pub ended : b.proof.ended ≡ a.proof.ended
  pub splits : split_view b.proof.splits ≡ split_view a.proof.splits
  pub asserting : b.proof.asserting.entries ≡ a.proof.asserting.entries
  pub solver : b.solver ≡ a.solver
  pub last_job : b.last_job ≡ a.last_job
  pub place : b.place_in_round ≡ a.place_in_round

-- so they are of another table that knows more
pub learned-all : (bank : Bank) (known learned : Table) (ss : List Registration) → KnowsMore known learned → All (IsOfTable bank known) ss → All (IsOfTable bank learned) ss
learned-all bank known learned ss more of =
    All-weaker (IsOfTable bank known) (IsOfTable bank learned) (λ s is. record { of_bank = is.of_bank; known = more s.clause.literals is.known }) ss of

-- the fields are those of the record where they tell the same
pub kept-proof :
    (bank : Bank) (known learned : Table) (s t : ProofState) (r : PoolRecord)
    → KnowsMore known learned
    → t.register.clauses ≡ s.register.clauses → t.queue.pairs ≡ s.queue.pairs → t.steps.items ≡ s.steps.items → t.ended ≡ s.ended → split_view t.splits ≡ split_view s.splits
    → t.asserting.entries ≡ s.asserting.entries
    → IsProofStateOf bank known s r → IsProofStateOf bank learned t r
kept-proof bank known learned s t r more register queue steps ended splits asserting is = record {
  registered = ap (map registered_at) register ∙ is.registered;
  of_table = subst (All (IsOfTable bank learned)) (sym register) (learned-all bank known learned s.register.clauses more is.of_table);
  registrations = λ n z there. is.registrations n z (ap (λ ss. slice_get ss n) (sym register) ∙ there);
  queue = queue ∙ is.queue;
  steps = steps ∙ is.steps;
  ended = ended ∙ is.ended;
  splits = subst (λ (v : SplitView). AreSplitsOf v r.parts r.lines r.propositional r.model r.modelled) (sym splits) is.splits;
  tags = is.tags;
  asserting = asserting ∙ is.asserting;
  of_registered = is.of_registered;
  no_empty = is.no_empty;
}

kept-state : (a b : Inside) (r : PoolRecord) → KeepsAll a b → IsStateOf a r → IsStateOf b r
kept-state a b r kept is = record {
  proof =
      subst (λ (bank : Bank). IsProofStateOf bank b.table b.proof r) (sym kept.bank)
      (kept-proof a.table.bank a.table b.table a.proof b.proof r kept.knows kept.register kept.pairs kept.steps kept.ended kept.splits kept.asserting is.proof);
  positions = kept.positions ∙ is.positions;
  jobs = kept.jobs ∙ is.jobs;
  counted = kept.counted ∙ is.counted;
  set_aside = kept.set_aside ∙ is.set_aside;
  last_job = kept.last_job ∙ is.last_job;
  place = kept.place ∙ is.place;
  solver = ap (option_map solver_job) kept.solver ∙ is.solver;
  queue_room =
      let room = is.queue_room in let same = ap length kept.register in let pairs = ap length kept.pairs in
      omega (arith, kept.spare, room, same, pairs);
  history_room = let room = is.history_room in omega (arith, kept.history_len, kept.history_room, room);
  notes_room = let room = is.notes_room in omega (arith, kept.before_len, kept.before_room, room);
}

pub kept-pool : (a b : Inside) → IsPool a → KeepsAll a b → IsPool b
kept-pool a b is kept = record {
  inputs = subst (λ (o : Origin). AreInputs o.inputs) (sym kept.origin) is.inputs;
  limit = subst IsLimit (sym same_options) is.limit;
  lawful =
      subst (λ (o : Origin). IsHistoryOf o (events_of b.history)) (sym kept.origin)
      (subst (λ es. IsHistoryOf (origin_of a) es) (sym kept.history) is.lawful);
  state =
      subst (λ (o : Origin). IsStateOf b (replay o (events_of b.history))) (sym kept.origin)
      (subst (λ es. IsStateOf b (replay (origin_of a) es)) (sym kept.history) (kept-state a b (record_of a) kept is.state));
  news = record {
    all =
        ap₂ (λ (ss : List Registration) (ns : List Note). map (change_at ss) ns) kept.register kept.notes
        ∙ is.news.all ∙ sym (whole (events_of b.history) ∙ ap (changes_from a.options (start (origin_of a))) kept.history);
    noted =
        subst (λ ns. All (IsNoted (length b.proof.register.clauses)) ns) (sym kept.notes)
        (subst (λ (ss : List Registration). All (IsNoted (length ss)) a.proof.notes.items) (sym kept.register) is.news.noted);
    count = ap length kept.before ∙ is.news.count ∙ ap length (sym kept.history);
    before = λ k n there.
        is.news.before k n (ap (λ xs. slice_get xs k) (sym kept.before) ∙ there)
        ∙ ap (λ es. length (changes_from a.options (start (origin_of a)) (take k es))) (sym kept.history)
        ∙ ap length (sym (whole (take k (events_of b.history))));
  };
}
  where
    same_options : b.options ≡ a.options
    same_options = ap (λ (o : Origin). o.options) kept.origin

    whole : (es : List Event) → changes_from b.options (start (origin_of b)) es ≡ changes_from a.options (start (origin_of a)) es
    whole es = ap (λ (o : Origin). changes_from o.options (start o) es) kept.origin

-- ---- what is told

-- the changes that were collected from a place on are the news
pub news-told :
    (a : Inside) (told first at : ℕ) (news : List Change)
    → IsPool a → first ≡ length (changes_from a.options (start (origin_of a)) (take told (events_of a.history)))
    → map (change_at a.proof.register.clauses) (take first a.proof.notes.items) ++ map change_of news ≡ map (change_at a.proof.register.clauses) (take at a.proof.notes.items)
    → length a.proof.notes.items ≤ at → map change_of news ≡ news_since (origin_of a) (events_of a.history) told
news-told a told first at news is count so_far whole =
    sym (drop-append_seam front (map change_of news))
    ∙ ap₂ drop long (so_far ∙ ap (map (change_at a.proof.register.clauses)) (take_all at a.proof.notes.items whole) ∙ is.news.all)
    ∙ news-drop (origin_of a) (events_of a.history) told
  where
    front : List TreeChange
    front = map (change_at a.proof.register.clauses) (take first a.proof.notes.items)

    long : length front ≡ length (changes_from a.options (start (origin_of a)) (take told (events_of a.history)))
    long =
        let bound = news-bound (origin_of a) (events_of a.history) told in
        let all : length a.proof.notes.items ≡ length (changes_from a.options (start (origin_of a)) (events_of a.history)) = sym (length-map a.proof.notes.items (change_at a.proof.register.clauses)) ∙ ap length is.news.all in
        length-map (take first a.proof.notes.items) (change_at a.proof.register.clauses) ∙ length-take-le first a.proof.notes.items (omega (arith, bound, all, count)) ∙ count

-- so many were noted before an event
pub count-before :
    (a : Inside) (told first : ℕ) → IsPool a → slice_get a.notes_before.items told ≡ Some first
    → first ≡ length (changes_from a.options (start (origin_of a)) (take told (events_of a.history)))
count-before a told first is there = is.news.before told first there

pub count-all :
    (a : Inside) (told first : ℕ) → IsPool a → length a.notes_before.items ≤ told → first ≡ length a.proof.notes.items
    → first ≡ length (changes_from a.options (start (origin_of a)) (take told (events_of a.history)))
count-all a told first is past all =
    all ∙ sym (length-map a.proof.notes.items (change_at a.proof.register.clauses)) ∙ ap length is.news.all
    ∙ ap (λ es. length (changes_from a.options (start (origin_of a)) es)) (sym (take_all told (events_of a.history) (omega (arith, past, is.news.count))))

-- what a clause says of an answer that is a value
pub at-ok : {T E : Type 0} (result : Result T E) (P : Type 0) (x : T) → result ≡ Ok x → OnOk result P → P
at-ok (Ok y) P x is says = says
at-ok (Err e) P x is says = absurd cc

-- ---- clauses of the bank

pub all-of-bank : (a : Inside) (r : PoolRecord) → IsStateOf a r → AreOfBank a.table.bank a.proof.register.clauses
all-of-bank a r is =
    All-weaker (IsOfTable a.table.bank a.table) (λ (s : Registration). IsClauseOf a.table.bank s.clause) (λ s of_table. of_table.of_bank) a.proof.register.clauses is.proof.of_table

pub one-of-bank :
    (a : Inside) (r : PoolRecord) (n : ℕ) (s : Registration) (made : BankClause)
    → IsStateOf a r → slice_get a.proof.register.clauses n ≡ Some s → made ≡ s.clause → IsClauseOf a.table.bank made
one-of-bank a r n s made is there same =
    subst (IsClauseOf a.table.bank) (sym same) (all-at (λ (s : Registration). IsClauseOf a.table.bank s.clause) a.proof.register.clauses n s (all-of-bank a r is) there)
