-- A pool after an event in which nothing is registered, activated or counted, and no clause dies: jobs come and go, and so do models.
use Rattle.std.proofs.Common.{◌≡◌, ℕ, ◌+◌, ◌≤◌, ◌%◌, Bool, List, [], ◌∷◌, ◌++◌, map, length, drop, append-nil, ap, ap₂, sym, ◌∙◌, subst}
use Rattle.std.specs.Prelude.{Option, option_map, vec_len, vec_capacity, All}
use Rattle.std.proofs.Math.Seq.{drop-length}
use Rattle.term_bank.specs.declared.bank.Bank.{Bank}
use Rattle.term_bank.specs.declared.table.Table.{Table}
use Rattle.pool_history.specs.Record.{PoolRecord, SolverJob, Death, clause_numbered, jobs_out}
use Rattle.pool_history.specs.Lawful.{IsAllowed}
use Rattle.pool_history.specs.News.{TreeChange, changes_between}
use Rattle.pool_history.specs.Replay.{after}
use Rattle.pool_history.specs.declared.event.Event.{Event}
use Rattle.pool_core.specs.CountedList.{keys_in}
use Rattle.pool_core.specs.KeptEvents.{events_of}
use Rattle.pool_core.specs.Noted.{IsNoted}
use Rattle.pool_core.specs.Started.{registered_at}
use Rattle.pool_core.specs.State.{origin_of, HasNodes, IsProofStateOf, IsStateOf, IsPool, job_entry, solver_job}
use Rattle.pool_core.specs.declared.pool.ProofState.{ProofState}
use Rattle.pool_core.specs.declared.pool.Pool.TheInside.{Inside}
use Rattle.pool_core.proofs.AboutClaims.StateLemmas.{record_of, one-more-event}

-- what such an event leaves of the record
pub record IsQuiet (r s : PoolRecord) : Type 0 where
  pub positions : s.positions ≡ r.positions
  pub deaths : s.deaths ≡ r.deaths
  pub claims : s.claims ≡ r.claims
  pub counted : s.counted ≡ r.counted
  pub set_aside : s.set_aside ≡ r.set_aside

-- what it leaves of the pool, and its place in the history
pub record IsQuietBy (a b : Inside) (e : Event) : Type 0 where
  pub origin : origin_of b ≡ origin_of a
  pub register : b.proof.register.clauses ≡ a.proof.register.clauses
  pub positions : b.positions.items ≡ a.positions.items
  pub history : events_of b.history ≡ events_of a.history ++ e ∷ []
  pub notes : b.proof.notes.items ≡ a.proof.notes.items
  pub before : b.notes_before.items ≡ a.notes_before.items ++ length a.proof.notes.items ∷ []
  pub counted : keys_in b.counted ≡ keys_in a.counted
  pub set_aside : b.set_aside.items ≡ a.set_aside.items
  pub place : b.place_in_round ≡ a.place_in_round

-- the jobs that are out, with room for their events when they are given up, and the nodes of the queue
pub record HasJobs (b : Inside) (s : PoolRecord) : Type 0 where
  pub jobs : b.jobs.entries ≡ map job_entry s.given
  pub solver : option_map solver_job b.solver ≡ s.solver
  pub last_job : b.last_job ≡ s.jobs
  pub queue_room : HasNodes b.proof 0
  pub history_room : vec_len b.history.events + jobs_out s ≤ vec_capacity b.history.events
  pub notes_room : vec_len b.notes_before + jobs_out s ≤ vec_capacity b.notes_before

pub quiet-pool :
    (a b : Inside) (e : Event) (s : PoolRecord)
    → IsPool a → after a.options (record_of a) e ≡ s
    → ((is_predicate : ℕ → Bool) → IsAllowed is_predicate a.options (record_of a) e)
    → IsQuiet (record_of a) s → IsQuietBy a b e → HasJobs b s → IsProofStateOf b.table.bank b.table b.proof s
    → IsPool b
quiet-pool a b e s is comes allowed quiet by has proof =
    one-more-event a b e [] is by.origin by.history allowed
    (subst (IsStateOf b) (sym comes) state)
    (ap (map registered_at) by.register)
    (by.notes ∙ sym (append-nil a.proof.notes.items))
    (sym (ap (changes_between r) comes ∙ nothing-new))
    (subst (All (IsNoted (length a.proof.register.clauses))) (sym by.notes) is.news.noted)
    by.before
  where
    r : PoolRecord
    r = record_of a

    state : IsStateOf b s
    state = record {
      proof = proof;
      positions = by.positions ∙ is.state.positions ∙ sym quiet.positions;
      jobs = has.jobs;
      counted = by.counted ∙ is.state.counted ∙ sym quiet.counted;
      set_aside = by.set_aside ∙ is.state.set_aside ∙ sym quiet.set_aside;
      last_job = has.last_job;
      place = by.place ∙ is.state.place ∙ ap (λ k. k % 6) (sym quiet.claims);
      solver = has.solver;
      queue_room = has.queue_room;
      history_room = has.history_room;
      notes_room = has.notes_room;
    }

    nothing-new : changes_between r s ≡ []
    nothing-new =
        ap₂ (λ (ns : List ℕ) (ds : List Death). map (λ k. TreeChange.activated k (clause_numbered s k)) ns ++ map (λ (d : Death). TreeChange.died d.victim) ds)
        (ap (drop (length r.positions)) quiet.positions ∙ drop-length r.positions)
        (ap (drop (length r.deaths)) quiet.deaths ∙ drop-length r.deaths)

-- what is kept for the work of batches doesn't tell of the solver's job, nor how many jobs and events there were
pub recast :
    (bank : Bank) (table : Table) (s : ProofState) (r : PoolRecord) (solver : Option SolverJob) (jobs events : ℕ)
    → IsProofStateOf bank table s r → IsProofStateOf bank table s (record r { solver = solver; jobs = jobs; events = events })
recast bank table s r solver jobs events is = record {
  registered = is.registered;
  of_table = is.of_table;
  registrations = λ n z there. let was = is.registrations n z there in record { position = was.position; death = was.death; active = was.active };
  queue = is.queue;
  steps = is.steps;
  ended = is.ended;
  splits = is.splits;
  tags = is.tags;
  asserting = is.asserting;
  of_registered = let told = is.of_registered in
      record { positions = told.positions; active = told.active; given = told.given; placed = told.placed; victims = told.victims };
  no_empty = is.no_empty;
}
