-- What a pool keeps: each field is what the replay of its history has.
use Rattle.std.specs.Prelude.{◌≡◌, ℕ, ◌+◌, ◌<◌, ◌≤◌, ◌%◌, ◌==◌, true, false, map, length, take, position, slice_get, None, Some, option_map, vec_len, vec_capacity, All}
use Rattle.fol_base.specs.Literal.{clause_of}
use Rattle.kernel_steps.specs.Split.{has_number}
use Rattle.kernel_steps.specs.declared.step.Line.{Line}
use Rattle.term_bank.specs.declared.bank.Bank.{Bank}
use Rattle.term_bank.specs.declared.table.Table.{Table}
use Rattle.pool_history.specs.View.{PoolView}
use Rattle.pool_core.specs.CountedList.{keys_in}
use Rattle.pool_core.specs.KeptEvents.{events_of}
use Rattle.pool_history.specs.Record.{PoolRecord, Registered, Death, GivenJob, SolverJob, jobs_out}
use Rattle.pool_history.specs.Registering.{has_none}
use Rattle.pool_history.specs.Claiming.{pair_of, ready}
use Rattle.pool_history.specs.Replay.{Origin, start, replay}
use Rattle.pool_history.specs.News.{changes_from}
use Rattle.pool_core.specs.Noted.{IsNoted, change_at}
use Rattle.pool_history.specs.Answers.{death_of}
use Rattle.pool_history.specs.Inputs.{AreInputs, IsLimit, IsHistoryOf}
use Rattle.pool_core.specs.Splits.{HasTags, AreSplitsOf, split_view}
use Rattle.pool_core.specs.Asserting.{assertions_from}
use Rattle.pool_core.specs.Started.{registered_at, IsOfTable}
use Rattle.clause_register.specs.declared.register.Registration.{Registration}
use Rattle.pool_core.specs.declared.pool.OutJob.{OutJob}
use Rattle.pool_core.specs.declared.pool.SolverOut.{SolverOut}
use Rattle.pool_core.specs.declared.pool.ProofState.{ProofState}
use Rattle.pool_core.specs.declared.pool.Pool.TheInside.{Inside}

abbrev pub origin_of : Inside → Origin
origin_of a = record { inputs = map clause_of a.inputs.value; options = a.options }

abbrev pub view_of : Inside → PoolView
view_of a = record { bank = a.table.bank; origin = origin_of a; history = events_of a.history }

-- ---- parts

-- what became of the clause of a number
pub record IsRegistration (r : PoolRecord) (n : ℕ) (s : Registration) : Type 0 where
  pub position : s.position ≡ position (λ m. n == m) r.positions
  pub death : s.death ≡ death_of r n
  pub active : s.is_active ≡ has_number n r.active

-- a job that is out, by its number
abbrev pub job_entry : GivenJob → ℕ × OutJob
job_entry j = (j.job, record { number = j.number; left = j.left })

-- the solver's job that is out
abbrev pub solver_job : SolverOut → SolverJob
solver_job s = record { job = s.job; clauses = s.clauses; names = s.names }

-- ---- what the work of batches changes

-- the numbers of which something is told are of registered clauses, and those whose jobs are out have a position
pub record AreOfRegistered (r : PoolRecord) : Type 0 where
  pub positions : All (λ n. n < length r.registered) r.positions
  pub active : All (λ n. n < length r.registered) r.active
  pub given : All (λ (j : GivenJob). j.number < length r.registered) r.given
  pub placed : All (λ (j : GivenJob). has_number j.number r.positions ≡ true) r.given
  pub victims : All (λ (d : Death). d.victim < length r.registered) r.deaths

-- the fields are those of the record, whose table is this one of the bank
pub record IsProofStateOf (bank : Bank) (table : Table) (s : ProofState) (r : PoolRecord) : Type 0 where
  pub registered : map registered_at s.register.clauses ≡ r.registered
  pub of_table : All (IsOfTable bank table) s.register.clauses
  pub registrations : (n : ℕ) (z : Registration) → slice_get s.register.clauses n ≡ Some z → IsRegistration r n z
  pub queue : s.queue.pairs ≡ map (pair_of r) (ready r)
  pub steps : s.steps.items ≡ map (λ (l : Line). l.step) r.lines
  pub ended : s.ended ≡ r.ended
  pub splits : AreSplitsOf (split_view s.splits) r.parts r.lines r.propositional r.model r.modelled
  pub tags : All (HasTags (length r.parts)) r.registered
  pub asserting : s.asserting.entries ≡ assertions_from 0 r.registered
  pub of_registered : AreOfRegistered r
  -- the empty clause ends the pool
  pub no_empty : r.ended ≡ None → All (λ (c : Registered). has_none c.clause.literals ≡ false) r.registered

-- each clause asserts tags of parts
abbrev pub AreTagged : ProofState → Type 0
AreTagged s =
    (n : ℕ) (z : Registration) → slice_get s.register.clauses n ≡ Some z → All (λ tag. tag < length s.splits.parts.parts) z.clause.names

-- The queue has a node for each registered clause and for so many more. A clause that sleeps, is out or is done doesn't stand in it, and leaves
-- its node free: so a clause that wakes or is given up finds one.
abbrev pub HasNodes : ProofState → ℕ → Type 0
HasNodes s more = length s.register.clauses + more ≤ length s.queue.pairs + s.queue.spare

-- room for clauses that are registered, and for their assertions
pub record HasPlaces (s : ProofState) (clauses assertions : ℕ) : Type 0 where
  pub register : clauses ≤ s.register.spare
  pub queue : HasNodes s clauses
  pub index : assertions ≤ s.asserting.spare

-- ---- the whole

-- the fields are those of the record
pub record IsStateOf (a : Inside) (r : PoolRecord) : Type 0 where
  pub proof : IsProofStateOf a.table.bank a.table a.proof r
  pub positions : a.positions.items ≡ r.positions
  pub jobs : a.jobs.entries ≡ map job_entry r.given
  pub counted : keys_in a.counted ≡ r.counted
  pub set_aside : a.set_aside.items ≡ r.set_aside
  pub last_job : a.last_job ≡ r.jobs
  pub place : a.place_in_round ≡ r.claims % 6
  pub solver : option_map solver_job a.solver ≡ r.solver
  pub queue_room : HasNodes a.proof 0
  -- there is room for what a job that is given up needs
  pub history_room : vec_len a.history.events + jobs_out r ≤ vec_capacity a.history.events
  pub notes_room : vec_len a.notes_before + jobs_out r ≤ vec_capacity a.notes_before

-- the activations and deaths of the history, with how many came before each event
pub record HasNews (a : Inside) : Type 0 where
  pub all : map (change_at a.proof.register.clauses) a.proof.notes.items ≡ changes_from a.options (start (origin_of a)) (events_of a.history)
  pub noted : All (IsNoted (length a.proof.register.clauses)) a.proof.notes.items
  pub count : length a.notes_before.items ≡ length (events_of a.history)
  pub before :
      (k n : ℕ) → slice_get a.notes_before.items k ≡ Some n
      → n ≡ length (changes_from a.options (start (origin_of a)) (take k (events_of a.history)))

pub record IsPool (a : Inside) : Type 0 where
  pub inputs : AreInputs (origin_of a).inputs
  pub limit : IsLimit a.options
  pub lawful : IsHistoryOf (origin_of a) (events_of a.history)
  pub state : IsStateOf a (replay (origin_of a) (events_of a.history))
  pub news : HasNews a
