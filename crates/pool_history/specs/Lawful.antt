-- Lawful histories: each event is allowed after those before it, and what is returned in it is right.
use Rattle.std.specs.Prelude.{◌≡◌, ◌⊎◌, ℕ, suc, Bool, true, List, [], ◌∷◌, None, Some, IsTrue, IsFalse}
use Rattle.std.specs.List.{list_all}
use Rattle.kernel_steps.specs.Split.{has_number}
use Rattle.sat_core.specs.Answer.{IsRightAnswer}
use Rattle.sat_core.specs.declared.answer.Answer.{Answer}
use Rattle.sat_core.specs.declared.answer.Answer.TheVariants.{Model, Refuted}
use Rattle.pool_history.specs.Record.{PoolRecord, GivenJob, SolverJob, clauses_of, lives, is_dead, given_job}
use Rattle.pool_history.specs.Solving.{must_solve, handed}
use Rattle.pool_history.specs.Claiming.{can_give}
use Rattle.pool_history.specs.Replay.{Origin, after, start}
use Rattle.pool_history.specs.Batches.{IsRightGone, IsRightWork}
use Rattle.pool_history.specs.declared.options.Options.{Options}
use Rattle.pool_history.specs.declared.batch.Removal.{Removal}
use Rattle.pool_history.specs.declared.batch.Work.{Work}
use Rattle.pool_history.specs.declared.batch.Work.TheVariants.{Gone, Met}
use Rattle.pool_history.specs.declared.event.Event.{Event}
use Rattle.pool_history.specs.declared.event.Event.TheVariants.{Claim, Return, Stale, Void, ClaimSolve, ReturnModel, ReturnRefuted, Abandon}

-- a job is out, and this is said of it
pub record IsGivenOut (r : PoolRecord) (job : ℕ) (Says : GivenJob → Type 0) : Type 0 where
  pub given : GivenJob
  pub out : given_job r job ≡ Some given
  pub says : Says given

pub record IsSolverOut (r : PoolRecord) (job : ℕ) (Says : SolverJob → Type 0) : Type 0 where
  pub solver : SolverJob
  pub out : r.solver ≡ Some solver
  pub same : solver.job ≡ job
  pub says : Says solver

-- ---- claims

-- The job has the next number, and the pool is neither refuted nor spent.
abbrev pub IsNextJob : PoolRecord → ℕ → Type 0
IsNextJob r job = (job ≡ suc r.jobs) × (r.ended ≡ None)

-- ---- returns

-- all justifiers by which the given clause goes live
abbrev pub justifiers_live : PoolRecord → Work → Bool
justifiers_live r (Gone m) = list_all (lives r) m.justifiers
justifiers_live r (Met entries removals) = true

-- the job is out, whichever it is
abbrev pub IsOut : PoolRecord → ℕ → Type 0
IsOut r job = IsGivenOut r job (λ j. Unit {0}) ⊎ IsSolverOut r job (λ s. Unit {0})

-- the answer is right for the solver's job that is out
abbrev pub IsRightSolution : PoolRecord → ℕ → Answer → Type 0
IsRightSolution r job answer = IsSolverOut r job (λ s. IsRightAnswer s.names (handed r s) answer)

-- the batch is right for the job, the given clause lives, and where it goes its justifiers do
abbrev pub IsTaken : (ℕ → Bool) → Options → PoolRecord → Work → GivenJob → Type 0
IsTaken is_predicate options r work j =
    IsTrue (lives r j.number) × IsTrue (justifiers_live r work) × IsRightWork is_predicate options (clauses_of r) j work

-- a removal by which the given clause would go is right for the job, but the justifier has died
abbrev pub IsStale : (ℕ → Bool) → Options → PoolRecord → ℕ → GivenJob → Type 0
IsStale is_predicate options r justifier j =
    IsTrue (lives r j.number) × IsTrue (is_dead r justifier)
    × ((m : Removal) × IsTrue (has_number justifier m.justifiers) × IsRightGone is_predicate options (clauses_of r) j m)

-- ---- events

abbrev pub IsAllowed : (ℕ → Bool) → Options → PoolRecord → Event → Type 0
IsAllowed is_predicate options r (Claim job) = IsNextJob r job × IsFalse (must_solve r) × IsTrue (can_give r)
IsAllowed is_predicate options r (Return batch) = IsGivenOut r batch.job (IsTaken is_predicate options r batch.work)
IsAllowed is_predicate options r (Stale job justifier) = IsGivenOut r job (IsStale is_predicate options r justifier)
IsAllowed is_predicate options r (Void job) = IsGivenOut r job (λ j. IsTrue (is_dead r j.number))
IsAllowed is_predicate options r (ClaimSolve job) = IsNextJob r job × IsTrue (must_solve r)
IsAllowed is_predicate options r (ReturnModel job truths) = IsRightSolution r job (Model truths)
IsAllowed is_predicate options r (ReturnRefuted job log) = IsRightSolution r job (Refuted log)
IsAllowed is_predicate options r (Abandon job) = IsOut r job

-- ---- histories

abbrev pub IsLawfulFrom : (ℕ → Bool) → Options → PoolRecord → List Event → Type 0
IsLawfulFrom is_predicate options r [] = Unit {0}
IsLawfulFrom is_predicate options r (e ∷ es) =
    IsAllowed is_predicate options r e × IsLawfulFrom is_predicate options (after options r e) es

abbrev pub IsLawful : (ℕ → Bool) → Origin → List Event → Type 0
IsLawful is_predicate origin history = IsLawfulFrom is_predicate origin.options (start origin) history
