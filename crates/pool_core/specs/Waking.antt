-- Clauses that wake or fall asleep under a new model, one after another. Only private functions cite this.
use mathlib.Core.Bool.{beq}
use Rattle.std.specs.Prelude.{◌≡◌, ℕ, ◌<◌, ◌≤◌, ◌==◌, Bool, true, not, ◌&&◌, List, map, filter, Some, slice_get, ◌⊎◌, if◌then◌else◌}
use Rattle.fol_base.specs.Clause.{TreeLiteral}
use Rattle.sat_core.specs.Clause.{valuation_of}
use Rattle.term_bank.specs.declared.bank.Bank.{Bank}
use Rattle.term_bank.specs.declared.table.Table.{Table}
use Rattle.pool_history.specs.Claiming.{pair_of, ready}
use Rattle.pool_history.specs.Record.{PoolRecord, numbers_of, waits, is_awake}
use Rattle.pool_history.specs.Tags.{name_of_tag}
use Rattle.pool_core.specs.Placing.{with_queue}
use Rattle.pool_core.specs.State.{IsProofStateOf, job_entry}
use Rattle.pool_core.specs.declared.pool.OutJob.{OutJob}
use Rattle.pool_core.specs.declared.pool.ProofState.{ProofState}
use Rattle.pool_core.specs.declared.tag_index.Assertion.{Assertion}

-- the clauses that wait, and are awake by this test
abbrev pub ready_by : (ℕ → Bool) → PoolRecord → List ℕ
ready_by awake r = filter (λ n. waits r n && awake n) (numbers_of r)

-- The fields are those of the record with these jobs, but that the queue has the clauses that wait and are awake by the test.
pub record IsWakingStateOf (bank : Bank) (table : Table) (s : ProofState) (jobs : List (ℕ × OutJob)) (awake : ℕ → Bool) (r : PoolRecord) : Type 0 where
  pub proof : IsProofStateOf bank table (with_queue (map (pair_of r) (ready r)) s) r
  pub queue : s.queue.pairs ≡ map (pair_of r) (ready_by awake r)
  pub given : jobs ≡ map job_entry r.given

abbrev pub IsSomeWaking : ProofState → List (ℕ × OutJob) → Type 0
IsSomeWaking s jobs =
    (bank : Bank) × (table : Table) × (awake : ℕ → Bool) × (r : PoolRecord) × IsWakingStateOf bank table s jobs awake r

-- the test of a clause that was looked at anew is the record's
abbrev pub looked_at : PoolRecord → ℕ → (ℕ → Bool) → ℕ → Bool
looked_at r n awake k = if k == n then is_awake r k else awake k

-- no assertion from a place on is of the tag and of the number
abbrev pub AssertsNoneFrom : ℕ → List Assertion → ℕ → ℕ → Type 0
AssertsNoneFrom from entries tag n =
    (place : ℕ) (a : Assertion) → from ≤ place → slice_get entries place ≡ Some a → a.tag ≡ tag → a.number ≡ n → ⊥

-- the name of a tag has another value than before
abbrev pub flips : List Bool → List Bool → List (List TreeLiteral) → ℕ → Bool
flips before now parts tag =
    not (beq (valuation_of before (name_of_tag parts tag).name) (valuation_of now (name_of_tag parts tag).name))

-- no clause of the number asserts one of the first tags whose name flips
abbrev pub AssertsNoFlip : ℕ → List Bool → ProofState → ℕ → Type 0
AssertsNoFlip count before s n =
    (tag : ℕ) → tag < count → flips before s.splits.model s.splits.parts.parts tag ≡ true → AssertsNoneFrom 0 s.asserting.entries tag n

-- the clauses that were looked at are awake as in the record; the others, of which something is known, are as they were
abbrev pub AreLookedAt : PoolRecord → (ℕ → Bool) → (ℕ → Bool) → (ℕ → Type 0) → Type 0
AreLookedAt r before now Unseen = (k : ℕ) → (now k ≡ is_awake r k) ⊎ ((now k ≡ before k) × Unseen k)
