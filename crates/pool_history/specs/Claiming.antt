-- Claims of given clauses.
use Rattle.std.specs.Prelude.{ℕ, ◌+◌, ◌-◌, ◌%◌, Bool, ◌&&◌, ◌==◌, nat_lt, if◌then◌else◌, List, [], ◌∷◌, ◌++◌, filter, length, Option, None, Some, is_some}
use Rattle.std.specs.List.{best_of}
use Rattle.fol_base.specs.Clause.{clause_size}
use Rattle.kernel_steps.specs.Split.{has_number}
use Rattle.clause_queue.specs.declared.choice.Choice.{Choice}
use Rattle.clause_queue.specs.declared.choice.Choice.TheVariants.{Light, Old}
use Rattle.pool_history.specs.Record.{PoolRecord, GivenJob, clause_numbered, numbers_of, waits, is_awake, told_now}
use Rattle.pool_history.specs.declared.options.Options.{Options}

-- the clauses that wait and are awake, rising
abbrev pub ready : PoolRecord → List ℕ
ready r = filter (λ n. waits r n && is_awake r n) (numbers_of r)

-- a clause that waits, with its size
abbrev pub pair_of : PoolRecord → ℕ → ℕ × ℕ
pair_of r n = (n, clause_size (clause_numbered r n))

-- of each six given claims the first five pick light, the sixth old
abbrev pub next_choice : PoolRecord → Choice
next_choice r = if (r.claims % 6) == 5 then Old else Light

abbrev pub is_lighter : PoolRecord → ℕ → ℕ → Bool
is_lighter r n m = nat_lt (clause_size (clause_numbered r n)) (clause_size (clause_numbered r m))

-- of numbers that rise the one of the clause of least size, ties to the lower number, or the lowest number
abbrev pub picked : PoolRecord → Choice → List ℕ → Option ℕ
picked r choice [] = None
picked r Light (n ∷ ns) = Some (best_of (is_lighter r) n ns)
picked r Old (n ∷ ns) = Some n

-- the clause that is given next
abbrev pub next_given : PoolRecord → Option ℕ
next_given r = picked r (next_choice r) (ready r)

abbrev pub can_give : PoolRecord → Bool
can_give r = is_some (next_given r)

-- at its first claim a clause gets the next position
abbrev pub activated : ℕ → PoolRecord → PoolRecord
activated n r = if has_number n r.positions then r else record r { positions = r.positions ++ n ∷ [] }

-- a job on a clause: it gets the clauses that are told after this event, and the number of inferences that may still be counted
abbrev pub new_job : Options → ℕ → ℕ → PoolRecord → GivenJob
new_job options job n r = record {
  job = job;
  number = n;
  told = told_now r;
  as_of = r.events + 1;
  left = options.inferences - length r.counted;
}

abbrev pub given_out : Options → ℕ → ℕ → PoolRecord → PoolRecord
given_out options job n r = record r {
  given = r.given ++ new_job options job n r ∷ [];
  jobs = job;
  claims = r.claims + 1;
}

abbrev pub claimed_by : Options → ℕ → Option ℕ → PoolRecord → PoolRecord
claimed_by options job None r = r
claimed_by options job (Some n) r = given_out options job n (activated n r)

abbrev pub claimed : Options → ℕ → PoolRecord → PoolRecord
claimed options job r = claimed_by options job (next_given r) r
