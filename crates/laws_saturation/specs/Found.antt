-- The findings of the returns of a history: the names of the entries of each batch, with the clause of its job.
use Rattle.std.specs.Prelude.{ℕ, Bool, Contains, IsTrue, ◌&&◌, nat_le, List, [], ◌∷◌, ◌++◌, map, Option, None, Some}
use Rattle.std.specs.List.{list_all}
use Rattle.kernel_steps.specs.Split.{has_number}
use Rattle.kernel_steps.specs.declared.key.Key.{Key}
use Rattle.pool_history.specs.Record.{PoolRecord, GivenJob, given_job, position_of}
use Rattle.pool_history.specs.Counting.{keys_of}
use Rattle.pool_history.specs.Outcomes.{premises}
use Rattle.pool_history.specs.Replay.{Origin, start, after}
use Rattle.pool_history.specs.declared.options.Options.{Options}
use Rattle.pool_history.specs.declared.batch.Work.{Work}
use Rattle.pool_history.specs.declared.batch.Work.TheVariants.{Gone, Met}
use Rattle.pool_history.specs.declared.event.Event.{Event}
use Rattle.pool_history.specs.declared.event.Event.TheVariants.{Return}

-- an inference by its name, and the clause whose job found it
pub record Find : Type 0 where
  pub by : ℕ
  pub key : Key

abbrev pub finds_by : Option GivenJob → Work → List Find
finds_by None work = []
finds_by (Some j) (Gone m) = []
finds_by (Some j) (Met entries removals) = map (λ (key : Key). record { by = j.number; key = key }) (keys_of entries)

abbrev pub event_finds : PoolRecord → Event → List Find
event_finds r (Return batch) = finds_by (given_job r batch.job) batch.work
event_finds r e = []

abbrev pub finds_from : Options → PoolRecord → List Event → List Find
finds_from options r [] = []
finds_from options r (e ∷ es) = event_finds r e ++ finds_from options (after options r e) es

abbrev pub finds_of : Origin → List Event → List Find
finds_of origin history = finds_from origin.options (start origin) history

-- of an inference's premises it is the one of the latest position
abbrev pub is_last_premise : PoolRecord → ℕ → Key → Bool
is_last_premise r last key = has_number last (premises key) && list_all (λ n. nat_le (position_of r n) (position_of r last)) (premises key)

-- The inference was counted and not set aside, and the job of its last premise found it.
pub record WasMet (r : PoolRecord) (finds : List Find) (key : Key) : Type 0 where
  pub counted : Contains r.counted key
  pub not_aside : Contains r.set_aside key → ⊥
  pub last : ℕ
  pub is_last : IsTrue (is_last_premise r last key)
  pub found : Contains finds (record { by = last; key = key })
