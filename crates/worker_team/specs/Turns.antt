-- What a worker's turn adds to the history of the pool, and at which places.
use Rattle.std.specs.Prelude.{◌≡◌, ◌⊎◌, ℕ, suc, ◌≤◌, Bool, false, ◌==◌, List, [], ◌∷◌, ◌++◌, length, Some, slice_get, IsTrue}
use Rattle.std.specs.List.{list_all}
use mathlib.Core.List.{IsPrefix}
use Rattle.turn_lock.specs.Shown.{Known}
use Rattle.pool_history.specs.declared.event.Event.{Event}
use Rattle.pool_history.specs.declared.event.Event.TheVariants.{Claim, Return, Stale, Void, ClaimSolve, ReturnModel, ReturnRefuted, Abandon}

-- The entries stand in the list at these places, in order. The places rise, from the bound on.
abbrev pub StandAt : {E : Type 0} → List E → ℕ → List ℕ → List E → Type 0
StandAt list bound [] [] = Unit {0}
StandAt list bound (place ∷ places) (e ∷ es) = (bound ≤ place) × (slice_get list place ≡ Some e) × StandAt list (suc place) places es
StandAt list bound [] (e ∷ es) = ⊥
StandAt list bound (place ∷ places) [] = ⊥

-- The pass is of the same lock, with the same shares, and has seen more. It owns further places, which rise, with these entries.
pub record Adds {E O : Type 0} (before after : Known E O) (mine : List E) : Type 0 where
  pub lock : after.lock ≡ before.lock
  pub shares : after.shares ≡ before.shares
  pub start : after.start ≡ before.start
  pub origin : after.origin ≡ before.origin
  pub seen : IsPrefix before.seen after.seen
  pub places : List ℕ
  pub own : after.own ≡ before.own ++ places
  pub there : StandAt after.seen (length before.seen) places mine

-- ---- events of one job

-- a return that is refused, since a justifier has died
abbrev pub is_stale_of : ℕ → Event → Bool
is_stale_of job (Stale other justifier) = other == job
is_stale_of job e = false

-- a return that ends a job on a clause
abbrev pub is_return_of : ℕ → Event → Bool
is_return_of job (Return batch) = batch.job == job
is_return_of job (Void other) = other == job
is_return_of job e = false

-- an answer of the solver
abbrev pub is_solution_of : ℕ → Event → Bool
is_solution_of job (ReturnModel other truths) = other == job
is_solution_of job (ReturnRefuted other log) = other == job
is_solution_of job e = false

abbrev pub is_abandon_of : ℕ → Event → Bool
is_abandon_of job (Abandon other) = other == job
is_abandon_of job e = false

-- ---- the events of a turn

-- the claim of a job on a clause, any number of stale returns, and one event that ends the job
pub record IsClauseTurn (ends : ℕ → Event → Bool) (mine : List Event) : Type 0 where
  pub job : ℕ
  pub refused : List Event
  pub stale : IsTrue (list_all (is_stale_of job) refused)
  pub last : Event
  pub ended : IsTrue (ends job last)
  pub events : mine ≡ Claim job ∷ refused ++ last ∷ []

-- the claim of the solver's job, and one event that ends it
pub record IsSolverTurn (ends : ℕ → Event → Bool) (mine : List Event) : Type 0 where
  pub job : ℕ
  pub last : Event
  pub ended : IsTrue (ends job last)
  pub events : mine ≡ ClaimSolve job ∷ last ∷ []

-- a turn that was done: no event, or a job that was brought back
abbrev pub IsDoneTurn : List Event → Type 0
IsDoneTurn mine = (mine ≡ []) ⊎ (IsSolverTurn is_solution_of mine ⊎ IsClauseTurn is_return_of mine)

-- a turn that ended out of memory: no event, or a job that was given up
abbrev pub IsBrokenTurn : List Event → Type 0
IsBrokenTurn mine = (mine ≡ []) ⊎ (IsSolverTurn is_abandon_of mine ⊎ IsClauseTurn is_abandon_of mine)
