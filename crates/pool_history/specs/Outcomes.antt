-- The outcomes of a pool, each with its one cause.
use Rattle.std.specs.Prelude.{ℕ, Bool, not, ◌&&◌, ◌==◌, if◌then◌else◌, List, [], ◌∷◌, position, Option, None, Some}
use Rattle.std.specs.List.{list_all}
use Rattle.kernel_steps.specs.declared.key.Key.{Key}
use Rattle.kernel_steps.specs.declared.key.Key.TheVariants.{Para, Refl, Factor, Replaced}
use Rattle.pool_history.specs.Record.{PoolRecord, lives, is_awake, jobs_out}
use Rattle.pool_history.specs.Solving.{must_solve}
use Rattle.pool_history.specs.Claiming.{can_give}
use Rattle.pool_history.specs.declared.outcome.Outcome.{Outcome}
use Rattle.pool_history.specs.declared.outcome.Outcome.TheVariants.{Saturated, Heavy}

-- the clauses that take part in an inference
abbrev pub premises : Key → List ℕ
premises (Para first from from_side second into into_side place) = first ∷ second ∷ []
premises (Refl clause literal) = clause ∷ []
premises (Factor clause becomes becomes_side other other_side) = clause ∷ []
premises (Replaced clause) = clause ∷ []

-- all of them live and are awake
abbrev pub is_of_living : PoolRecord → Key → Bool
is_of_living r key = list_all (λ n. lives r n && is_awake r n) (premises key)

-- an inference of living awake clauses that was set aside, the first, or else the living awake clauses are saturated
abbrev pub heavy_or_saturated : Option ℕ → Outcome
heavy_or_saturated None = Saturated
heavy_or_saturated (Some place) = Heavy place

-- nothing is to be solved or given, and no job is out
abbrev pub is_at_rest : PoolRecord → Bool
is_at_rest r = not (must_solve r) && (not (can_give r) && (jobs_out r == 0))

abbrev pub outcome_by : Option Outcome → PoolRecord → Option Outcome
outcome_by (Some o) r = Some o
outcome_by None r = if is_at_rest r then Some (heavy_or_saturated (position (is_of_living r) r.set_aside)) else None

-- refuted or spent; or, where nothing is left to do, heavy or saturated
abbrev pub outcome_of : PoolRecord → Option Outcome
outcome_of r = outcome_by r.ended r
