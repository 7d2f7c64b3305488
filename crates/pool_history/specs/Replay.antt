-- The replay of a history: event by event, from the first on.
use Rattle.std.specs.Prelude.{ℕ, ◌+◌, ◌==◌, if◌then◌else◌, List, map, fold, Option, None, Some}
use Rattle.fol_base.specs.Clause.{TreeClause}
use Rattle.pool_history.specs.Record.{PoolRecord, GivenJob, SolverJob, nothing_registered, without_job, told_now}
use Rattle.pool_history.specs.Registering.{with_inputs}
use Rattle.pool_history.specs.Returning.{returned}
use Rattle.pool_history.specs.Solving.{solver_claimed, model_returned, refutation_returned}
use Rattle.pool_history.specs.Claiming.{claimed}
use Rattle.pool_history.specs.declared.options.Options.{Options}
use Rattle.pool_history.specs.declared.event.Event.{Event}
use Rattle.pool_history.specs.declared.event.Event.TheVariants.{Claim, Return, Stale, Void, ClaimSolve, ReturnModel, ReturnRefuted, Abandon}

-- the beginning of a pool: its input clauses and its options
pub record Origin : Type 0 where
  pub inputs : List TreeClause
  pub options : Options

-- ---- the jobs that no batch ends

-- the job is told anew: it gets the clauses that are told after this event
abbrev pub retold : PoolRecord → GivenJob → GivenJob
retold r j = record j { told = told_now r; as_of = r.events + 1 }

abbrev pub told_anew : ℕ → PoolRecord → PoolRecord
told_anew job r = record r { given = map (λ (j : GivenJob). if j.job == job then retold r j else j) r.given }

-- the job of the given clause is no longer out
abbrev pub dismissed : ℕ → PoolRecord → PoolRecord
dismissed job r = record r { given = without_job job r.given }

abbrev pub without_solver : ℕ → Option SolverJob → Option SolverJob
without_solver job None = None
without_solver job (Some s) = if s.job == job then None else Some s

-- the job is no longer out, whichever it is; a given clause that lives waits again, with its position
abbrev pub abandoned : ℕ → PoolRecord → PoolRecord
abandoned job r = record r { given = without_job job r.given; solver = without_solver job r.solver }

-- ---- events

abbrev pub change_by : Options → Event → PoolRecord → PoolRecord
change_by options (Claim job) r = claimed options job r
change_by options (Return batch) r = returned options batch r
change_by options (Stale job justifier) r = told_anew job r
change_by options (Void job) r = dismissed job r
change_by options (ClaimSolve job) r = solver_claimed job r
change_by options (ReturnModel job truths) r = model_returned truths r
change_by options (ReturnRefuted job log) r = refutation_returned log r
change_by options (Abandon job) r = abandoned job r

-- an event, which counts as one more
abbrev pub with_events : ℕ → PoolRecord → PoolRecord
with_events count r = record r { events = count }

abbrev pub after : Options → PoolRecord → Event → PoolRecord
after options r e = with_events (r.events + 1) (change_by options e r)

-- the inputs are registered in order
abbrev pub start : Origin → PoolRecord
start origin = with_inputs origin.options.split 0 origin.inputs nothing_registered

abbrev pub replay : Origin → List Event → PoolRecord
replay origin history = fold (after origin.options) (start origin) history
