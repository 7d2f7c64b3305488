-- The job of an event.
use Rattle.std.specs.Prelude.{ℕ}
use Rattle.pool_history.specs.declared.event.Event.{Event}
use Rattle.pool_history.specs.declared.event.Event.TheVariants.{Claim, Return, Stale, Void, ClaimSolve, ReturnModel, ReturnRefuted, Abandon}

-- the job of an event: the one that was given out by it, or that came back in it
abbrev pub job_of : Event → ℕ
job_of (Claim job) = job
job_of (Return batch) = batch.job
job_of (Stale job justifier) = job
job_of (Void job) = job
job_of (ClaimSolve job) = job
job_of (ReturnModel job truths) = job
job_of (ReturnRefuted job log) = job
job_of (Abandon job) = job
