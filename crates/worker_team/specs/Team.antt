-- A turn of a worker as a whole, and a team.
use Rattle.std.specs.Prelude.{◌≡◌, ℕ, ◌<◌, Bool, not, List, [], Option, Result, All, IfOk, OnErr, IsFalse, ⊤, None, Some, length}
use Rattle.plain_types.specs.declared.memory.NoMemory.{NoMemory}
use Rattle.term_bank.specs.declared.bank.Bank.{Bank}
use Rattle.turn_lock.specs.Shown.{TableId}
use Rattle.pool_history.specs.View.{PoolView}
use Rattle.pool_history.specs.Record.{jobs_out}
use Rattle.pool_history.specs.Claiming.{can_give}
use Rattle.pool_history.specs.Solving.{must_solve}
use Rattle.pool_history.specs.declared.event.Event.{Event}
use Rattle.worker_team.specs.Turns.{Adds, IsDoneTurn, IsBrokenTurn}
use Rattle.worker_team.specs.Passes.{PoolPass, IsPassOf, record_of, stands_for}
use Rattle.worker_team.specs.Workers.{HasPass, IsReady}
use Rattle.worker_team.specs.Jobs.{IsKnown}
use Rattle.worker_team.specs.declared.job.Known.{Known}
use Rattle.worker_team.specs.declared.worker.Worker.{Worker}
use Rattle.worker_team.specs.declared.team.Begun.{Begun}
use Rattle.worker_team.specs.declared.team.Begun.TheVariants.{Apart, Ended}

-- No outcome stands, nothing is to be solved or given, and jobs are out.
abbrev pub Waits : PoolPass → Type 0
Waits pass =
    let r = record_of pass in IsFalse (stands_for pass) × IsFalse (must_solve r) × IsFalse (can_give r) × (0 < jobs_out r)

-- A turn was done: its events are those of one job that was brought back, or none. Where there is none and no outcome stands, there was nothing to
-- do but to wait.
pub record IsDone (before after : PoolPass) (stands : Bool) : Type 0 where
  pub mine : List Event
  pub events : IsDoneTurn mine
  pub adds : Adds before after mine
  pub outcome : stands ≡ stands_for after
  pub waits : mine ≡ [] → IsFalse stands → Waits after

-- A turn ended out of memory.
pub record IsBroken (before after : PoolPass) : Type 0 where
  pub mine : List Event
  pub events : IsBrokenTurn mine
  pub adds : Adds before after mine

pub record HasEndedTurn (bank : Bank) (before after : PoolPass) (turned : Result Known NoMemory) : Type 0 where
  pub pass : IsPassOf bank after
  pub known : IfOk turned (IsKnown bank after)
  pub done : IfOk turned (λ k. IsDone before after k.stands)
  pub broken : OnErr turned (IsBroken before after)

-- Where a worker waits, nothing was to be done but that, and it knows how many events its pass has seen.
abbrev pub IsIdleAt : PoolPass → Option ℕ → Type 0
IsIdleAt after None = ⊤
IsIdleAt after (Some events) = (events ≡ length after.seen) × Waits after

-- The worker has a pass of the lock still, and after a turn that was done it can take another one. It goes on exactly where no outcome stands on
-- the history that its pass has seen.
pub record HasTakenTurn (lock : TableId) (bank : Bank) (old new : Worker) (goes_on : Result Bool NoMemory) : Type 0 where
  pub before : PoolPass
  pub had : HasPass lock bank old before
  pub after : PoolPass
  pub has : HasPass lock bank new after
  pub ready : IfOk goes_on (λ on. IsReady lock bank new)
  pub done : IfOk goes_on (λ on. IsDone before after (not on))
  pub broken : OnErr goes_on (IsBroken before after)
  pub idle : IsIdleAt after new.idle

-- ---- the team

-- a worker whose pass has one share of a lock that was made of a pool with that beginning and that history
pub record IsOfTeam (lock : TableId) (bank : Bank) (begun : Option PoolView) (history : List Event) (worker : Worker) : Type 0 where
  pub pass : PoolPass
  pub has : HasPass lock bank worker pass
  pub one : pass.shares ≡ 1
  pub origin : pass.origin ≡ begun
  pub start : pass.start ≡ history

-- it can take a turn
pub record IsReadyInTeam (lock : TableId) (bank : Bank) (begun : Option PoolView) (history : List Event) (worker : Worker) : Type 0 where
  pub member : IsOfTeam lock bank begun history worker
  pub ready : IsReady lock bank worker

-- a worker after all its turns is one of the same team
abbrev pub IsRun : TableId → Bank → Worker → Worker → Type 0
IsRun lock bank old new =
    (begun : Option PoolView) (history : List Event) → IsOfTeam lock bank begun history old → IsOfTeam lock bank begun history new

-- the workers after all turns of each: as many, and of the same team
abbrev pub HaveRun : TableId → Bank → List Worker → List Worker → Type 0
HaveRun lock bank olds news =
    (length news ≡ length olds)
    × ((begun : Option PoolView) (history : List Event) → All (IsOfTeam lock bank begun history) olds → All (IsOfTeam lock bank begun history) news)

-- the worker after its turns, as soon as its thread has kept the promise
abbrev pub IsBegun : TableId → Bank → Worker → Begun → Type 0
IsBegun lock bank old (Apart handle) =
    let promise = handle.promise in (new : Worker) → IsRun promise.lock.now promise.bank.now promise.began.value new → IsRun lock bank old new
IsBegun lock bank old (Ended new) = IsRun lock bank old new
