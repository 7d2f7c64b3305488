-- What is brought back in a turn, and what the history is then.
use Rattle.std.specs.Prelude.{◌≡◌, ℕ, Bool, [], ◌∷◌, IfOk, OnErr, Result, IsTrue}
use Rattle.plain_types.specs.declared.memory.NoMemory.{NoMemory}
use Rattle.term_bank.specs.declared.bank.Bank.{Bank}
use Rattle.pool_history.specs.declared.event.Event.{Event}
use Rattle.pool_history.specs.declared.event.Event.TheVariants.{Abandon}
use Rattle.worker_team.specs.Passes.{PoolPass, IsPassOf, IsGiven, stands_for}
use Rattle.worker_team.specs.Turns.{Adds, is_stale_of, is_return_of, is_solution_of}
use Rattle.worker_team.specs.declared.back.Brought.{Brought}
use Rattle.worker_team.specs.declared.back.Brought.TheVariants.{Again, Done}

-- one event of this kind came
pub record AddsOne (kind : Event → Bool) (before after : PoolPass) : Type 0 where
  pub event : Event
  pub is_kind : IsTrue (kind event)
  pub adds : Adds before after (event ∷ [])

-- The job goes on with a ticket after a stale return. It is done after another one.
abbrev pub IsBrought : PoolPass → ℕ → ℕ → PoolPass → Brought → Type 0
IsBrought before job told after (Again ticket) = AddsOne (is_stale_of job) before after × (ticket.job ≡ job) × IsGiven after told ticket
IsBrought before job told after (Done stands) = AddsOne (is_return_of job) before after × (stands ≡ stands_for after)

-- After an out-of-memory error no event came, and the job is the worker's still.
pub record HasBrought (bank : Bank) (before : PoolPass) (job told : ℕ) (after : PoolPass) (brought : Result Brought NoMemory) : Type 0 where
  pub pass : IsPassOf bank after
  pub answer : IfOk brought (IsBrought before job told after)
  pub nothing : OnErr brought (Adds before after [])

pub record HasSolved (bank : Bank) (before : PoolPass) (job : ℕ) (after : PoolPass) (stands : Result Bool NoMemory) : Type 0 where
  pub pass : IsPassOf bank after
  pub answer : IfOk stands (λ s. AddsOne (is_solution_of job) before after × (s ≡ stands_for after))
  pub nothing : OnErr stands (Adds before after [])

-- the job was given up
pub record HasGivenUp (bank : Bank) (before : PoolPass) (job : ℕ) (after : PoolPass) : Type 0 where
  pub pass : IsPassOf bank after
  pub adds : Adds before after (Abandon job ∷ [])
