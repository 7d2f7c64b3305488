-- What a job leaves: its events at places of the worker's pass, and what the worker knows then.
use Rattle.std.specs.Prelude.{◌≡◌, ℕ, Bool, List, [], ◌∷◌, ◌++◌, IfOk, OnErr, Result, IsTrue}
use Rattle.std.specs.List.{list_all}
use Rattle.plain_types.specs.declared.memory.NoMemory.{NoMemory}
use Rattle.term_bank.specs.declared.bank.Bank.{Bank}
use Rattle.sat_core.specs.Clause.{names_below}
use Rattle.pool_history.specs.Record.{SolverJob, propositional_clauses}
use Rattle.pool_history.specs.Lawful.{IsSolverOut}
use Rattle.pool_history.specs.Solving.{handed}
use Rattle.pool_history.specs.declared.ticket.PropTicket.{PropTicket}
use Rattle.pool_history.specs.declared.ticket.Ticket.{Ticket}
use Rattle.pool_history.specs.declared.event.Event.{Event}
use Rattle.worker_team.specs.Turns.{Adds, is_stale_of, is_return_of, is_solution_of, is_abandon_of}
use Rattle.given_work.specs.View.{IndexView}
use Rattle.worker_team.specs.Passes.{PoolPass, IsGiven, IsIndexOf, IsPassOf, HasJob, record_of, stands_for}
use Rattle.worker_team.specs.Backs.{AddsOne}
use Rattle.worker_team.specs.Workers.{Knows}
use Rattle.worker_team.specs.declared.job.Known.{Known}

-- The solver's job is out. The ticket holds the clauses and the number of names that it was handed, which are all that there are. The names in the
-- clauses are below that number.
pub record IsAsked (pass : PoolPass) (ticket : PropTicket) : Type 0 where
  pub out : IsSolverOut (record_of pass) ticket.job (λ (s : SolverJob). (handed (record_of pass) s ≡ ticket.clauses) × (s.names ≡ ticket.names))
  pub all : propositional_clauses (record_of pass) ≡ ticket.clauses
  pub below : IsTrue (names_below ticket.names ticket.clauses)
  pub owned : HasJob pass ticket.job

-- the worker knows the pool as its pass has seen it, and whether an outcome stands there
pub record IsKnown (bank : Bank) (after : PoolPass) (known : Known) : Type 0 where
  pub knows : Knows bank after known.knowledge
  pub stands : known.stands ≡ stands_for after

-- stale returns of a job, and one event that ends it
pub record Ends (ends : ℕ → Event → Bool) (job : ℕ) (before after : PoolPass) : Type 0 where
  pub refused : List Event
  pub stale : IsTrue (list_all (is_stale_of job) refused)
  pub last : Event
  pub ended : IsTrue (ends job last)
  pub adds : Adds before after (refused ++ last ∷ [])

-- a job on a clause was done, or given up
pub record HasDoneClause (bank : Bank) (before : PoolPass) (job : ℕ) (after : PoolPass) (turned : Result Known NoMemory) : Type 0 where
  pub pass : IsPassOf bank after
  pub known : IfOk turned (IsKnown bank after)
  pub done : IfOk turned (λ k. Ends is_return_of job before after)
  pub broken : OnErr turned (Ends is_abandon_of job before after)

-- so was the solver's
pub record HasDoneSolving (bank : Bank) (before : PoolPass) (job : ℕ) (after : PoolPass) (turned : Result Known NoMemory) : Type 0 where
  pub pass : IsPassOf bank after
  pub known : IfOk turned (IsKnown bank after)
  pub done : IfOk turned (λ k. AddsOne (is_solution_of job) before after)
  pub broken : OnErr turned (AddsOne (is_abandon_of job) before after)

-- Between two tries of a job on a clause: what came so far are stale returns, and there is a ticket for the next try.
pub record IsTrying (bank : Bank) (job : ℕ) (before pass : PoolPass) (learned : IndexView) (next : Ticket) : Type 0 where
  pub of_pool : IsPassOf bank pass
  pub index : IsIndexOf bank pass learned
  pub ticket : IsGiven pass learned.told next
  pub same : next.job ≡ job
  pub refused : List Event
  pub stale : IsTrue (list_all (is_stale_of job) refused)
  pub adds : Adds before pass refused
