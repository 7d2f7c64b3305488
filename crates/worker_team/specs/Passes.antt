-- Passes of a lock over a pool, and what is known of a job whose claim stands at a place of the pass.
use Rattle.std.specs.Prelude.{◌≡◌, ℕ, Bool, false, List, [], ◌∷◌, Some, IfOk, Result, Ok, Err, is_some}
use Rattle.std.specs.Option.{unwrap_or}
use Rattle.plain_types.specs.declared.memory.NoMemory.{NoMemory}
use Rattle.literal_selection.specs.declared.choice.Selection.TheVariants.{Nothing}
use Rattle.term_bank.specs.Bank.{identity}
use Rattle.term_bank.specs.declared.bank.Bank.{Bank}
use Rattle.bank_clause.specs.Clause.{AreMembersOf}
use Rattle.turn_lock.specs.Shown.{Known}
use Rattle.turn_lock.specs.History.{AreAdded, OwnsKeys, IsOwnedKey}
use Rattle.pool_history.specs.View.{PoolView}
use Rattle.pool_history.specs.Record.{PoolRecord}
use Rattle.pool_history.specs.Events.{job_of}
use Rattle.pool_history.specs.Outcomes.{outcome_of}
use Rattle.pool_history.specs.Replay.{Origin, replay}
use Rattle.pool_history.specs.Inputs.{AreInputs, IsHistoryOf}
use Rattle.pool_history.specs.Answers.{IsAnswerToClaim, IsClaimedOf, IsTicket, IsTicketOf}
use Rattle.pool_history.specs.declared.event.Event.{Event}
use Rattle.pool_history.specs.declared.event.Event.TheVariants.{Claim, ClaimSolve}
use Rattle.pool_history.specs.declared.ticket.Claimed.{Claimed}
use Rattle.pool_history.specs.declared.ticket.Claimed.TheVariants.{Given, Solve, Idle, Ended}
use Rattle.pool_history.specs.declared.ticket.Ticket.{Ticket}
use Rattle.given_work.specs.View.{IndexView}
use Rattle.given_work.specs.Learned.{HasLearned}
use Rattle.worker_team.specs.Turns.{Adds}

abbrev pub PoolPass : Type 0
PoolPass = Known Event PoolView

-- ---- the pool of a pass

abbrev pub no_pool : PoolView
no_pool = record { bank = 0; origin = record { inputs = []; options = record { select = Nothing; split = false; inferences = 0 } }; history = [] }

-- the pool with which the lock was made, before its first event
abbrev pub begun_of : PoolPass → PoolView
begun_of pass = unwrap_or pass.origin no_pool

abbrev pub origin_of : PoolPass → Origin
origin_of pass = (begun_of pass).origin

-- the pool as the pass has seen it
abbrev pub seen_pool : PoolPass → PoolView
seen_pool pass = record { bank = (begun_of pass).bank; origin = origin_of pass; history = pass.seen }

abbrev pub record_of : PoolPass → PoolRecord
record_of pass = replay (origin_of pass) pass.seen

-- an outcome stands on the history that the pass has seen
abbrev pub stands_for : PoolPass → Bool
stands_for pass = is_some (outcome_of (record_of pass))

-- The pass is of a lock over a pool of the bank, and owns what it added. The history that it has seen is lawful.
pub record IsPassOf (bank : Bank) (pass : PoolPass) : Type 0 where
  pub origin : pass.origin ≡ Some (begun_of pass)
  pub same_bank : (begun_of pass).bank ≡ identity bank
  pub inputs : AreInputs (origin_of pass).inputs
  pub lawful : IsHistoryOf (origin_of pass) pass.seen
  pub added : AreAdded pass.start pass.seen pass.own
  pub keys : OwnsKeys job_of pass.seen pass.own

-- ---- claims

-- the events that an answer to a claim adds
abbrev pub claim_events : Claimed → List Event
claim_events (Given ticket) = Claim ticket.job ∷ []
claim_events (Solve ticket) = ClaimSolve ticket.job ∷ []
claim_events (Idle n) = []
claim_events (Ended outcome) = []

-- those that a claim adds, be there an answer or not
abbrev pub events_of_claim : Result Claimed NoMemory → List Event
events_of_claim (Ok answer) = claim_events answer
events_of_claim (Err e) = []

-- A claim was made in one turn, for a caller that knew the activations and deaths of the first `told` events: this is the answer on the
-- history that stood then.
pub record HasClaimed (bank : Bank) (before : PoolPass) (told : ℕ) (after : PoolPass) (claimed : Result Claimed NoMemory) : Type 0 where
  pub pass : IsPassOf bank after
  pub adds : Adds before after (events_of_claim claimed)
  pub answer : IfOk claimed (λ answer. (history : List Event) × IsAnswerToClaim (origin_of after) history told answer after.seen)
  pub of_bank : IfOk claimed (IsClaimedOf (begun_of after).bank)

-- ---- jobs

-- the job's claim stands at a place of the pass
abbrev pub HasJob : PoolPass → ℕ → Type 0
HasJob pass job = IsOwnedKey job_of pass.seen pass.own job

-- a ticket of such a job on a clause, for a caller that was told so far; its clauses are of the pool's bank
pub record IsGiven (pass : PoolPass) (told : ℕ) (ticket : Ticket) : Type 0 where
  pub answers : IsTicket (origin_of pass) pass.seen told ticket
  pub of_bank : IsTicketOf (begun_of pass).bank ticket
  pub owned : HasJob pass ticket.job

-- an index of the pool as the pass has seen it, up to the place up to which it was told
pub record IsIndexOf (bank : Bank) (pass : PoolPass) (index : IndexView) : Type 0 where
  pub of_bank : AreMembersOf bank index.members
  pub options : index.options ≡ (origin_of pass).options
  pub learned : HasLearned (seen_pool pass) index
