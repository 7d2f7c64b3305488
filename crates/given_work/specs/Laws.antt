-- What an index that was told the clauses of a job makes of its ticket.
use Rattle.std.specs.Prelude.{◌≡◌, ℕ, List, length, Some, All}
use mathlib.Core.List.{IsPrefix}
use Rattle.bank_clause.specs.Clause.{clause_at}
use Rattle.bank_clause.specs.declared.member.Member.{Member}
use Rattle.subsume.specs.Members.{numbers_of}
use Rattle.pool_history.specs.Answers.{IsTicket}
use Rattle.pool_history.specs.View.{PoolView}
use Rattle.pool_history.specs.Record.{GivenJob, clauses_of, given_job}
use Rattle.pool_history.specs.Replay.{Origin, replay}
use Rattle.pool_history.specs.Inputs.{AreInputs, IsHistoryOf, IsRightBatch}
use Rattle.pool_history.specs.declared.batch.Batch.{Batch}
use Rattle.pool_history.specs.declared.event.Event.{Event}
use Rattle.pool_history.specs.declared.ticket.Ticket.{Ticket}
use Rattle.given_work.specs.View.{IndexView}
use Rattle.given_work.specs.Learning.{AreNews, learned}
use Rattle.given_work.specs.Learned.{HasLearned}
use Rattle.given_work.specs.Removing.{AreTold}
use Rattle.given_work.specs.Working.{IsRightUnder}

-- Members are the clauses that the job of a ticket was told, in its order. The job is out after the history.
pub record AreToldFor (origin : Origin) (history : List Event) (ticket : Ticket) (ms : List Member) : Type 0 where
  pub job : GivenJob
  pub out : given_job (replay origin history) ticket.job ≡ Some job
  pub number : ticket.number ≡ job.number
  pub left : ticket.left ≡ job.left
  pub numbers : numbers_of ms ≡ job.told
  pub looked_up : All (λ (m : Member). clauses_of (replay origin history) m.number ≡ Some (clause_at m.clause)) ms

-- An index may learn the news of a ticket that was asked for at the place up to which it was told, and has then learned the whole history.
abbrev pub TicketsAreLearned : Type 0
TicketsAreLearned =
    (pool : PoolView) (index : IndexView) (ticket : Ticket)
    → HasLearned pool index → IsTicket pool.origin pool.history index.told ticket
    → AreNews index.members ticket.news
    × HasLearned pool (record { options = index.options; told = ticket.as_of; members = learned index.members ticket.news })

-- What an index learned of a pool it has learned of the pool after further events.
abbrev pub LearnedStays : Type 0
LearnedStays =
    (pool now : PoolView) (index : IndexView)
    → now.origin ≡ pool.origin → IsPrefix pool.history now.history → HasLearned pool index → HasLearned now index

-- An index that learned the whole history knows exactly the clauses that the job of a ticket was told.
abbrev pub LearnedAreToldFor : Type 0
LearnedAreToldFor =
    (pool : PoolView) (index : IndexView) (told : ℕ) (ticket : Ticket)
    → HasLearned pool index → index.told ≡ length pool.history → IsTicket pool.origin pool.history told ticket
    → AreToldFor pool.origin pool.history ticket index.members

-- They may be worked with.
abbrev pub ToldForJobsAreTold : Type 0
ToldForJobsAreTold =
    (origin : Origin) (history : List Event) (ticket : Ticket) (ms : List Member)
    → AreInputs origin.inputs → IsHistoryOf origin history → AreToldFor origin history ticket ms → AreTold ms

-- And work that is right for all jobs for which they are told makes a right batch.
abbrev pub WorkMakesRightBatches : Type 0
WorkMakesRightBatches =
    (origin : Origin) (history : List Event) (ticket : Ticket) (ms : List Member) (batch : Batch)
    → AreInputs origin.inputs → IsHistoryOf origin history → AreToldFor origin history ticket ms
    → batch.job ≡ ticket.job → IsRightUnder origin.options ms ticket.number ticket.left batch.work → IsRightBatch origin history batch
