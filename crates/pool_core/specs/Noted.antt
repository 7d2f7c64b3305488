-- What a pool's notes tell, and the ticket of the clause that is given next. Only private functions cite this.
use Rattle.std.specs.Prelude.{◌≡◌, ℕ, suc, ◌+◌, ◌-◌, ◌<◌, List, ◌++◌, map, length, Some, slice_get, option_map, unwrap_or, All}
use Rattle.fol_base.specs.Clause.{TreeClause}
use Rattle.kernel_steps.specs.Conclusion.{empty_clause}
use Rattle.bank_clause.specs.Clause.{clause_at, IsClauseOf}
use Rattle.pool_history.specs.Record.{GivenJob, clauses_of, position_of}
use Rattle.pool_history.specs.Replay.{Origin, replay}
use Rattle.pool_history.specs.News.{first_told, TreeChange, activated, died, change_of, news_since}
use Rattle.pool_history.specs.declared.event.Event.{Event}
use Rattle.clause_register.specs.declared.register.Registration.{Registration}
use Rattle.pool_core.specs.declared.pool.Note.{Note}
use Rattle.pool_core.specs.declared.pool.Note.TheVariants.{Activated, Died}
use Rattle.pool_history.specs.declared.ticket.Ticket.{Ticket}

-- ---- notes

abbrev pub clause_in : List Registration → ℕ → TreeClause
clause_in ss n = unwrap_or (option_map (λ (s : Registration). clause_at s.clause) (slice_get ss n)) empty_clause

abbrev pub change_at : List Registration → Note → TreeChange
change_at ss (Activated n) = activated n (clause_in ss n)
change_at ss (Died n) = died n

-- the clause that a note tells of has a number below the count
abbrev pub IsNoted : ℕ → Note → Type 0
IsNoted count (Activated n) = n < count
IsNoted count (Died n) = Unit {0}

-- all clauses of a register are of the bank
abbrev pub AreOfBank : ℕ → List Registration → Type 0
AreOfBank bank ss = All (λ (s : Registration). IsClauseOf bank s.clause) ss

-- ---- tickets

-- the ticket of the clause that is next, before it is given out
pub record IsNextTicket (origin : Origin) (history : List Event) (told number : ℕ) (ticket : Ticket) : Type 0 where
  pub job : ticket.job ≡ suc (replay origin history).jobs
  pub same : ticket.number ≡ number
  pub position : ticket.position ≡ position_of (replay origin history) number
  pub clause : clauses_of (replay origin history) number ≡ Some (clause_at ticket.clause)
  pub news : map change_of ticket.news ≡ news_since origin history told ++ first_told (replay origin history) number
  pub left : ticket.left ≡ origin.options.inferences - length (replay origin history).counted
  pub as_of : ticket.as_of ≡ length history + 1

-- the ticket of a job that is out, told anew, before the event by which it is
pub record IsTicketAgain (origin : Origin) (history : List Event) (told job : ℕ) (given : GivenJob) (ticket : Ticket) : Type 0 where
  pub same : ticket.job ≡ job
  pub number : ticket.number ≡ given.number
  pub position : ticket.position ≡ position_of (replay origin history) given.number
  pub clause : clauses_of (replay origin history) given.number ≡ Some (clause_at ticket.clause)
  pub news : map change_of ticket.news ≡ news_since origin history told
  pub left : ticket.left ≡ given.left
  pub as_of : ticket.as_of ≡ length history + 1
