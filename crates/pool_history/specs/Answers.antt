-- The answers of a pool to claims and returns, and what each adds to the history.
use Rattle.std.specs.Prelude.{◌≡◌, ℕ, suc, ◌<◌, ◌==◌, List, [], ◌∷◌, ◌++◌, ◌||◌, map, find, length, Option, None, Some, is_none, is_some, option_map, All, IsTrue, IsFalse}
use Rattle.bank_clause.specs.Clause.{clause_at, IsClauseOf, IsMemberOf}
use Rattle.pool_history.specs.Tags.{name_count}
use Rattle.pool_history.specs.Record.{PoolRecord, GivenJob, Death, clauses_of, given_job, lives, is_dead, position_of, propositional_clauses, jobs_out}
use Rattle.pool_history.specs.Solving.{must_solve}
use Rattle.pool_history.specs.Claiming.{can_give, next_given}
use Rattle.pool_history.specs.Outcomes.{outcome_of}
use Rattle.pool_history.specs.Replay.{Origin, replay}
use Rattle.pool_history.specs.Lawful.{IsGivenOut}
use Rattle.pool_history.specs.News.{change_of, news_since}
use Rattle.pool_history.specs.declared.event.Event.{Event}
use Rattle.pool_history.specs.declared.event.Event.TheVariants.{Claim, ClaimSolve, Return, Stale as StaleReturn, Void as VoidReturn}
use Rattle.pool_history.specs.declared.batch.Batch.{Batch}
use Rattle.pool_history.specs.declared.batch.Work.{Work}
use Rattle.pool_history.specs.declared.batch.Work.TheVariants.{Gone, Met}
use Rattle.pool_history.specs.declared.ticket.Change.{Change}
use Rattle.pool_history.specs.declared.ticket.Change.TheVariants.{Activated, Died}
use Rattle.pool_history.specs.declared.ticket.Ticket.{Ticket}
use Rattle.pool_history.specs.declared.ticket.PropTicket.{PropTicket}
use Rattle.pool_history.specs.declared.ticket.Claimed.{Claimed}
use Rattle.pool_history.specs.declared.ticket.Claimed.TheVariants.{Given, Solve, Idle, Ended}
use Rattle.pool_history.specs.declared.ticket.Back.{Back}
use Rattle.pool_history.specs.declared.ticket.Back.TheVariants.{Taken, Stale, Void}

-- ---- tickets

-- A ticket is of the job with its number, which is out after the history; its news are those since the place up to which the caller was
-- told.
pub record IsTicket (origin : Origin) (history : List Event) (told : ℕ) (ticket : Ticket) : Type 0 where
  pub job : GivenJob
  pub out : given_job (replay origin history) ticket.job ≡ Some job
  pub number : ticket.number ≡ job.number
  pub position : ticket.position ≡ position_of (replay origin history) job.number
  pub clause : clauses_of (replay origin history) job.number ≡ Some (clause_at ticket.clause)
  pub news : map change_of ticket.news ≡ news_since origin history told
  pub left : ticket.left ≡ job.left
  pub as_of : (ticket.as_of ≡ job.as_of) × (ticket.as_of ≡ length history)

-- the propositional clauses, and the number of names
pub record IsSolverTicket (r : PoolRecord) (ticket : PropTicket) : Type 0 where
  pub job : ticket.job ≡ suc r.jobs
  pub clauses : ticket.clauses ≡ propositional_clauses r
  pub names : ticket.names ≡ name_count r.parts

-- ---- clauses of the bank

-- a clause that a change tells is of the bank
abbrev pub IsChangeOf : ℕ → Change → Type 0
IsChangeOf bank (Activated member) = IsMemberOf bank member
IsChangeOf bank (Died number) = Unit {0}

-- all clauses that a ticket tells are
pub record IsTicketOf (bank : ℕ) (ticket : Ticket) : Type 0 where
  pub given : IsClauseOf bank ticket.clause
  pub told : All (IsChangeOf bank) ticket.news

-- those of an answer to a claim
abbrev pub IsClaimedOf : ℕ → Claimed → Type 0
IsClaimedOf bank (Given ticket) = IsTicketOf bank ticket
IsClaimedOf bank (Solve ticket) = Unit {0}
IsClaimedOf bank (Idle n) = Unit {0}
IsClaimedOf bank (Ended outcome) = Unit {0}

-- those of an answer to a return
abbrev pub IsBackOf : ℕ → Back → Type 0
IsBackOf bank Taken = Unit {0}
IsBackOf bank (Stale justifier event ticket) = IsTicketOf bank ticket
IsBackOf bank (Void event) = Unit {0}

-- ---- claims

-- An answer to a claim, after which the history is the new one: the first that applies of an outcome that is refuted or spent, clauses for
-- the solver, a clause that is given, a wait for the jobs that are out, and an outcome of a pool at rest.
abbrev pub IsAnswerToClaim : Origin → List Event → ℕ → Claimed → List Event → Type 0
IsAnswerToClaim origin history told (Given ticket) new =
    let r = replay origin history in
    (r.ended ≡ None) × IsFalse (must_solve r) × (next_given r ≡ Some ticket.number) × (ticket.job ≡ suc r.jobs)
    × (new ≡ history ++ Claim ticket.job ∷ []) × IsTicket origin new told ticket
IsAnswerToClaim origin history told (Solve ticket) new =
    let r = replay origin history in
    (r.ended ≡ None) × IsTrue (must_solve r) × (new ≡ history ++ ClaimSolve ticket.job ∷ []) × IsSolverTicket r ticket
IsAnswerToClaim origin history told (Idle n) new =
    let r = replay origin history in
    (r.ended ≡ None) × IsFalse (must_solve r) × IsFalse (can_give r) × (n ≡ jobs_out r) × (0 < n) × (new ≡ history)
IsAnswerToClaim origin history told (Ended outcome) new =
    (outcome_of (replay origin history) ≡ Some outcome) × (new ≡ history)

-- ---- returns

-- the place of the event in which a clause died
abbrev pub death_of : PoolRecord → ℕ → Option ℕ
death_of r n = option_map (λ (d : Death). d.event) (find (λ (d : Death). n == d.victim) r.deaths)

-- the first of the justifiers by which the given clause goes that has died
abbrev pub dead_justifier : PoolRecord → Work → Option ℕ
dead_justifier r (Gone m) = find (is_dead r) m.justifiers
dead_justifier r (Met entries removals) = None

-- A return takes memory where the given clause lives, and a justifier by which it goes has died or the pool is neither refuted nor spent: else
-- nothing is registered and no ticket is made.
abbrev pub TakesMemory : PoolRecord → Batch → Type 0
TakesMemory r batch =
    IsGivenOut r batch.job (λ j. IsTrue (lives r j.number)) × IsTrue (is_some (dead_justifier r batch.work) || is_none r.ended)

-- An answer to a return of a batch for a job that is out, after which the history is the new one: the given clause has died; or it lives, but a
-- justifier by which it goes has died; or the batch is taken.
abbrev pub IsAnswerToReturn : Origin → List Event → ℕ → Batch → Back → List Event → Type 0
IsAnswerToReturn origin history told batch (Void event) new =
    let r = replay origin history in
    IsGivenOut r batch.job (λ j. death_of r j.number ≡ Some event) × (new ≡ history ++ VoidReturn batch.job ∷ [])
IsAnswerToReturn origin history told batch (Stale justifier event ticket) new =
    let r = replay origin history in
    IsGivenOut r batch.job (λ j. IsTrue (lives r j.number)) × (dead_justifier r batch.work ≡ Some justifier) × (death_of r justifier ≡ Some event)
    × (new ≡ history ++ StaleReturn batch.job justifier ∷ []) × (ticket.job ≡ batch.job) × IsTicket origin new told ticket
IsAnswerToReturn origin history told batch Taken new =
    let r = replay origin history in
    IsGivenOut r batch.job (λ j. IsTrue (lives r j.number)) × (dead_justifier r batch.work ≡ None) × (new ≡ history ++ Return batch ∷ [])
