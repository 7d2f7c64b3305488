-- How a pool takes the solver's answers.
use Rattle.std.specs.Prelude.{◌≡◌, ℕ, ◌+◌, ◌-◌, ◌<◌, nat_lt, if◌then◌else◌, List, length, get_or, None, All}
use Rattle.sat_core.specs.declared.answer.Answer.{Answer}
use Rattle.sat_core.specs.declared.answer.Answer.TheVariants.{Model, Refuted}
use Rattle.sat_core.specs.declared.answer.Chain.{Chain}
use Rattle.pool_history.specs.Chains.{cited}
use Rattle.pool_history.specs.Record.{PoolRecord}
use Rattle.pool_history.specs.declared.event.Event.{Event}
use Rattle.pool_history.specs.declared.event.Event.TheVariants.{ReturnModel, ReturnRefuted}

-- the event in which the answer of a job is taken
abbrev pub event_of : ℕ → Answer → Event
event_of job (Model truths) = ReturnModel job truths
event_of job (Refuted log) = ReturnRefuted job log

-- An answer takes memory where it is a refutation, and the pool is neither refuted nor spent: else no line comes.
abbrev pub TakesLines : PoolRecord → Answer → Type 0
TakesLines r (Model truths) = ⊥
TakesLines r (Refuted log) = r.ended ≡ None

-- ---- what a log cites

-- only clauses and chains with numbers below the bound
abbrev pub HasCitedBelow : ℕ → Chain → Type 0
HasCitedBelow bound c = All (λ n. n < bound) (cited c)

-- The number of the line of what a log cites, by the lines of the clauses that were handed: one of these, or a chain of the log, of which the
-- first gets the number `first`.
abbrev pub line_cited : List ℕ → ℕ → ℕ → ℕ
line_cited handed first n = if nat_lt n (length handed) then get_or handed n 0 else first + (n - length handed)
