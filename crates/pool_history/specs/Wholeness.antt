-- Laws of what is registered, of every lawful history where nothing else is said: whole clauses, and positions and jobs that hold their numbers.
use Rattle.std.specs.Prelude.{◌≡◌, ◌≢◌, ℕ, ◌<◌, ◌≤◌, Bool, not, ◌&&◌, nat_lt, List, ◌++◌, length, Some, All, AllPairs, IsTrue, IsFalse}
use Rattle.std.specs.List.{list_all}
use Rattle.fol_base.specs.Clause.{TreeLiteral, TreeClause, clause_size}
use Rattle.fol_base.specs.Canonical.{IsCanonical}
use Rattle.fol_base.specs.WellFormed.{SymbolUse, are_literals_of}
use Rattle.fol_base.specs.declared.limits.TheConstants.{MOST_SYMBOLS}
use Rattle.kernel_steps.specs.Split.{has_number}
use Rattle.kernel_steps.specs.declared.step.Line.{Line}
use Rattle.bank_clause.specs.Clause.{AreAssertions}
use Rattle.pool_history.specs.Components.{is_to_split}
use Rattle.pool_history.specs.Record.{Registered, Death, GivenJob, clause_numbered, lives}
use Rattle.pool_history.specs.Registering.{has_none}
use Rattle.pool_history.specs.Replay.{Origin, replay}
use Rattle.pool_history.specs.Lawful.{IsLawful}
use Rattle.pool_history.specs.Inputs.{AreInputs, IsUseOf}
use Rattle.pool_history.specs.declared.event.Event.{Event}
use Rattle.pool_history.specs.declared.outcome.Outcome.TheVariants.{Refuted}

-- ---- clauses

-- The clause is canonical and no larger than a kept clause may be. Its names are assertions, of tags below the number of parts. Its literals
-- are well-formed under a use of the symbols.
pub record IsWhole (usage : SymbolUse) (parts : ℕ) (c : TreeClause) : Type 0 where
  pub canonical : IsCanonical c
  pub asserts : AreAssertions c.names
  pub met : All (λ n. n.name < parts) c.names
  pub small : clause_size c ≤ MOST_SYMBOLS
  pub formed : IsTrue (are_literals_of usage c.literals)

-- The registered clauses are whole, and assert parts that were met. They are so under each use of the symbols that is that of the inputs: so
-- they are well-formed together.
abbrev pub RegisteredAreWhole : Type 0
RegisteredAreWhole =
    (usage : SymbolUse) (origin : Origin) (history : List Event)
    → AreInputs origin.inputs → IsUseOf origin.inputs usage → IsLawful usage.is_predicate origin history
    → let r = replay origin history in
    All (λ (c : Registered). IsWhole usage (length r.parts) c.clause) r.registered

-- Where splitting is on, no registered clause falls into two parts; so no member does. This holds for every list of events, lawful or not.
abbrev pub RegisteredAreOnePart : Type 0
RegisteredAreOnePart =
    (origin : Origin) (history : List Event)
    → All (λ (c : Registered). IsFalse (is_to_split origin.options.split c.clause.literals)) (replay origin history).registered

-- No clause without literals is registered, except the one that refutes. So an empty clause under assertions gives its propositional clause
-- and no more. This holds for every list of events, lawful or not.
abbrev pub NoneIsEmpty : Type 0
NoneIsEmpty =
    (origin : Origin) (history : List Event)
    → let r = replay origin history in
    r.ended ≢ Some Refuted → IsTrue (list_all (λ (c : Registered). not (has_none c.clause.literals)) r.registered)

-- No two clauses with equal literals and equal assertions live. This holds for every list of events, lawful or not.
abbrev pub LivingDiffer : Type 0
LivingDiffer =
    (origin : Origin) (history : List Event) (n m : ℕ)
    → let r = replay origin history in
    IsTrue (lives r n) → IsTrue (lives r m) → clause_numbered r n ≡ clause_numbered r m → n ≡ m

-- Registered clauses, deaths, parts and lines are only added: a clause keeps its number and its line, a dead clause stays dead, and a tag stands
-- for one part. This holds for every list of events, lawful or not.
abbrev pub ClausesStay : Type 0
ClausesStay =
    (origin : Origin) (history later : List Event)
    → let r = replay origin history in
    let s = replay origin (history ++ later) in
    ((more : List Registered) × (s.registered ≡ r.registered ++ more))
    × ((more : List Death) × (s.deaths ≡ r.deaths ++ more))
    × ((more : List (List TreeLiteral)) × (s.parts ≡ r.parts ++ more))
    × ((more : List Line) × (s.lines ≡ r.lines ++ more))

-- ---- positions and jobs

-- Positions are of registered clauses, each once: so for every list of events, lawful or not.
abbrev pub PositionsAreRegistered : Type 0
PositionsAreRegistered =
    (origin : Origin) (history : List Event)
    → let r = replay origin history in
    IsTrue (list_all (λ n. nat_lt n (length r.registered)) r.positions) × AllPairs (λ n m. n ≢ m) r.positions

-- a job's clause, and those that the job was told, have positions: so they are registered
abbrev pub has_positions : List ℕ → GivenJob → Bool
has_positions positions j = has_number j.number positions && list_all (λ n. has_number n positions) j.told

abbrev pub ToldHavePositions : Type 0
ToldHavePositions =
    (origin : Origin) (history : List Event)
    → let r = replay origin history in IsTrue (list_all (has_positions r.positions) r.given)
