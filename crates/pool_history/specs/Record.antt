-- The record to which a pool's history amounts, of plain lists.
use Rattle.std.specs.Prelude.{ℕ, Bool, not, ◌&&◌, ◌==◌, ◌+◌, nat_lt, if◌then◌else◌, List, [], length, map, filter, Option, None, option_map, unwrap_or, is_some, slice_get, find}
use Rattle.std.specs.List.{list_any, list_all, range_with_len, position_or_len}
use Rattle.plain_types.specs.declared.sequence.NameLit.{NameLit}
use Rattle.fol_base.specs.Clause.{TreeLiteral, TreeClause, clause_eq}
use Rattle.fol_base.specs.Subsumption.{assertions}
use Rattle.kernel_steps.specs.Conclusion.{empty_clause}
use Rattle.kernel_steps.specs.Split.{has_number}
use Rattle.kernel_steps.specs.declared.key.Key.{Key}
use Rattle.kernel_steps.specs.declared.step.Line.{Line}
use Rattle.sat_core.specs.Clause.{Valuation, literal_true, valuation_of}
use Rattle.pool_history.specs.Tags.{name_of_tag}
use Rattle.pool_history.specs.declared.outcome.Outcome.{Outcome}

-- a registered clause, whose assertions are negative names with tags as their numbers, and the number of its line
pub record Registered : Type 0 where
  pub clause : TreeClause
  pub line : ℕ

-- a clause that died, the place of the event in which it did, and the clauses that justify it
pub record Death : Type 0 where
  pub victim : ℕ
  pub event : ℕ
  pub justifiers : List ℕ

-- A job on a given clause that is out: the clauses that it was told, in the order of their positions, after the first `as_of` events;
-- and how many inferences could be counted then before the limit.
pub record GivenJob : Type 0 where
  pub job : ℕ
  pub number : ℕ
  pub told : List ℕ
  pub as_of : ℕ
  pub left : ℕ

-- The solver's job: it was handed the first `clauses` propositional clauses, and there were `names` names.
pub record SolverJob : Type 0 where
  pub job : ℕ
  pub clauses : ℕ
  pub names : ℕ

-- a propositional clause, and the number of its line
pub record PropositionalClause : Type 0 where
  pub names : List NameLit
  pub line : ℕ

-- Clauses have the numbers of their places among the registered ones. A clause that was activated keeps its position, the place in the
-- list of positions.
pub record PoolRecord : Type 0 where
  -- the parts, by their tags
  pub parts : List (List TreeLiteral)
  pub registered : List Registered
  pub positions : List ℕ
  -- the clauses whose jobs are done
  pub active : List ℕ
  pub deaths : List Death
  -- the jobs that are out
  pub given : List GivenJob
  pub solver : Option SolverJob
  pub propositional : List PropositionalClause
  -- truth values of the names, a model of the first `modelled` propositional clauses
  pub model : List Bool
  pub modelled : ℕ
  -- the names of inferences that were counted, and of those that were set aside as too heavy
  pub counted : List Key
  pub set_aside : List Key
  pub lines : List Line
  -- refuted or spent
  pub ended : Option Outcome
  -- the number of jobs that were given out, of those on a given clause, and of events
  pub jobs : ℕ
  pub claims : ℕ
  pub events : ℕ

-- ---- clauses by their numbers

abbrev pub clauses_of : PoolRecord → ℕ → Option TreeClause
clauses_of r n = option_map (λ (c : Registered). c.clause) (slice_get r.registered n)

-- the clause of a number, the empty one where there is none
abbrev pub clause_numbered : PoolRecord → ℕ → TreeClause
clause_numbered r n = unwrap_or (clauses_of r n) empty_clause

abbrev pub numbers_of : PoolRecord → List ℕ
numbers_of r = range_with_len 0 (length r.registered)

-- the clause is the victim of one of the deaths
abbrev pub has_died : List Death → ℕ → Bool
has_died deaths n = list_any (λ (d : Death). n == d.victim) deaths

abbrev pub is_dead : PoolRecord → ℕ → Bool
is_dead r n = has_died r.deaths n

abbrev pub lives : PoolRecord → ℕ → Bool
lives r n = nat_lt n (length r.registered) && not (is_dead r n)

abbrev pub is_out : PoolRecord → ℕ → Bool
is_out r n = list_any (λ (j : GivenJob). n == j.number) r.given

-- a registered clause waits where it isn't dead, out or active
abbrev pub waits : PoolRecord → ℕ → Bool
waits r n = lives r n && (not (is_out r n) && not (has_number n r.active))

abbrev pub position_of : PoolRecord → ℕ → ℕ
position_of r n = position_or_len (λ m. n == m) r.positions

-- the clauses that are told now: those activated that live, in the order of their positions
abbrev pub told_now : PoolRecord → List ℕ
told_now r = filter (lives r) r.positions

-- whether a living clause is this one, with its literals and its assertions
abbrev pub has_living : PoolRecord → TreeClause → Bool
has_living r c = list_any (λ n. lives r n && clause_eq c (clause_numbered r n)) (numbers_of r)

-- ---- awake clauses

-- the signed name of each asserted tag is true
abbrev pub is_awake_under : Valuation → List (List TreeLiteral) → TreeClause → Bool
is_awake_under truth parts c = list_all (λ tag. literal_true truth (name_of_tag parts tag)) (assertions c.names)

-- under the current model, where a name that the model doesn't have is false
abbrev pub is_awake : PoolRecord → ℕ → Bool
is_awake r n = is_awake_under (valuation_of r.model) r.parts (clause_numbered r n)

-- ---- jobs

abbrev pub given_job : PoolRecord → ℕ → Option GivenJob
given_job r job = find (λ (j : GivenJob). j.job == job) r.given

abbrev pub without_job : ℕ → List GivenJob → List GivenJob
without_job job js = filter (λ (j : GivenJob). not (j.job == job)) js

abbrev pub jobs_out : PoolRecord → ℕ
jobs_out r = length r.given + (if is_some r.solver then 1 else 0)

abbrev pub propositional_clauses : PoolRecord → List (List NameLit)
propositional_clauses r = map (λ (c : PropositionalClause). c.names) r.propositional

-- ---- the empty record

abbrev pub nothing_registered : PoolRecord
nothing_registered = record {
  parts = [];
  registered = [];
  positions = [];
  active = [];
  deaths = [];
  given = [];
  solver = None;
  propositional = [];
  model = [];
  modelled = 0;
  counted = [];
  set_aside = [];
  lines = [];
  ended = None;
  jobs = 0;
  claims = 0;
  events = 0;
}
