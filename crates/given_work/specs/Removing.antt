-- The told clauses that a given clause removes.
use Rattle.std.specs.Prelude.{◌≡◌, ◌⊎◌, ℕ, Bool, ◌==◌, List, ◌++◌, Option, option_to_list, All, Contains, IsTrue}
use Rattle.std.specs.List.{list_any}
use Rattle.fol_base.specs.Clause.{TreeClause}
use Rattle.fol_base.specs.WellFormed.{SymbolUse}
use Rattle.bank_clause.specs.Clause.{clause_at}
use Rattle.bank_clause.specs.declared.member.Member.{Member}
use Rattle.pool_history.specs.Record.{GivenJob}
use Rattle.pool_history.specs.Reduction.{Lookup}
use Rattle.pool_history.specs.Batches.{IsRightRemoval, Simplifies, is_told_beside}
use Rattle.pool_history.specs.declared.options.Options.{Options}
use Rattle.pool_history.specs.declared.batch.Removal.{Removal}
use Rattle.given_work.specs.Telling.{Tells}
use Rattle.given_work.specs.Going.{IsRemovalOf}

-- members are told for some job
pub record AreTold (ms : List Member) : Type 0 where
  pub usage : SymbolUse
  pub clauses : Lookup
  pub job : GivenJob
  pub tells : Tells usage clauses job ms

-- the list grew by the removal of a clause, if it goes
pub record AddsRemoval (split : Bool) (es us ms : List Member) (n : ℕ) (c : TreeClause) (before now : List Removal) : Type 0 where
  pub gone : Option Removal
  pub added : now ≡ before ++ option_to_list gone
  pub right : IsRemovalOf split es us ms n c gone

-- another member than the given one with a number adds its removal, if it goes
pub record AddsRemovalOf (split : Bool) (ms es us ss : List Member) (given n : ℕ) (before now : List Removal) : Type 0 where
  pub member : Member
  pub there : Contains ms member
  pub numbered : member.number ≡ n
  pub another : n ≡ given → ⊥
  pub adds : AddsRemoval split es us ss n (clause_at member.clause) before now

-- or none has it, and nothing is added
pub record AddsNone (ms : List Member) (given n : ℕ) (before now : List Removal) : Type 0 where
  pub none : (m : Member) → Contains ms m → m.number ≡ n → n ≡ given
  pub same : now ≡ before

abbrev pub IsConsidered : Bool → List Member → List Member → List Member → List Member → ℕ → ℕ → List Removal → List Removal → Type 0
IsConsidered split ms es us ss given n before now = AddsNone ms given n before now ⊎ AddsRemovalOf split ms es us ss given n before now

-- a right removal of another told clause
pub record Removes (is_predicate : ℕ → Bool) (options : Options) (clauses : Lookup) (j : GivenJob) (m : Removal) : Type 0 where
  pub another : IsTrue (is_told_beside j j.number m.victim)
  pub right : IsRightRemoval is_predicate options clauses j m

-- Right removals, one for each member that the given clause simplifies.
abbrev pub AreRemovalsOf : Bool → List Member → Member → List Removal → Type 0
AreRemovalsOf split ms given removals =
    (usage : SymbolUse) (options : Options) (clauses : Lookup) (j : GivenJob)
    → Tells usage clauses j ms → options.split ≡ split → j.number ≡ given.number
    → All (Removes usage.is_predicate options clauses j) removals
    × ((m : Member)
    → Contains ms m → (m.number ≡ given.number → ⊥)
    → Simplifies usage.is_predicate options clauses j (clause_at given.clause) (clause_at m.clause)
    → IsTrue (list_any (λ (r : Removal). r.victim == m.number) removals))

-- The same of those whose numbers are in a list.
abbrev pub AreRemovalsAmong : Bool → List Member → Member → List ℕ → List Removal → Type 0
AreRemovalsAmong split ms given numbers removals =
    (usage : SymbolUse) (options : Options) (clauses : Lookup) (j : GivenJob)
    → Tells usage clauses j ms → options.split ≡ split → j.number ≡ given.number
    → All (Removes usage.is_predicate options clauses j) removals
    × ((m : Member)
    → Contains ms m → Contains numbers m.number → (m.number ≡ given.number → ⊥)
    → Simplifies usage.is_predicate options clauses j (clause_at given.clause) (clause_at m.clause)
    → IsTrue (list_any (λ (r : Removal). r.victim == m.number) removals))

-- the list has the number of each member that the given clause simplifies
abbrev pub HasSimplified : List Member → Member → List ℕ → Type 0
HasSimplified ms given numbers =
    (usage : SymbolUse) (options : Options) (clauses : Lookup) (j : GivenJob)
    → Tells usage clauses j ms → (m : Member) → Contains ms m → (m.number ≡ given.number → ⊥)
    → Simplifies usage.is_predicate options clauses j (clause_at given.clause) (clause_at m.clause) → Contains numbers m.number
