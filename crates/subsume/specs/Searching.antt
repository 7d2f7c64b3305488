-- What searches of a set of members answer.
use Rattle.std.specs.Prelude.{◌≡◌, ◌⊎◌, ℕ, ◌<◌, ◌≤◌, List, [], ◌∷◌, ◌++◌, Option, None, Some, Contains, ⊤}
use Rattle.fol_base.specs.Clause.{TreeClause}
use Rattle.fol_base.specs.Subsumption.{Subsumes}
use Rattle.fol_base.specs.WellFormed.{SymbolUse}
use Rattle.bank_clause.specs.Clause.{clause_at}
use Rattle.bank_clause.specs.Members.{IsMemberOfUse, AreMembersOfUse, SomeMember}
use Rattle.bank_clause.specs.declared.member.Member.{Member}

-- a member other than the one that is left out, if one is, whose clause subsumes the clause
pub record IsSubsumer (usage : SymbolUse) (except : Option ℕ) (d : TreeClause) (m : Member) : Type 0 where
  pub other : except ≡ Some m.number → ⊥
  pub subsumes : Subsumes usage.is_predicate (clause_at m.clause) d

-- a member other than the first one, whose clause is subsumed by it
pub record IsSubsumedBy (usage : SymbolUse) (by : Member) (m : Member) : Type 0 where
  pub other : by.number ≡ m.number → ⊥
  pub subsumed : Subsumes usage.is_predicate (clause_at by.clause) (clause_at m.clause)

-- the lowest number of a member that does it; none where no member does
abbrev pub IsLowest : (Member → Type 0) → List Member → Option ℕ → Type 0
IsLowest Does ms None = (m : Member) → Contains ms m → Does m → ⊥
IsLowest Does ms (Some n) = SomeMember Does ms n × ((m : Member) → Contains ms m → Does m → n ≤ m.number)

-- below a bound, if there is one
abbrev pub IsBelow : ℕ → Option ℕ → Type 0
IsBelow n None = ⊤
IsBelow n (Some bound) = n < bound

-- The lowest number of a member that does it, below a bound: the bound stays where there is none.
pub record IsLowestBelow (Does : Member → Type 0) (ms : List Member) (before after : Option ℕ) : Type 0 where
  pub from : (after ≡ before) ⊎ ((n : ℕ) × (after ≡ Some n) × SomeMember Does ms n × IsBelow n before)
  pub none_lower : (m : Member) → Contains ms m → Does m → IsBelow m.number after → ⊥

-- the numbers of exactly the members that do it, in their order
abbrev pub AreNumbersWhere : (Member → Type 0) → List Member → List ℕ → Type 0
AreNumbersWhere Does [] ns = ns ≡ []
AreNumbersWhere Does (m ∷ ms) ns =
    ((rest : List ℕ) × Does m × (ns ≡ m.number ∷ rest) × AreNumbersWhere Does ms rest)
    ⊎ ((Does m → ⊥) × AreNumbersWhere Does ms ns)

-- a list of numbers with those of exactly the other members that a member subsumes after it
pub record AddsSubsumed (by : Member) (ms : List Member) (before after : List ℕ) : Type 0 where
  pub numbers : List ℕ
  pub added : after ≡ before ++ numbers
  pub right : (usage : SymbolUse) → IsMemberOfUse usage by → AreMembersOfUse usage ms → AreNumbersWhere (IsSubsumedBy usage by) ms numbers
