-- Members with one literal, and the others, which are called longer here, the empty clause among them.
use Rattle.std.specs.Prelude.{◌≡◌, ℕ, List, length, Option, None, Some, All, Contains}
use Rattle.fol_base.specs.Clause.{TreeClause}
use Rattle.fol_base.specs.WellFormed.{SymbolUse}
use Rattle.bank_clause.specs.Clause.{clause_at}
use Rattle.bank_clause.specs.Members.{SomeMember}
use Rattle.bank_clause.specs.declared.member.Member.{Member}
use Rattle.subsume.specs.Searching.{IsSubsumer}

abbrev pub HasOne : Member → Type 0
HasOne m = length (clause_at m.clause).literals ≡ 1

abbrev pub IsLonger : Member → Type 0
IsLonger m = HasOne m → ⊥

-- the members of two lists: those of the first have one literal, those of the second haven't
pub record AreParted (ones others : List Member) : Type 0 where
  pub units : All HasOne ones
  pub longer : All IsLonger others

-- a subsumer that is longer
pub record IsLongerSubsumer (usage : SymbolUse) (except : Option ℕ) (d : TreeClause) (m : Member) : Type 0 where
  pub longer : IsLonger m
  pub subsumer : IsSubsumer usage except d m

-- the number of a member that does it; none exactly where no member does
abbrev pub IsSomeOrNone : (Member → Type 0) → List Member → Option ℕ → Type 0
IsSomeOrNone Does ms None = (m : Member) → Contains ms m → Does m → ⊥
IsSomeOrNone Does ms (Some n) = SomeMember Does ms n
