-- What a search looks for.
use Rattle.std.specs.Prelude.{◌↔◌, ℕ, Bool, List, Option, IsTrue}
use Rattle.fol_base.specs.Clause.{TreeClause}
use Rattle.fol_base.specs.WellFormed.{SymbolUse, are_literals_of}
use Rattle.bank_clause.specs.declared.member.Member.{Member}
use Rattle.subsume.specs.Features.{AreFeaturesOf}
use Rattle.subsume.specs.Target.{IsTargetOf}
use Rattle.subsume.specs.Searching.{IsSubsumer, IsBelow, IsLowestBelow}
use Rattle.subsume.specs.Longer.{IsLongerSubsumer, IsSomeOrNone}
use Rattle.bank_clause.specs.Members.{IsMemberOfUse, AreMembersOfUse}
use Rattle.subsume.specs.declared.lowest.Query.{Query}

-- the query is for what subsumes the clause, which is well-formed
pub record IsQueryFor (query : Query) (usage : SymbolUse) (d : TreeClause) : Type 0 where
  pub target : IsTargetOf query.target d
  pub features : AreFeaturesOf d.literals query.features.values
  pub of_use : IsTrue (are_literals_of usage d.literals)

-- the lowest subsumer below a bound
abbrev pub IsLowestSubsumer : Query → List Member → Option ℕ → Option ℕ → Type 0
IsLowestSubsumer query ms before after =
    (usage : SymbolUse) (d : TreeClause) → IsQueryFor query usage d → AreMembersOfUse usage ms
    → IsLowestBelow (IsSubsumer usage query.except d) ms before after

-- some subsumer that is longer, or none is one
abbrev pub IsLongerSubsumerOf : Query → List Member → Option ℕ → Type 0
IsLongerSubsumerOf query ms found =
    (usage : SymbolUse) (d : TreeClause) → IsQueryFor query usage d → AreMembersOfUse usage ms
    → IsSomeOrNone (IsLongerSubsumer usage query.except d) ms found

-- the member is a subsumer below the bound exactly where the answer says so
abbrev pub IsLowering : Query → Member → Option ℕ → Bool → Type 0
IsLowering query m bound answer =
    (usage : SymbolUse) (d : TreeClause) → IsQueryFor query usage d → IsMemberOfUse usage m
    → IsTrue answer ↔ (IsBelow m.number bound × IsSubsumer usage query.except d m)
