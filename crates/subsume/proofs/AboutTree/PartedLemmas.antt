-- Members parted by whether they have one literal.
use Rattle.std.proofs.Common.{◌≡◌, ℕ, Option, None, Some, List, ◌++◌, ⊎_elim}
use Rattle.std.specs.Prelude.{All, Contains}
use Rattle.std.proofs.lemmas.List.Elements.{All-append, All-contains, Contains-append_cases, Contains-append_right}
use Rattle.fol_base.specs.Clause.{TreeClause}
use Rattle.fol_base.specs.WellFormed.{SymbolUse}
use Rattle.bank_clause.specs.Clause.{clause_at}
use Rattle.bank_clause.specs.Members.{IsMemberOfUse}
use Rattle.bank_clause.specs.declared.member.Member.{Member}
use Rattle.subsume.specs.Editing.{HasNone}
use Rattle.subsume.specs.Features.{AreFeaturesOf}
use Rattle.subsume.specs.Longer.{AreParted, HasOne, IsLonger, IsLongerSubsumer, IsSomeOrNone}
use Rattle.subsume.specs.Query.{IsLongerSubsumerOf, IsLowestSubsumer}
use Rattle.subsume.specs.Searching.{IsLowest, IsSubsumer}
use Rattle.subsume.specs.declared.lowest.Query.{Query}
use Rattle.subsume.proofs.AboutSearch.SearchLemmas.{All-back, All-front, lowest-append, lowest-of-all}

-- ---- searches of both

-- a longer member that is found among the longer ones is found among all
some-longer :
    (usage : SymbolUse) (except : Option ℕ) (d : TreeClause) (units longer : List Member) (found : Option ℕ)
    → AreParted units longer → IsLowest (IsSubsumer usage except d) longer found → IsSomeOrNone (IsLongerSubsumer usage except d) (units ++ longer) found
some-longer usage except d units longer None parted none = λ m there does.
    ⊎_elim
    (λ one. does.longer (All-contains HasOne units m parted.units one))
    (λ other. none m other does.subsumer)
    (Contains-append_cases units longer m there)
some-longer usage except d units longer (Some n) parted lowest =
    let some = lowest.0 in
    record {
      member = some.member;
      there = Contains-append_right units longer some.member some.there;
      does = record { longer = All-contains IsLonger longer some.member parted.longer some.there; subsumer = some.does };
      number = some.number;
    }

module _ (query : Query) (units longer : List Member) where
  pub longer-found :
      (found : Option ℕ) → AreParted units longer → IsLowestSubsumer query longer None found → IsLongerSubsumerOf query (units ++ longer) found
  longer-found found parted lowest = λ usage d q all.
      some-longer usage query.except d units longer found parted
      (lowest-of-all (IsSubsumer usage query.except d) longer found (lowest usage d q (All-back (IsMemberOfUse usage) units longer all)))

  pub lowest-both :
      (first second third : Option ℕ)
      → IsLowestSubsumer query units first second → IsLowestSubsumer query longer second third → IsLowestSubsumer query (units ++ longer) first third
  lowest-both first second third low high = λ usage d q all.
      lowest-append (IsSubsumer usage query.except d) units longer first second third
      (low usage d q (All-front (IsMemberOfUse usage) units longer all)) (high usage d q (All-back (IsMemberOfUse usage) units longer all))

-- ---- taking out

-- a member that stands in neither list stands nowhere
pub none-of-both :
    (values : List ℕ) (number : ℕ) (units longer : List Member) → HasNone values number units → HasNone values number longer → HasNone values number (units ++ longer)
none-of-both values number units longer first second =
    All-append (λ (m : Member). AreFeaturesOf (clause_at m.clause).literals values → m.number ≡ number → ⊥) units longer first second
