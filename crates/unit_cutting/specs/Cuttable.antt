-- Which members of a list a unit cuts.
use Rattle.std.specs.Prelude.{◌≡◌, ℕ, Bool, List, All}
use Rattle.fol_base.specs.WellFormed.{SymbolUse}
use Rattle.bank_clause.specs.Clause.{clause_at}
use Rattle.bank_clause.specs.declared.member.Member.{Member}
use Rattle.unit_cutting.specs.CutSteps.{CutsSome}
use Rattle.bank_clause.specs.Members.{AreNumbersOf, IsMemberOfUse}

-- a member is another one than the unit, and the unit cuts a literal of it
pub record IsCutBy (is_predicate : ℕ → Bool) (unit : Member) (m : Member) : Type 0 where
  pub another : m.number ≡ unit.number → ⊥
  pub cut : CutsSome is_predicate (clause_at unit.clause) (clause_at m.clause)

-- of a unit, under each use of the symbols under which its clause and those of the members are well-formed
abbrev pub AreCuttable : Member → List Member → List ℕ → Type 0
AreCuttable unit ms numbers =
    (usage : SymbolUse) → IsMemberOfUse usage unit → All (IsMemberOfUse usage) ms → AreNumbersOf (IsCutBy usage.is_predicate unit) ms numbers
