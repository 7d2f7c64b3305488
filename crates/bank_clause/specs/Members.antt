-- What searches among members say.
use Rattle.std.specs.Prelude.{◌≡◌, ◌↔◌, ℕ, List, All, Contains, IsTrue}
use Rattle.std.specs.List.Sorted.{IsStrictlyIncreasing}
use Rattle.fol_base.specs.WellFormed.{SymbolUse, are_literals_of}
use Rattle.bank_clause.specs.Clause.{clause_at}
use Rattle.bank_clause.specs.declared.member.Member.{Member}

-- the member's clause is well-formed under a use of the symbols
abbrev pub IsMemberOfUse : SymbolUse → Member → Type 0
IsMemberOfUse usage m = IsTrue (are_literals_of usage (clause_at m.clause).literals)

abbrev pub AreMembersOfUse : SymbolUse → List Member → Type 0
AreMembersOfUse usage ms = All (IsMemberOfUse usage) ms

-- a member that does it, with this number
pub record SomeMember (Does : Member → Type 0) (ms : List Member) (n : ℕ) : Type 0 where
  pub member : Member
  pub there : Contains ms member
  pub does : Does member
  pub number : member.number ≡ n

-- the numbers of exactly the members that do it, rising
pub record AreNumbersOf (Does : Member → Type 0) (ms : List Member) (ns : List ℕ) : Type 0 where
  pub rise : IsStrictlyIncreasing ns
  pub exact : (n : ℕ) → Contains ns n ↔ SomeMember Does ms n
