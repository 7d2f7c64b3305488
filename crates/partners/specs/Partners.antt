-- Sets of members with positions: what contracts see of one, and what its index has.
use Rattle.std.specs.Prelude.{◌≡◌, ℕ, ◌==◌, nat_lt, List, [], ◌∷◌, Option, None, Some, option_and_then, if◌then◌else◌}
use Rattle.std.specs.Coded.{Coded, codes}
use Rattle.fol_base.specs.Clause.{TreeLiteral}
use Rattle.literal_selection.specs.declared.choice.Selection.{Selection}
use Rattle.term_bank.specs.Reference.{reference_code}
use Rattle.term_bank.specs.declared.bank.Bank.{Bank}
use Rattle.bank_clause.specs.Clause.{clause_at, IsMemberOf}
use Rattle.bank_clause.specs.declared.member.Member.{Member}
use Rattle.superpose.specs.Sites.{AreSitesOf}
use Rattle.superpose.specs.declared.sites.Sites.{Sites}

-- ---- members

-- a member and its position, by which it is earlier or later than others
pub record Placed : Type 0 where
  pub position : ℕ
  pub member : Member

-- the mode by which sites are found, and the members
pub record PartnerSet : Type 0 where
  pub mode : Selection
  pub members : List Placed

pub partner_set_code : Coded PartnerSet
partner_set_code = hlevel (codes, reference_code)

-- the member with a number
abbrev pub placed_numbered : ℕ → List Placed → Option Placed
placed_numbered n [] = None
placed_numbered n (p ∷ ps) = if n == p.member.number then Some p else placed_numbered n ps

abbrev pub before : ℕ → Placed → Option Member
before bound p = if nat_lt p.position bound then Some p.member else None

-- the member with a number, if its position is below a bound
abbrev pub partner_before : ℕ → PartnerSet → ℕ → Option Member
partner_before bound set n = option_and_then (before bound) (placed_numbered n set.members)

-- each member's clause is of the bank
abbrev pub AreOfBank : Bank → PartnerSet → Type 0
AreOfBank bank set = (n : ℕ) (p : Placed) → placed_numbered n set.members ≡ Some p → IsMemberOf bank p.member

-- ---- a member more, or fewer

-- the set with one more
pub record HasAlso (p : Placed) (old new : PartnerSet) : Type 0 where
  pub mode : new.mode ≡ old.mode
  pub members :
      (n : ℕ) → placed_numbered n new.members ≡ (if p.member.number == n then Some p else placed_numbered n old.members)

-- the set without the number
pub record HasNoMore (number : ℕ) (old new : PartnerSet) : Type 0 where
  pub mode : new.mode ≡ old.mode
  pub members : (n : ℕ) → placed_numbered n new.members ≡ (if number == n then None else placed_numbered n old.members)

-- ---- sites

-- the sites of the member's clause, for the set's mode
pub record AreSitesFor (mode : Selection) (m : Member) (sites : Sites) : Type 0 where
  pub of_clause : AreSitesOf (clause_at m.clause) sites
  pub mode_is : sites.mode ≡ mode

abbrev pub literals_of : Member → List TreeLiteral
literals_of m = (clause_at m.clause).literals
