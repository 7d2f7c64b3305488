-- Sets of units: what contracts see of one, and what its index has.
use Rattle.std.specs.Prelude.{◌≡◌, ℕ, ◌<◌, ◌^◌, Bool, true, not, ◌&&◌, ◌==◌, List, [], ◌∷◌, Option, None, Some, option_and_then, IsTrue, if◌then◌else◌}
use Rattle.std.specs.Coded.{Coded, codes}
use Rattle.std.specs.List.{list_any, list_all}
use Rattle.fol_base.specs.Tree.{Tree, tree_variables}
use Rattle.fol_base.specs.Clause.{TreeLiteral, TreeClause}
use Rattle.fol_base.specs.Compatible.{compatible_generalisation}
use Rattle.fol_base.specs.Order.{tree_greater}
use Rattle.fol_base.specs.Sides.{side_of, other_side_of}
use Rattle.fol_base.specs.Subsumption.{assertions, is_among}
use Rattle.fol_base.specs.declared.clause.Side.{Side}
use Rattle.fol_base.specs.declared.clause.Side.TheVariants.{Left, Right}
use Rattle.term_bank.specs.Reference.{reference_code}
use Rattle.term_bank.specs.declared.bank.Bank.{Bank}
use Rattle.bank_clause.specs.Clause.{clause_at, IsClauseOf, side_number}
use Rattle.bank_clause.specs.declared.clause.BankClause.{BankClause}
use Rattle.bank_clause.specs.declared.member.Member.{Member}
use Rattle.disc_tree.specs.Entries.{IsIn}
use Rattle.rewriting.specs.Descent.{Descends}
use Rattle.rewriting.specs.declared.index.Orientation.{Orientation}
use Rattle.rewriting.specs.declared.units.Unit.{Unit}

pub members_code : Coded (List Member)
members_code = hlevel (codes, reference_code)

-- ---- members

-- the clause of the member with a number
abbrev pub clause_numbered : ℕ → List Member → Option BankClause
clause_numbered n [] = None
clause_numbered n (m ∷ ms) = if n == m.number then Some m.clause else clause_numbered n ms

-- a clause with one literal, an equation
pub record IsUnit (c : TreeClause) : Type 0 where
  pub equation : TreeLiteral
  pub alone : c.literals ≡ equation ∷ []
  pub positive : equation.positive ≡ true

-- each member's clause is of the bank
abbrev pub AreClausesOf : Bank → List Member → Type 0
AreClausesOf bank ms = (n : ℕ) (c : BankClause) → clause_numbered n ms ≡ Some c → IsClauseOf bank c

-- the number is not the one that is left out
abbrev pub is_kept : Option ℕ → ℕ → Bool
is_kept None n = true
is_kept (Some out) n = not (n == out)

abbrev pub usable_clause : Option ℕ → List ℕ → ℕ → BankClause → Option TreeClause
usable_clause out asserted n c =
    if is_kept out n && is_among (assertions (clause_at c).names) asserted then Some (clause_at c) else None

-- The clause of a member that may rewrite a clause with these assertions: it isn't left out, and its own are among them.
abbrev pub usable : List Member → Option ℕ → List ℕ → ℕ → Option TreeClause
usable ms out asserted n = option_and_then (usable_clause out asserted n) (clause_numbered n ms)

-- ---- the index

-- whether each variable of the other side occurs in this one, as it has to where an equation rewrites by this side
abbrev pub has_other_variables : Side → TreeLiteral → Bool
has_other_variables s e =
    list_all (λ v. list_any (λ w. v == w) (tree_variables (side_of s e))) (tree_variables (other_side_of s e))

-- whether it may rewrite by this side: the other one isn't greater, since then none of its instances is smaller
abbrev pub may_rewrite : Side → TreeLiteral → Bool
may_rewrite s e = has_other_variables s e && not (tree_greater (other_side_of s e) (side_of s e))

abbrev pub member_of : ℕ × Unit → Member
member_of e = record { number = e.0; clause = e.1.clause }

abbrev pub oriented : Side → Orientation → Bool
oriented Left by = by.left
oriented Right by = by.right

-- what is kept of a unit beside its clause
pub record IsRecorded (u : Unit) : Type 0 where
  pub unit : IsUnit (clause_at u.clause)
  pub rewrites : (s : Side) → oriented s u.by ≡ may_rewrite s unit.equation
  pub descends : (s : Side) → IsTrue (may_rewrite s unit.equation) → Descends u.descent (side_of s unit.equation) (other_side_of s unit.equation)

-- its number is one of 32 bits, and the sides by which it may rewrite are entries of the index
pub record IsUnitAt (sides : List (Tree × ℕ)) (n : ℕ) (u : Unit) : Type 0 where
  pub numbered : n < 2 ^ 32
  pub recorded : IsRecorded u
  pub indexed : (s : Side) → IsTrue (may_rewrite s recorded.unit.equation) → IsIn (side_of s recorded.unit.equation, side_number n s) sides

-- the numbers have each side of a member that may be a generalisation of a term, and by which the member may rewrite
abbrev pub HasCandidates : List Member → Tree → List ℕ → Type 0
HasCandidates ms t numbers =
    (n : ℕ) (c : BankClause) (e : TreeLiteral) (s : Side)
    → clause_numbered n ms ≡ Some c → (clause_at c).literals ≡ e ∷ [] → IsTrue (may_rewrite s e)
    → compatible_generalisation (side_of s e) t ≡ true → IsIn (side_number n s) numbers
