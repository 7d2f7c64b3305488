-- Sets of clauses with one literal: what contracts see of one, and what its tree has.
use Rattle.std.specs.Prelude.{◌≡◌, ℕ, ◌<◌, ◌^◌, Bool, true, ◌||◌, List, [], ◌∷◌, length, Some}
use Rattle.fol_base.specs.Tree.{Tree}
use Rattle.fol_base.specs.Clause.{TreeLiteral, TreeClause}
use Rattle.fol_base.specs.Compatible.{compatible_generalisation}
use Rattle.bank_clause.specs.Clause.{clause_at}
use Rattle.bank_clause.specs.declared.clause.BankClause.{BankClause}
use Rattle.bank_clause.specs.declared.member.Member.{Member}
use Rattle.disc_tree.specs.Entries.{IsIn}
use Rattle.rewriting.specs.Units.{clause_numbered}

abbrev pub HasOneLiteral : TreeClause → Type 0
HasOneLiteral c = length c.literals ≡ 1

-- ---- the map and the tree

-- a clause under its number
abbrev pub numbered : ℕ → BankClause → Member
numbered n c = record { number = n; clause = c }

-- an entry of the map
abbrev pub member_of : ℕ × Member → Member
member_of e = numbered e.0 e.1.clause

-- A member of the map stands there under its own number, one of 32 bits; it has one literal, and that literal's left side is an entry of the tree.
pub record IsIndexedAt (lefts : List (Tree × ℕ)) (n : ℕ) (m : Member) : Type 0 where
  pub number : m.number ≡ n
  pub low : n < 2 ^ 32
  pub literal : TreeLiteral
  pub alone : (clause_at m.clause).literals ≡ literal ∷ []
  pub indexed : IsIn (literal.left, n) lefts

-- what a change to the tree keeps: each entry with another number
abbrev pub KeepsOthers : ℕ → List (Tree × ℕ) → List (Tree × ℕ) → Type 0
KeepsOthers number old new = (t : Tree) (n : ℕ) → (n ≡ number → ⊥) → IsIn (t, n) old → IsIn (t, n) new

-- ---- a query

-- whether, by its heads, the left side of a literal comes into question as a generalisation of a side of another one
abbrev pub may_cover : TreeLiteral → TreeLiteral → Bool
may_cover u l = compatible_generalisation u.left l.left || compatible_generalisation u.left l.right

-- the numbers have each member whose literal may cover another one
abbrev pub HasCandidates : List Member → TreeLiteral → List ℕ → Type 0
HasCandidates units l numbers =
    (n : ℕ) (c : BankClause) (u : TreeLiteral)
    → clause_numbered n units ≡ Some c → (clause_at c).literals ≡ u ∷ [] → may_cover u l ≡ true → IsIn n numbers
