-- Which clauses may be used, and the sets that have them.
use Rattle.std.specs.Prelude.{◌≡◌, ◌↔◌, ℕ, List, Option, None, Some, option_map, Contains, IsTrue, if◌then◌else◌}
use Rattle.fol_base.specs.Clause.{TreeClause}
use Rattle.fol_base.specs.WellFormed.{SymbolUse, are_literals_of}
use Rattle.bank_clause.specs.Clause.{clause_at}
use Rattle.bank_clause.specs.declared.clause.BankClause.{BankClause}
use Rattle.bank_clause.specs.declared.member.Member.{Member}
use Rattle.rewriting.specs.Units.{IsUnit, clause_numbered, is_kept}
use Rattle.unit_cutting.specs.Indexed.{HasOneLiteral}

-- ---- one look-up of clauses

-- clauses by their numbers, without the one that is left out
abbrev pub without : Option ℕ → (ℕ → Option TreeClause) → ℕ → Option TreeClause
without out clauses n = if is_kept out n then clauses n else None

-- a clause of them
pub record IsAmong (clauses : ℕ → Option TreeClause) (c : TreeClause) : Type 0 where
  pub number : ℕ
  pub there : clauses number ≡ Some c

-- ---- the sets that have them

-- the set has those that satisfy the predicate, by their numbers, and no others
abbrev pub HasNumbered : (TreeClause → Type 0) → (ℕ → Option TreeClause) → List Member → Type 0
HasNumbered Fits clauses ms =
    (n : ℕ) (c : TreeClause) → (option_map clause_at (clause_numbered n ms) ≡ Some c) ↔ ((clauses n ≡ Some c) × Fits c)

-- a member of a list with this number and this clause
pub record IsMemberWith (ms : List Member) (n : ℕ) (c : TreeClause) : Type 0 where
  pub member : Member
  pub there : Contains ms member
  pub number : member.number ≡ n
  pub clause : clause_at member.clause ≡ c

-- the list has all of them, and no others
abbrev pub HasAll : (ℕ → Option TreeClause) → List Member → Type 0
HasAll clauses ms = (n : ℕ) (c : TreeClause) → IsMemberWith ms n c ↔ (clauses n ≡ Some c)

-- the sets by which clauses are reduced are of one look-up
pub record AreOfClauses (clauses : ℕ → Option TreeClause) (es us : List Member) : Type 0 where
  pub equations : HasNumbered IsUnit clauses es
  pub units : HasNumbered HasOneLiteral clauses us

-- ---- uses of the symbols

-- each member's clause is well-formed
abbrev pub AreClausesOfUse : SymbolUse → List Member → Type 0
AreClausesOfUse usage ms = (n : ℕ) (c : BankClause) → clause_numbered n ms ≡ Some c → IsTrue (are_literals_of usage (clause_at c).literals)

-- a clause is well-formed, together with the members of both sets
pub record AreFormed (usage : SymbolUse) (es us : List Member) (c : TreeClause) : Type 0 where
  pub clause : IsTrue (are_literals_of usage c.literals)
  pub equations : AreClausesOfUse usage es
  pub units : AreClausesOfUse usage us
