-- Units of a set that subsume a clause.
use Rattle.std.specs.Prelude.{◌≡◌, ◌↔◌, ℕ, Bool, List, [], ◌∷◌, Option, None, Some, IsTrue}
use Rattle.plain_types.specs.declared.sequence.NameLit.{NameLit}
use Rattle.fol_base.specs.Instance.{Substitution}
use Rattle.fol_base.specs.Clause.{TreeLiteral, TreeClause, literal_instance}
use Rattle.fol_base.specs.Kind.{is_literal, PutsFunctionTerms}
use Rattle.fol_base.specs.Order.{equivalent_literals}
use Rattle.fol_base.specs.Subsumption.{Subsumes, assertions, is_among}
use Rattle.fol_base.specs.WellFormed.{SymbolUse}
use Rattle.bank_clause.specs.Clause.{clause_at}
use Rattle.bank_clause.specs.declared.clause.BankClause.{BankClause}
use Rattle.bank_clause.specs.declared.member.Member.{Member}
use Rattle.disc_tree.specs.Entries.{IsIn}
use Rattle.rewriting.specs.Units.{clause_numbered, is_kept}
use Rattle.subsume.specs.Target.{AreOfUse}

-- ---- what the call answers

-- the clause subsumes another one, under each use of the symbols under which both are well-formed, or under none of them
abbrev pub SubsumesAlways : TreeClause → TreeClause → Type 0
SubsumesAlways u c = (usage : SymbolUse) → AreOfUse usage u c → Subsumes usage.is_predicate u c

abbrev pub SubsumesNever : TreeClause → TreeClause → Type 0
SubsumesNever u c = (usage : SymbolUse) → AreOfUse usage u c → Subsumes usage.is_predicate u c → ⊥

-- the unit of that number isn't left out, and subsumes the clause
pub record IsSubsumerAt (units : List Member) (out : Option ℕ) (c : TreeClause) (n : ℕ) : Type 0 where
  pub unit : BankClause
  pub there : clause_numbered n units ≡ Some unit
  pub kept : IsTrue (is_kept out n)
  pub subsumes : SubsumesAlways (clause_at unit) c

-- such a unit, or there is none
abbrev pub IsSubsumerOrNone : List Member → Option ℕ → TreeClause → Option ℕ → Type 0
IsSubsumerOrNone units out c None =
    (n : ℕ) (u : BankClause) → clause_numbered n units ≡ Some u → IsTrue (is_kept out n) → SubsumesNever (clause_at u) c
IsSubsumerOrNone units out c (Some n) = IsSubsumerAt units out c n

-- ---- one literal of the clause

-- some substitution by function terms makes the first literal the second one, sides in either order
pub record Becomes (is_predicate : ℕ → Bool) (l m : TreeLiteral) : Type 0 where
  pub matcher : Substitution
  pub function_terms : PutsFunctionTerms is_predicate matcher
  pub becomes : IsTrue (equivalent_literals (literal_instance matcher l) m)

abbrev pub BecomesOrNot : TreeLiteral → TreeLiteral → Bool → Type 0
BecomesOrNot l m answer =
    (is_predicate : ℕ → Bool) → IsTrue (is_literal is_predicate l) → IsTrue (is_literal is_predicate m) → IsTrue answer ↔ Becomes is_predicate l m

-- the unit's literal becomes a literal of a clause with these names, which asserts what the unit asserts
pub record Covers (is_predicate : ℕ → Bool) (u : TreeClause) (names : List NameLit) (l : TreeLiteral) : Type 0 where
  pub literal : TreeLiteral
  pub is_unit : u.literals ≡ literal ∷ []
  pub becomes : Becomes is_predicate literal l
  pub asserted : IsTrue (is_among (assertions u.names) (assertions names))

-- both are well-formed
pub record AreLiteralsOf (is_predicate : ℕ → Bool) (u : TreeClause) (l : TreeLiteral) : Type 0 where
  pub unit : (k : TreeLiteral) → u.literals ≡ k ∷ [] → IsTrue (is_literal is_predicate k)
  pub literal : IsTrue (is_literal is_predicate l)

abbrev pub CoversOrNot : TreeClause → List NameLit → TreeLiteral → Bool → Type 0
CoversOrNot u names l answer =
    (is_predicate : ℕ → Bool) → AreLiteralsOf is_predicate u l → IsTrue answer ↔ Covers is_predicate u names l

-- the unit of that number isn't left out, and covers the literal
pub record IsCoveringAt (units : List Member) (out : Option ℕ) (names : List NameLit) (l : TreeLiteral) (n : ℕ) : Type 0 where
  pub unit : BankClause
  pub there : clause_numbered n units ≡ Some unit
  pub kept : IsTrue (is_kept out n)
  pub covers : (is_predicate : ℕ → Bool) → AreLiteralsOf is_predicate (clause_at unit) l → Covers is_predicate (clause_at unit) names l

-- it doesn't, if there is one that isn't left out
abbrev pub CoversNotAt : List Member → Option ℕ → List NameLit → TreeLiteral → ℕ → Type 0
CoversNotAt units out names l n =
    (u : BankClause)
    → clause_numbered n units ≡ Some u → IsTrue (is_kept out n)
    → (is_predicate : ℕ → Bool) → AreLiteralsOf is_predicate (clause_at u) l → Covers is_predicate (clause_at u) names l → ⊥

-- of the units with numbers of a list, one that covers the literal, or none does
abbrev pub IsCoveringOrNone : List Member → Option ℕ → List NameLit → TreeLiteral → List ℕ → Option ℕ → Type 0
IsCoveringOrNone units out names l numbers None = (n : ℕ) → IsIn n numbers → CoversNotAt units out names l n
IsCoveringOrNone units out names l numbers (Some n) = IsCoveringAt units out names l n

-- the unit with this number covers it, or not
abbrev pub IsCoveringOrNotBy : List Member → Option ℕ → List NameLit → TreeLiteral → ℕ → Option ℕ → Type 0
IsCoveringOrNotBy units out names l n None = CoversNotAt units out names l n
IsCoveringOrNotBy units out names l n (Some m) = IsCoveringAt units out names l m
