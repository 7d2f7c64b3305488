-- The sets in which told clauses are looked for.
use Rattle.std.specs.Prelude.{◌≡◌, ◌↔◌, List, Some, Contains}
use Rattle.fol_base.specs.Clause.{TreeClause}
use Rattle.bank_clause.specs.Clause.{clause_at}
use Rattle.bank_clause.specs.declared.member.Member.{Member}
use Rattle.rewriting.specs.Units.{IsUnit, clause_numbered}
use Rattle.unit_cutting.specs.Indexed.{HasOneLiteral}
use Rattle.given_work.specs.declared.sets.Sets.{Sets}

-- the members of a list whose clauses satisfy the predicate, by their numbers
abbrev pub FindsThose : (TreeClause → Type 0) → List Member → List Member → Type 0
FindsThose Fits ms found =
    (m : Member) → (clause_numbered m.number found ≡ Some m.clause) ↔ (Contains ms m × Fits (clause_at m.clause))

-- all of them
abbrev pub HasMembers : List Member → List Member → Type 0
HasMembers ms ss = (m : Member) → Contains ss m ↔ Contains ms m

pub record AreSetsOf (ms : List Member) (sets : Sets) : Type 0 where
  pub equations : FindsThose IsUnit ms sets.equations
  pub units : FindsThose HasOneLiteral ms sets.units
  pub subsumers : HasMembers ms sets.subsumers
