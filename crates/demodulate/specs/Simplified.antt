-- What becomes of a clause that is simplified.
use Rattle.std.specs.Prelude.{◌≡◌, ℕ, ◌≤◌, Bool, List, Option, Some, IsTrue}
use Rattle.fol_base.specs.Clause.{TreeClause, clause_size}
use Rattle.fol_base.specs.Canonical.{IsCanonical}
use Rattle.fol_base.specs.Literal.{clause_of}
use Rattle.fol_base.specs.Subsumption.{Subsumes}
use Rattle.fol_base.specs.WellFormed.{SymbolUse}
use Rattle.kernel_steps.specs.Inference.{IsIrreducible, is_tautology}
use Rattle.kernel_steps.specs.Moves.{Move, AreMoves, end_of_moves}
use Rattle.bank_clause.specs.declared.member.Member.{Member}
use Rattle.reduced_clause.specs.Reduced.{IsReduced}
use Rattle.bank_clause.specs.Members.{AreMembersOfUse}
use Rattle.demodulate.specs.Usable.{AreFormed, AreOfClauses, HasAll, IsAmong, without}
use Rattle.demodulate.specs.declared.simplifying.Simplified.{Simplified}
use Rattle.demodulate.specs.declared.simplifying.Simplified.TheVariants.{Tautology, Subsumed, Reduced}

-- some reducing steps lead from the first clause to the second
pub record LeadsTo (is_predicate : ℕ → Bool) (clauses : ℕ → Option TreeClause) (c d : TreeClause) : Type 0 where
  pub moves : List Move
  pub are_moves : AreMoves is_predicate clauses c moves
  pub ends : end_of_moves c moves ≡ d

-- to a tautology
pub record LeadsToTautology (is_predicate : ℕ → Bool) (clauses : ℕ → Option TreeClause) (c : TreeClause) : Type 0 where
  pub result : TreeClause
  pub leads : LeadsTo is_predicate clauses c result
  pub tautology : IsTrue (is_tautology result)

-- to a clause that the clause of that number subsumes
pub record LeadsToSubsumed (is_predicate : ℕ → Bool) (clauses : ℕ → Option TreeClause) (c : TreeClause) (number : ℕ) : Type 0 where
  pub result : TreeClause
  pub leads : LeadsTo is_predicate clauses c result
  pub by : TreeClause
  pub there : clauses number ≡ Some by
  pub subsumes : Subsumes is_predicate by result

-- canonical, with the same names, and no larger
pub record KeepsForm (c d : TreeClause) : Type 0 where
  pub canonical : IsCanonical d
  pub names : d.names ≡ c.names
  pub size : clause_size d ≤ clause_size c

-- as what it was reduced to is
abbrev pub ResultKeepsForm : TreeClause → Simplified → Type 0
ResultKeepsForm c Tautology = Unit {0}
ResultKeepsForm c (Subsumed number) = Unit {0}
ResultKeepsForm c (Reduced r) = KeepsForm c (clause_of r.clause)

-- by the clauses that may be used
abbrev pub IsOutcome : (ℕ → Bool) → (ℕ → Option TreeClause) → TreeClause → Simplified → Type 0
IsOutcome is_predicate clauses c Tautology = LeadsToTautology is_predicate clauses c
IsOutcome is_predicate clauses c (Subsumed number) = LeadsToSubsumed is_predicate clauses c number
IsOutcome is_predicate clauses c (Reduced r) =
    IsReduced is_predicate clauses c r × IsIrreducible is_predicate (IsAmong clauses) (clause_of r.clause)

-- all clauses of the sets, but for the one that is left out
abbrev pub IsSimplified : List Member → List Member → List Member → Option ℕ → TreeClause → Simplified → Type 0
IsSimplified equations units members out c outcome =
    (usage : SymbolUse) (clauses : ℕ → Option TreeClause)
    → AreFormed usage equations units c → AreMembersOfUse usage members → AreOfClauses clauses equations units → HasAll clauses members
    → IsOutcome usage.is_predicate (without out clauses) c outcome
