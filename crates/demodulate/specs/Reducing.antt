-- Clauses that are reduced further, and to the end.
use Rattle.std.specs.Prelude.{◌≡◌, ℕ, ◌≤◌, Bool, List, Option, IsTrue, IsFalse}
use Rattle.fol_base.specs.Clause.{TreeClause, clause_size}
use Rattle.fol_base.specs.Canonical.{IsCanonical}
use Rattle.fol_base.specs.Literal.{clause_of}
use Rattle.fol_base.specs.WellFormed.{SymbolUse, are_literals_of}
use Rattle.kernel_steps.specs.Inference.{Reduces, is_tautology}
use Rattle.kernel_steps.specs.declared.step.Reduced.{Reduced}
use Rattle.bank_clause.specs.declared.member.Member.{Member}
use Rattle.reduced_clause.specs.Reduced.{IsReduced}
use Rattle.demodulate.specs.Usable.{AreFormed, AreOfClauses, IsAmong, without}
use Rattle.demodulate.specs.declared.reducing.Reduction.{Reduction}
use Rattle.demodulate.specs.declared.reducing.Reduction.TheVariants.{Tautology, Irreducible}

-- what was reduced is reduced further, by clauses
abbrev pub GoesFurther : (ℕ → Bool) → (ℕ → Option TreeClause) → Reduced → Reduced → Type 0
GoesFurther is_predicate clauses old new =
    (c : TreeClause) → IsReduced is_predicate clauses c old → IsReduced is_predicate clauses c new

-- The clause was reduced further by the clauses of two sets, but for the one that is left out. It is none that couldn't be kept.
pub record IsFurther (equations units : List Member) (out : Option ℕ) (old new : Reduced) : Type 0 where
  pub canonical : IsCanonical (clause_of new.clause)
  pub names : (clause_of new.clause).names ≡ (clause_of old.clause).names
  pub size : clause_size (clause_of new.clause) ≤ clause_size (clause_of old.clause)
  pub formed :
      (usage : SymbolUse) → AreFormed usage equations units (clause_of old.clause) → IsTrue (are_literals_of usage (clause_of new.clause).literals)
  pub reduced :
      (usage : SymbolUse) (clauses : ℕ → Option TreeClause)
      → AreFormed usage equations units (clause_of old.clause) → AreOfClauses clauses equations units
      → GoesFurther usage.is_predicate (without out clauses) old new

-- no reducing step applies, by clauses
abbrev pub NoStepBy : (ℕ → Bool) → (ℕ → Option TreeClause) → TreeClause → Type 0
NoStepBy is_predicate clauses c = (d : TreeClause) → Reduces is_predicate (IsAmong clauses) c d → ⊥

-- no reducing step applies to the result, by all clauses of the sets but for the one that is left out
abbrev pub IsIrreducibleBySteps : List Member → List Member → Option ℕ → Reduced → Reduced → Type 0
IsIrreducibleBySteps equations units out old new =
    (usage : SymbolUse) (clauses : ℕ → Option TreeClause)
    → AreFormed usage equations units (clause_of old.clause) → AreOfClauses clauses equations units
    → NoStepBy usage.is_predicate (without out clauses) (clause_of new.clause)

-- how reducing ended: no step led to a tautology from a clause that was none
abbrev pub IsReduction : List Member → List Member → Option ℕ → Reduced → Reduced → Reduction → Type 0
IsReduction equations units out old new Tautology = IsTrue (is_tautology (clause_of new.clause))
IsReduction equations units out old new Irreducible =
    IsIrreducibleBySteps equations units out old new
    × (IsFalse (is_tautology (clause_of old.clause)) → IsFalse (is_tautology (clause_of new.clause)))
