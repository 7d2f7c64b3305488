-- Clauses that are subsumed by those that may be used.
use Rattle.std.specs.Prelude.{ℕ, Bool, List, Option, None, Some}
use Rattle.fol_base.specs.Clause.{TreeClause}
use Rattle.fol_base.specs.Subsumption.{Subsumes}
use Rattle.fol_base.specs.WellFormed.{SymbolUse}
use Rattle.kernel_steps.specs.Inference.{SomeClause}
use Rattle.kernel_steps.specs.Named.{OfOne}
use Rattle.bank_clause.specs.Members.{AreMembersOfUse}
use Rattle.bank_clause.specs.declared.member.Member.{Member}
use Rattle.demodulate.specs.Usable.{AreFormed, AreOfClauses, HasAll, IsAmong, without}

-- the clause of that number subsumes the clause; or none of the clauses does
abbrev pub IsSubsumedOrNot : (ℕ → Bool) → (ℕ → Option TreeClause) → TreeClause → Option ℕ → Type 0
IsSubsumedOrNot is_predicate clauses c None = SomeClause (IsAmong clauses) (λ d. Subsumes is_predicate d c) → ⊥
IsSubsumedOrNot is_predicate clauses c (Some n) = OfOne clauses n (λ d. Subsumes is_predicate d c)

-- by all clauses of the sets, but for the one that is left out
abbrev pub IsSubsumedBySome : List Member → List Member → List Member → Option ℕ → TreeClause → Option ℕ → Type 0
IsSubsumedBySome equations units members out c found =
    (usage : SymbolUse) (clauses : ℕ → Option TreeClause)
    → AreFormed usage equations units c → AreMembersOfUse usage members → AreOfClauses clauses equations units → HasAll clauses members
    → IsSubsumedOrNot usage.is_predicate (without out clauses) c found
