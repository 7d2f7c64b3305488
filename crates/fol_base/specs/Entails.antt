-- Entailment between ground clauses (Tarski 1936), over finite interpretations: a finite list of ground clauses that is true in
-- some interpretation is true in a finite one.
use Rattle.std.specs.Prelude.{ℕ, Bool, List, [], ◌↔◌, All, Contains, IsTrue, IsFalse}
use Rattle.fol_base.specs.Ground.{GroundClause}
use Rattle.fol_base.specs.Interpretation.{Interpretation, IsInterpretation, clause_true, clauses_true}

-- no interpretation makes the whole list true and the clause false
abbrev pub Entails : (ℕ → Bool) → List GroundClause → GroundClause → Type 0
Entails is_predicate cs c =
    (i : Interpretation) → IsInterpretation is_predicate i → IsTrue (clauses_true i cs) → IsTrue (clause_true i c)

-- no interpretation makes the whole list true
abbrev pub IsRefuted : (ℕ → Bool) → List GroundClause → Type 0
IsRefuted is_predicate cs = (i : Interpretation) → IsInterpretation is_predicate i → IsFalse (clauses_true i cs)

-- ---- laws

-- each member is entailed
abbrev pub EntailsMembers : Type 0
EntailsMembers = (is_predicate : ℕ → Bool) (cs : List GroundClause) (c : GroundClause) → Contains cs c → Entails is_predicate cs c

-- a list that has all members of another entails each clause that the other entails
abbrev pub EntailsMonotone : Type 0
EntailsMonotone =
    (is_predicate : ℕ → Bool) (cs ds : List GroundClause) (c : GroundClause)
    → All (Contains ds) cs → Entails is_predicate cs c → Entails is_predicate ds c

-- a clause that entailed clauses entail is entailed
abbrev pub EntailsCut : Type 0
EntailsCut =
    (is_predicate : ℕ → Bool) (cs ds : List GroundClause) (c : GroundClause)
    → All (Entails is_predicate cs) ds → Entails is_predicate ds c → Entails is_predicate cs c

-- a list entails the empty clause exactly where it is refuted
abbrev pub EmptyClauseEntailed : Type 0
EmptyClauseEntailed =
    (is_predicate : ℕ → Bool) (cs : List GroundClause) → Entails is_predicate cs [] ↔ IsRefuted is_predicate cs
