-- Coverage: redundancy of ground clauses (Bachmair and Ganzinger 1994), where the covering instances may be as great as the clause.
use Rattle.std.specs.Prelude.{◌≡◌, ℕ, Bool, false, List, All, Contains, IsTrue}
use Rattle.fol_base.specs.Clause.{TreeClause}
use Rattle.fol_base.specs.Ground.{GroundClause, GroundInstance, is_ground_clause}
use Rattle.fol_base.specs.Symbols.{FunctionSymbols}
use Rattle.fol_base.specs.Entails.{Entails}
use Rattle.fol_base.specs.Order.{clause_greater}

-- g is a ground instance of a clause that satisfies the predicate
pub record InstanceOf {is_predicate : ℕ → Bool} (functions : FunctionSymbols is_predicate) (Holds : TreeClause → Type 0) (g : GroundClause) : Type 0 where
  pub clause : TreeClause
  pub holds : Holds clause
  pub is_instance : GroundInstance functions clause g

-- finitely many ground instances of clauses that satisfy the predicate, none greater than c, entail c
pub record Covered {is_predicate : ℕ → Bool} (functions : FunctionSymbols is_predicate) (Holds : TreeClause → Type 0) (c : GroundClause) : Type 0 where
  pub by : List GroundClause
  pub instances : All (InstanceOf functions Holds) by
  pub none_greater : All (λ g. clause_greater g c ≡ false) by
  pub entailed : Entails is_predicate by c

-- a ground clause is covered by the clauses of a list
abbrev pub Covers : {is_predicate : ℕ → Bool} → FunctionSymbols is_predicate → List TreeClause → GroundClause → Type 0
Covers functions cs c = Covered functions (Contains cs) c

-- ---- laws

-- a list covers the ground instances of its members
abbrev pub CoversInstances : Type 0
CoversInstances =
    (is_predicate : ℕ → Bool) (functions : FunctionSymbols is_predicate) (cs : List TreeClause) (c : TreeClause) (g : GroundClause)
    → Contains cs c → GroundInstance functions c g → Covers functions cs g

-- a list that has all members of another covers each clause that the other covers
abbrev pub CoversMore : Type 0
CoversMore =
    (is_predicate : ℕ → Bool) (functions : FunctionSymbols is_predicate) (cs ds : List TreeClause) (c : GroundClause)
    → All (Contains ds) cs → Covers functions cs c → Covers functions ds c

-- a list covers each clause that is covered by clauses whose ground instances the list covers
abbrev pub CoversAcross : Type 0
CoversAcross =
    (is_predicate : ℕ → Bool) (functions : FunctionSymbols is_predicate) (cs ds : List TreeClause) (c : GroundClause)
    → IsTrue (is_ground_clause c)
    → ((d : TreeClause) → Contains cs d → (g : GroundClause) → GroundInstance functions d g → Covers functions ds g)
    → Covers functions cs c
    → Covers functions ds c
