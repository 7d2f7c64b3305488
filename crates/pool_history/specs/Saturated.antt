-- Saturated sets (Bachmair and Ganzinger 1994), and the members of a pool.
use Rattle.std.specs.Prelude.{ℕ, Bool, not, ◌&&◌, ◌==◌, List, map, filter, length, All, Contains, IsTrue}
use Rattle.std.specs.List.{list_all}
use Rattle.fol_base.specs.Clause.{TreeClause}
use Rattle.fol_base.specs.Symbols.{FunctionSymbols}
use Rattle.fol_base.specs.Ground.{GroundClause}
use Rattle.fol_base.specs.Selection.{SelectionMode}
use Rattle.fol_base.specs.GroundInference.{GroundConclusion}
use Rattle.fol_base.specs.Covered.{Covers}
use Rattle.laws_calculus.specs.Coverage.{CoversInstancesOf}
use Rattle.pool_history.specs.Record.{PoolRecord, lives, is_awake, clause_numbered, numbers_of}

-- Members are saturated for a form: none is empty, they cover each ground instance of the form, and the conclusion of each ground inference
-- among them.
pub record IsSaturated {is_predicate : ℕ → Bool} (functions : FunctionSymbols is_predicate) (mode : SelectionMode) (form : List TreeClause) (members : List TreeClause) : Type 0 where
  pub none_empty : IsTrue (list_all (λ (c : TreeClause). not (length c.literals == 0)) members)
  pub form_covered : All (CoversInstancesOf functions members) form
  pub closed : (g : GroundClause) → GroundConclusion functions mode (Contains members) g → Covers functions members g

-- the numbers of the living awake clauses, rising
abbrev pub member_numbers : PoolRecord → List ℕ
member_numbers r = filter (λ n. lives r n && is_awake r n) (numbers_of r)

abbrev pub members_of : PoolRecord → List TreeClause
members_of r = map (clause_numbered r) (member_numbers r)
