-- What is carried through a history, while the pool is neither refuted nor spent: what is held covers the inputs, each clause that was
-- registered, dead ones included, and the conclusions of the inferences that were counted. It is said for truth values of the names of
-- split-off parts, under which clauses are awake or not: held is what lives and is awake.
use Rattle.std.specs.Prelude.{◌≡◌, ℕ, Bool, List, Some, All, Contains, IsTrue}
use Rattle.std.specs.List.{list_all}
use Rattle.fol_base.specs.Clause.{TreeClause}
use Rattle.fol_base.specs.Symbols.{FunctionSymbols}
use Rattle.fol_base.specs.Selection.{SelectionMode}
use Rattle.kernel_steps.specs.Named.{IsInference}
use Rattle.kernel_steps.specs.declared.key.Key.{Key}
use Rattle.sat_core.specs.Clause.{Valuation}
use Rattle.pool_history.specs.Record.{PoolRecord, clauses_of, clause_numbered, lives, is_awake_under}
use Rattle.pool_history.specs.Outcomes.{premises}
use Rattle.laws_calculus.specs.Coverage.{CoversEach}

-- a registered clause that lives and is awake
abbrev pub IsHeld : Valuation → PoolRecord → TreeClause → Type 0
IsHeld truth r c = (n : ℕ) × IsTrue (lives r n) × (clauses_of r n ≡ Some c) × IsTrue (is_awake_under truth r.parts c)

-- the premises of an inference are awake
abbrev pub has_awake_premises : Valuation → PoolRecord → Key → Bool
has_awake_premises truth r key = list_all (λ n. is_awake_under truth r.parts (clause_numbered r n)) (premises key)

pub record IsCarried
    {is_predicate : ℕ → Bool} (functions : FunctionSymbols is_predicate) (mode : SelectionMode) (inputs : List TreeClause) (truth : Valuation)
    (r : PoolRecord) : Type 0 where
  pub inputs_covered : All (CoversEach functions (IsHeld truth r)) inputs
  pub registered_covered :
      (n : ℕ) (c : TreeClause) → clauses_of r n ≡ Some c → IsTrue (is_awake_under truth r.parts c) → CoversEach functions (IsHeld truth r) c
  -- the conclusions of those that were set aside are not
  pub counted_covered :
      (key : Key) (c : TreeClause)
      → Contains r.counted key → (Contains r.set_aside key → ⊥) → IsTrue (has_awake_premises truth r key)
      → IsInference is_predicate mode (clauses_of r) key c
      → CoversEach functions (IsHeld truth r) c
