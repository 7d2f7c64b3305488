-- Named inferences of ground clauses: there is nothing to unify and the order is total, so they are ground inferences, with the same
-- numbers of literals, sides and place, over every list of function symbols.
use Rattle.std.specs.Prelude.{◌≡◌, ℕ, Bool, List, IsTrue}
use Rattle.fol_base.specs.Clause.{TreeClause}
use Rattle.fol_base.specs.Symbols.{FunctionSymbols}
use Rattle.fol_base.specs.Ground.{is_ground_clause}
use Rattle.fol_base.specs.Selection.{SelectionMode}
use Rattle.fol_base.specs.GroundInference.{GroundSuperposition, GroundResolution, GroundFactoring}
use Rattle.fol_base.specs.declared.clause.Side.{Side}
use Rattle.kernel_steps.specs.Inference.{NamedSuperposition, NamedResolution, NamedFactoring}

abbrev pub ResolutionsOnGround : Type 0
ResolutionsOnGround =
    (is_predicate : ℕ → Bool) (functions : FunctionSymbols is_predicate) (mode : SelectionMode) (c : TreeClause) (i : ℕ) (d : TreeClause)
    → IsTrue (is_ground_clause c.literals) → NamedResolution mode c i d
    → (r : GroundResolution functions mode c d.literals) × (r.i ≡ i)

abbrev pub FactoringsOnGround : Type 0
FactoringsOnGround =
    (is_predicate : ℕ → Bool) (functions : FunctionSymbols is_predicate) (mode : SelectionMode)
    (c : TreeClause) (i : ℕ) (side_i : Side) (j : ℕ) (side_j : Side) (d : TreeClause)
    → IsTrue (is_ground_clause c.literals) → NamedFactoring is_predicate mode c i side_i j side_j d
    → (r : GroundFactoring functions mode c d.literals) × (r.i ≡ i) × (r.side_i ≡ side_i) × (r.j ≡ j) × (r.side_j ≡ side_j)

abbrev pub SuperpositionsOnGround : Type 0
SuperpositionsOnGround =
    (is_predicate : ℕ → Bool) (functions : FunctionSymbols is_predicate) (mode : SelectionMode)
    (first : TreeClause) (i : ℕ) (from_side : Side) (second : TreeClause) (j : ℕ) (into_side : Side) (place : List ℕ) (d : TreeClause)
    → IsTrue (is_ground_clause first.literals) → IsTrue (is_ground_clause second.literals)
    → NamedSuperposition is_predicate mode first i from_side second j into_side place d
    → (r : GroundSuperposition functions mode first second d.literals)
    × (r.i ≡ i) × (r.from_side ≡ from_side) × (r.j ≡ j) × (r.into_side ≡ into_side) × (r.place ≡ place)
