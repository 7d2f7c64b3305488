-- Lifting: the conclusion of each ground inference is a ground instance of the conclusion of one named inference, or has a literal
-- `t = t` (Bachmair and Ganzinger 1994). The named inference has the numbers of the literals, the sides and the place of the ground one.
use Rattle.std.specs.Prelude.{◌≡◌, ◌⊎◌, ℕ, Bool, ◌&&◌, if◌then◌else◌, IsTrue, List, [], Contains, Option, None, Some}
use Rattle.std.specs.List.{list_any}
use Rattle.fol_base.specs.Tree.{tree_eq}
use Rattle.fol_base.specs.Clause.{TreeLiteral, TreeClause}
use Rattle.fol_base.specs.Symbols.{FunctionSymbols}
use Rattle.fol_base.specs.Ground.{GroundClause, GroundInstance}
use Rattle.fol_base.specs.Selection.{SelectionMode}
use Rattle.fol_base.specs.GroundInference.{GroundSuperposition, GroundResolution, GroundFactoring, GroundConclusion}
use Rattle.fol_base.specs.Covered.{InstanceOf, Covers}
use Rattle.kernel_steps.specs.Inference.{NamedSuperposition, NamedResolution, NamedFactoring}
use Rattle.kernel_steps.specs.Named.{IsInference}
use Rattle.kernel_steps.specs.declared.key.Key.{Key}
use Rattle.laws_calculus.specs.Coverage.{CoversInstancesOf}

-- a literal `t = t`
abbrev pub has_equal_sides : TreeLiteral → Bool
has_equal_sides l = l.positive && tree_eq l.left l.right

abbrev pub ResolutionsLift : Type 0
ResolutionsLift =
    (is_predicate : ℕ → Bool) (functions : FunctionSymbols is_predicate) (mode : SelectionMode) (c : TreeClause) (g : GroundClause)
    → (r : GroundResolution functions mode c g)
    → InstanceOf functions (NamedResolution mode c r.i) g

abbrev pub FactoringsLift : Type 0
FactoringsLift =
    (is_predicate : ℕ → Bool) (functions : FunctionSymbols is_predicate) (mode : SelectionMode) (c : TreeClause) (g : GroundClause)
    → (r : GroundFactoring functions mode c g)
    → InstanceOf functions (NamedFactoring is_predicate mode c r.i r.side_i r.j r.side_j) g

-- Or the conclusion has a literal `t = t`: where the other sides become equal at the root of a positive literal, no inference is named,
-- and nowhere else.
abbrev pub SuperpositionsLift : Type 0
SuperpositionsLift =
    (is_predicate : ℕ → Bool) (functions : FunctionSymbols is_predicate) (mode : SelectionMode) (first second : TreeClause) (g : GroundClause)
    → (r : GroundSuperposition functions mode first second g)
    → InstanceOf functions (NamedSuperposition is_predicate mode first r.i r.from_side second r.j r.into_side r.place) g
    ⊎ (IsTrue r.into.positive × (r.place ≡ []) × IsTrue (list_any has_equal_sides g))

-- ---- whichever most general unifier

-- Each conclusion of the named inference has the ground conclusion as a ground instance.
abbrev pub ResolutionsReachAll : Type 0
ResolutionsReachAll =
    (is_predicate : ℕ → Bool) (functions : FunctionSymbols is_predicate) (mode : SelectionMode) (c : TreeClause) (g : GroundClause)
    → (r : GroundResolution functions mode c g)
    → (d : TreeClause) → NamedResolution mode c r.i d → GroundInstance functions d g

abbrev pub FactoringsReachAll : Type 0
FactoringsReachAll =
    (is_predicate : ℕ → Bool) (functions : FunctionSymbols is_predicate) (mode : SelectionMode) (c : TreeClause) (g : GroundClause)
    → (r : GroundFactoring functions mode c g)
    → (d : TreeClause) → NamedFactoring is_predicate mode c r.i r.side_i r.j r.side_j d → GroundInstance functions d g

abbrev pub SuperpositionsReachAll : Type 0
SuperpositionsReachAll =
    (is_predicate : ℕ → Bool) (functions : FunctionSymbols is_predicate) (mode : SelectionMode) (first second : TreeClause) (g : GroundClause)
    → (r : GroundSuperposition functions mode first second g)
    → (d : TreeClause) → NamedSuperposition is_predicate mode first r.i r.from_side second r.j r.into_side r.place d
    → GroundInstance functions d g

-- ---- conclusions of inferences that are named among members

-- The members are those of the clauses, by their numbers, that pass a test. The others are looked up as if they weren't there.
abbrev pub among : (ℕ → Bool) → (ℕ → Option TreeClause) → ℕ → Option TreeClause
among is_member clauses n = if is_member n then clauses n else None

-- a clause that has a member's number
abbrev pub IsMember : (ℕ → Bool) → (ℕ → Option TreeClause) → TreeClause → Type 0
IsMember is_member clauses c = (n : ℕ) × (among is_member clauses n ≡ Some c)

-- For each inference that is named among the members, one of its conclusions satisfies the predicate.
abbrev pub HasConclusionsOf : (ℕ → Bool) → SelectionMode → (ℕ → Bool) → (ℕ → Option TreeClause) → (TreeClause → Type 0) → Type 0
HasConclusionsOf is_predicate mode is_member clauses Holds =
    (key : Key) (d : TreeClause) → IsInference is_predicate mode (among is_member clauses) key d
    → (e : TreeClause) × Holds e × IsInference is_predicate mode clauses key e

-- Clauses that cover the instances of one conclusion of each cover the conclusion of each ground inference among the members,
abbrev pub GroundConclusionsCovered : Type 0
GroundConclusionsCovered =
    (is_predicate : ℕ → Bool) (functions : FunctionSymbols is_predicate) (mode : SelectionMode)
    (is_member : ℕ → Bool) (clauses : ℕ → Option TreeClause) (ds : List TreeClause) (g : GroundClause)
    → HasConclusionsOf is_predicate mode is_member clauses (CoversInstancesOf functions ds)
    → GroundConclusion functions mode (IsMember is_member clauses) g
    → Covers functions ds g

-- and so do clauses that have one conclusion of each.
abbrev pub GroundConclusionsListed : Type 0
GroundConclusionsListed =
    (is_predicate : ℕ → Bool) (functions : FunctionSymbols is_predicate) (mode : SelectionMode)
    (is_member : ℕ → Bool) (clauses : ℕ → Option TreeClause) (ds : List TreeClause) (g : GroundClause)
    → HasConclusionsOf is_predicate mode is_member clauses (Contains ds)
    → GroundConclusion functions mode (IsMember is_member clauses) g
    → Covers functions ds g
