-- The inferences of superposition between ground instances of clauses (Bachmair and Ganzinger 1994): the rules, with the conditions
-- of order and selection.
use Rattle.std.specs.Prelude.{◌≡◌, ◌⊎◌, ℕ, Bool, true, false, List, slice_get, None, Some, IsTrue, IsFalse}
use Rattle.fol_base.specs.Tree.{Tree, is_variable}
use Rattle.fol_base.specs.Instance.{Substitution, instance}
use Rattle.fol_base.specs.Place.{subterm}
use Rattle.fol_base.specs.Clause.{TreeLiteral, TreeClause}
use Rattle.fol_base.specs.Symbols.{FunctionSymbols}
use Rattle.fol_base.specs.Ground.{IsGroundOver, GroundClause, literals_instance}
use Rattle.fol_base.specs.Order.{tree_greater}
use Rattle.fol_base.specs.Selection.{SelectionMode, chosen, eligible_in_instance}
use Rattle.fol_base.specs.Sides.{side_of, other_side_of}
use Rattle.fol_base.specs.Rules.{superposed, resolved, factored}
use Rattle.fol_base.specs.declared.clause.Side.{Side}

-- a side of a literal is greater than the other under a substitution
abbrev pub is_greater_side : Substitution → Side → TreeLiteral → Bool
is_greater_side σ side l = tree_greater (instance σ (side_of side l)) (instance σ (other_side_of side l))

-- nothing is chosen in the clause, and its literal is eligible in the instance
pub record UnchosenEligible (mode : SelectionMode) (c : TreeClause) (σ : Substitution) (i : ℕ) (strict : Bool) : Type 0 where
  pub nothing_chosen : chosen mode c.literals ≡ None
  pub is_eligible : IsTrue (eligible_in_instance mode c.literals σ i strict)

-- An equation s = t of an instance of the first clause rewrites s, in the greater side of a literal of an instance of the second,
-- at a place that isn't at or below a variable of that clause. That s = t is positive and s stands there are conditions of the
-- rule.
pub record GroundSuperposition {is_predicate : ℕ → Bool} (functions : FunctionSymbols is_predicate) (mode : SelectionMode) (first : TreeClause) (second : TreeClause) (conclusion : GroundClause) : Type 0 where
  pub first_trees : Substitution
  pub first_ground : IsGroundOver functions first_trees
  pub second_trees : Substitution
  pub second_ground : IsGroundOver functions second_trees
  -- s = t
  pub i : ℕ
  pub from_side : Side
  pub from : TreeLiteral
  pub from_there : slice_get first.literals i ≡ Some from
  pub from_greater : IsTrue (is_greater_side first_trees from_side from)
  pub from_eligible : UnchosenEligible mode first first_trees i true
  -- u = v or its negation
  pub j : ℕ
  pub into_side : Side
  pub into : TreeLiteral
  pub into_there : slice_get second.literals j ≡ Some into
  pub into_greater : IsTrue (is_greater_side second_trees into_side into)
  pub into_eligible :
      (IsFalse into.positive × IsTrue (eligible_in_instance mode second.literals second_trees j false))
      ⊎ (IsTrue into.positive × UnchosenEligible mode second second_trees j true)
  -- the place, in the clause before instantiation
  pub place : List ℕ
  pub old : Tree
  pub old_there : subterm place (side_of into_side into) ≡ Some old
  pub old_no_variable : IsFalse (is_variable old)
  pub concludes :
      superposed (literals_instance first_trees first.literals) i from_side (literals_instance second_trees second.literals) j into_side place
      ≡ Some conclusion

-- An eligible s != s of an instance goes.
pub record GroundResolution {is_predicate : ℕ → Bool} (functions : FunctionSymbols is_predicate) (mode : SelectionMode) (c : TreeClause) (conclusion : GroundClause) : Type 0 where
  pub trees : Substitution
  pub trees_ground : IsGroundOver functions trees
  pub i : ℕ
  pub literal_eligible : IsTrue (eligible_in_instance mode c.literals trees i false)
  pub concludes : resolved (literals_instance trees c.literals) i ≡ Some conclusion

-- Of two equations s = t and s = v of an instance, the first with s greater than t and eligible, the first becomes t != v.
pub record GroundFactoring {is_predicate : ℕ → Bool} (functions : FunctionSymbols is_predicate) (mode : SelectionMode) (c : TreeClause) (conclusion : GroundClause) : Type 0 where
  pub trees : Substitution
  pub trees_ground : IsGroundOver functions trees
  pub i : ℕ
  pub side_i : Side
  pub literal_i : TreeLiteral
  pub i_there : slice_get c.literals i ≡ Some literal_i
  pub i_greater : IsTrue (is_greater_side trees side_i literal_i)
  pub i_eligible : UnchosenEligible mode c trees i false
  pub j : ℕ
  pub side_j : Side
  pub concludes : factored (literals_instance trees c.literals) i side_i j side_j ≡ Some conclusion

-- a ground inference between clauses that satisfy a predicate has this conclusion; its two clauses may be one
abbrev pub GroundConclusion : {is_predicate : ℕ → Bool} → FunctionSymbols is_predicate → SelectionMode → (TreeClause → Type 0) → GroundClause → Type 0
GroundConclusion functions mode Holds conclusion =
    ((first second : TreeClause) × Holds first × Holds second × GroundSuperposition functions mode first second conclusion)
    ⊎ (((c : TreeClause) × Holds c × GroundResolution functions mode c conclusion)
    ⊎ ((c : TreeClause) × Holds c × GroundFactoring functions mode c conclusion))
