-- The calculus of superposition on clauses with variables (Bachmair and Ganzinger 1994, Nieuwenhuis and Rubio 2001): the generating
-- rules by most general unifiers, each inference with its name, and the steps by which clauses are reduced.
use Rattle.std.specs.Prelude.{◌≡◌, ◌⊎◌, ℕ, Bool, true, false, not, ◌&&◌, ◌||◌, ◌==◌, List, [], ◌∷◌, ◌++◌, remove, All, Some, slice_get, IsTrue, IsFalse}
use Rattle.std.specs.List.{list_any}
use Rattle.fol_base.specs.Tree.{Tree, variable, application, true_symbol, tree_eq, tree_variables, is_truth, is_variable}
use Rattle.fol_base.specs.Instance.{Substitution, instance}
use Rattle.fol_base.specs.Place.{subterm}
use Rattle.fol_base.specs.Clause.{TreeLiteral, TreeClause, literal_instance}
use Rattle.fol_base.specs.Ground.{literals_instance}
use Rattle.fol_base.specs.Kind.{PutsFunctionTerms}
use Rattle.fol_base.specs.Order.{tree_greater, equivalent_literals}
use Rattle.fol_base.specs.Selection.{SelectionMode, eligible_in_instance}
use Rattle.fol_base.specs.GroundInference.{UnchosenEligible}
use Rattle.fol_base.specs.Sides.{side_of, other_side_of}
use Rattle.fol_base.specs.Rules.{superposed, resolved, factored, merged}
use Rattle.fol_base.specs.Unifier.{IsMostGeneralUnifier, IsMostGeneralUnifierApart, IsMatcher}
use Rattle.fol_base.specs.Subsumption.{assertions, is_among, Subsumes}
use Rattle.fol_base.specs.declared.clause.Side.{Side}
use Rattle.kernel_steps.specs.Names.{sorted_names}
use Rattle.kernel_steps.specs.Derivation.{complement}

-- ---- kinds and order

-- the head is a predicate
abbrev pub has_predicate_head : (ℕ → Bool) → Tree → Bool
has_predicate_head is_predicate (variable v) = false
has_predicate_head is_predicate (application f ts) = not (f == true_symbol) && is_predicate f

-- heads of one kind: both terms have a predicate as their head, or both are variables or have a function symbol as it
abbrev pub have_heads_of_one_kind : (ℕ → Bool) → Tree → Tree → Bool
have_heads_of_one_kind is_predicate s t =
    (has_predicate_head is_predicate s && has_predicate_head is_predicate t)
    || ((not (has_predicate_head is_predicate s) && not (is_truth s)) && (not (has_predicate_head is_predicate t) && not (is_truth t)))

-- the other side of a literal isn't greater than or equal to a side, under a substitution
abbrev pub other_side_not_above : Substitution → Side → TreeLiteral → Bool
other_side_not_above σ side l =
    not (tree_greater (instance σ (other_side_of side l)) (instance σ (side_of side l)))
    && not (tree_eq (instance σ (other_side_of side l)) (instance σ (side_of side l)))

-- ---- the generating rules

-- Superposition of literal i of the first clause, s = t, into literal j of the second, u = v or its negation, at a place of u that is no
-- variable. The variables of the two clauses are different ones, so each has a substitution of its own. The rule's own conditions, that
-- s = t is positive and s isn't `$true`, are not repeated.
pub record NamedSuperposition
    (is_predicate : ℕ → Bool) (mode : SelectionMode) (first : TreeClause) (i : ℕ) (from_side : Side)
    (second : TreeClause) (j : ℕ) (into_side : Side) (place : List ℕ) (conclusion : TreeClause) : Type 0 where
  pub from : TreeLiteral
  pub from_there : slice_get first.literals i ≡ Some from
  pub into : TreeLiteral
  pub into_there : slice_get second.literals j ≡ Some into
  pub old : Tree
  pub old_there : subterm place (side_of into_side into) ≡ Some old
  pub no_variable : IsFalse (is_variable old)
  pub one_kind : IsTrue (have_heads_of_one_kind is_predicate (side_of from_side from) old)
  pub first_unifier : Substitution
  pub second_unifier : Substitution
  pub most_general : IsMostGeneralUnifierApart (side_of from_side from) old first_unifier second_unifier
  pub from_ordered : IsTrue (other_side_not_above first_unifier from_side from)
  pub into_ordered : IsTrue (other_side_not_above second_unifier into_side into)
  pub from_eligible : UnchosenEligible mode first first_unifier i true
  pub into_eligible :
      (IsFalse into.positive × IsTrue (eligible_in_instance mode second.literals second_unifier j false))
      ⊎ (IsTrue into.positive × UnchosenEligible mode second second_unifier j true)
  -- else the conclusion would have a literal `t = t`
  pub others_differ :
      IsTrue into.positive → place ≡ []
      → IsFalse (tree_eq (instance first_unifier (other_side_of from_side from)) (instance second_unifier (other_side_of into_side into)))
  pub concludes :
      superposed (literals_instance first_unifier first.literals) i from_side (literals_instance second_unifier second.literals) j into_side place
      ≡ Some conclusion.literals
  pub names : conclusion.names ≡ sorted_names (first.names ++ second.names)

-- Equality resolution of literal i, negative, whose sides unify.
pub record NamedResolution (mode : SelectionMode) (c : TreeClause) (i : ℕ) (conclusion : TreeClause) : Type 0 where
  pub literal : TreeLiteral
  pub literal_there : slice_get c.literals i ≡ Some literal
  pub unifier : Substitution
  pub most_general : IsMostGeneralUnifier literal.left literal.right unifier
  pub is_eligible : IsTrue (eligible_in_instance mode c.literals unifier i false)
  pub concludes : resolved (literals_instance unifier c.literals) i ≡ Some conclusion.literals
  pub names : conclusion.names ≡ sorted_names c.names

-- Equality factoring of literals i and j, different and positive, s = t and u = v, where s and u unify: the first becomes t != v.
pub record NamedFactoring
    (is_predicate : ℕ → Bool) (mode : SelectionMode) (c : TreeClause) (i : ℕ) (side_i : Side) (j : ℕ) (side_j : Side)
    (conclusion : TreeClause) : Type 0 where
  pub literal_i : TreeLiteral
  pub i_there : slice_get c.literals i ≡ Some literal_i
  pub literal_j : TreeLiteral
  pub j_there : slice_get c.literals j ≡ Some literal_j
  pub one_kind : IsTrue (have_heads_of_one_kind is_predicate (side_of side_i literal_i) (side_of side_j literal_j))
  pub unifier : Substitution
  pub most_general : IsMostGeneralUnifier (side_of side_i literal_i) (side_of side_j literal_j) unifier
  pub i_ordered : IsTrue (other_side_not_above unifier side_i literal_i)
  pub i_eligible : UnchosenEligible mode c unifier i false
  pub concludes : factored (literals_instance unifier c.literals) i side_i j side_j ≡ Some conclusion.literals
  pub names : conclusion.names ≡ sorted_names c.names

-- ---- reducing steps

-- a literal t != t is removed
pub record DropsTrivial (c : TreeClause) (d : TreeClause) : Type 0 where
  pub i : ℕ
  pub gives : resolved c.literals i ≡ Some d.literals
  pub names : d.names ≡ c.names

-- two equal literals are merged
pub record MergesEqual (c : TreeClause) (d : TreeClause) : Type 0 where
  pub stays : ℕ
  pub goes : ℕ
  pub gives : merged c.literals stays goes ≡ Some d.literals
  pub names : d.names ≡ c.names

-- where the root of a side of a positive literal is rewritten, the other side has to be greater than the new term
abbrev pub AllowsRoot : TreeLiteral → Side → List ℕ → Tree → Type 0
AllowsRoot l side place new = IsTrue l.positive → place ≡ [] → IsTrue (tree_greater (other_side_of side l) new)

-- A unit l = r rewrites a place of a side of literal j of c.
pub record RewritesBy (is_predicate : ℕ → Bool) (unit : TreeClause) (c : TreeClause) (d : TreeClause) : Type 0 where
  pub equation : TreeLiteral
  pub is_unit : unit.literals ≡ equation ∷ []
  pub from_side : Side
  pub j : ℕ
  pub literal : TreeLiteral
  pub literal_there : slice_get c.literals j ≡ Some literal
  pub into_side : Side
  pub place : List ℕ
  pub old : Tree
  pub old_there : subterm place (side_of into_side literal) ≡ Some old
  pub one_kind : IsTrue (have_heads_of_one_kind is_predicate (side_of from_side equation) old)
  pub matcher : Substitution
  pub function_terms : PutsFunctionTerms is_predicate matcher
  pub matches : IsMatcher (side_of from_side equation) old matcher
  pub greater : IsTrue (tree_greater old (instance matcher (other_side_of from_side equation)))
  pub no_new_variables :
      All (λ v. IsTrue (list_any (λ w. v == w) (tree_variables (side_of from_side equation)))) (tree_variables (other_side_of from_side equation))
  pub root_allowed : AllowsRoot literal into_side place (instance matcher (other_side_of from_side equation))
  pub asserted : IsTrue (is_among (assertions unit.names) (assertions c.names))
  pub gives : superposed (literals_instance matcher unit.literals) 0 from_side c.literals j into_side place ≡ Some d.literals
  pub names : d.names ≡ c.names

-- A unit cuts literal j of c, which is the complement of an instance of the unit's, sides in either order, and no equation of `$true` with
-- itself.
pub record CutsBy (is_predicate : ℕ → Bool) (unit : TreeClause) (c : TreeClause) (d : TreeClause) : Type 0 where
  pub unit_literal : TreeLiteral
  pub is_unit : unit.literals ≡ unit_literal ∷ []
  pub j : ℕ
  pub literal : TreeLiteral
  pub literal_there : slice_get c.literals j ≡ Some literal
  pub no_truths : IsFalse (is_truth literal.left && is_truth literal.right)
  pub matcher : Substitution
  pub function_terms : PutsFunctionTerms is_predicate matcher
  pub matches : IsTrue (equivalent_literals (literal_instance matcher (complement unit_literal)) literal)
  pub asserted : IsTrue (is_among (assertions unit.names) (assertions c.names))
  pub gives : d.literals ≡ remove c.literals j
  pub names : d.names ≡ c.names

-- some clause that satisfies the predicate
pub record SomeClause (Holds : TreeClause → Type 0) (Does : TreeClause → Type 0) : Type 0 where
  pub clause : TreeClause
  pub holds : Holds clause
  pub does : Does clause

-- A reducing step leads from c to d, by a unit that satisfies the predicate or by none. The predicate is to leave out the clause
-- itself, not an equal one.
abbrev pub Reduces : (ℕ → Bool) → (TreeClause → Type 0) → TreeClause → TreeClause → Type 0
Reduces is_predicate Holds c d =
    DropsTrivial c d
    ⊎ (MergesEqual c d
    ⊎ (SomeClause Holds (λ unit. RewritesBy is_predicate unit c d) ⊎ SomeClause Holds (λ unit. CutsBy is_predicate unit c d)))

-- ---- tautologies, irreducible clauses

-- a literal `t = t`, or one whose complement stands beside it, sides in either order
abbrev pub makes_tautology : List TreeLiteral → TreeLiteral → Bool
makes_tautology ls l = (l.positive && tree_eq l.left l.right) || list_any (equivalent_literals (complement l)) ls

-- a clause with such a literal is true in every interpretation
abbrev pub is_tautology : TreeClause → Bool
is_tautology c = list_any (makes_tautology c.literals) c.literals

-- no reducing step applies, by the clauses that satisfy the predicate; it is no tautology; and none of them subsumes it
pub record IsIrreducible (is_predicate : ℕ → Bool) (Holds : TreeClause → Type 0) (c : TreeClause) : Type 0 where
  pub no_step : (d : TreeClause) → Reduces is_predicate Holds c d → ⊥
  pub no_tautology : IsFalse (is_tautology c)
  pub not_subsumed : SomeClause Holds (λ d. Subsumes is_predicate d c) → ⊥
