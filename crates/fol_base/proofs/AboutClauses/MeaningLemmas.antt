-- Proofs of the laws of ground instances, of interpretations and of entailment.
use Rattle.std.proofs.Common.{◌≡◌, ℕ, zero, suc, true, ◌&&◌, ◌||◌, ◌==◌, List, [], ◌∷◌, get_or, slice_get, slice_set, Some, refl, ap, ap₂, sym, ◌∙◌, ⊎_elim}
use Rattle.std.specs.Prelude.{All, option_map}
use Rattle.std.proofs.lemmas.Bool.{and_parts, and_from, or_cases, or_left, or_right, eq-eqb, true≢false}
use Rattle.std.proofs.lemmas.Option.{option_and_then_some, same_Some}
use Rattle.std.proofs.lemmas.List.Elements.{All-contains}
use Rattle.std.proofs.lemmas.List.Sums.{AllPass-from_list_all, list_all-from_AllPass}
use Rattle.fol_base.specs.Tree.{Tree, variable, application, Trees, no_trees, tree_then, trees_of, list_of, trees_count}
use Rattle.fol_base.specs.Instance.{Substitution, instance, instances}
use Rattle.fol_base.specs.Place.{argument, with_argument, subterm, replaced}
use Rattle.fol_base.specs.Clause.{literal_instance}
use Rattle.fol_base.specs.Ground.{has_symbol, is_ground, are_ground, is_over, are_over, ground_over, is_ground_literal, is_ground_clause, ConstantsGiveGroundTrees, GroundInstancesAreGround}
use Rattle.fol_base.specs.Symbols.{FunctionSymbol, has_constant}
use Rattle.fol_base.specs.Interpretation.{Interpretation, symbol_value, Assignment, tree_value, trees_values, sides_true, literal_true_under, no_values, clause_true, CongruenceOfValues, ValuesOfInstances, TruthOfInstances, TruthOfGroundClauses}
use Rattle.fol_base.specs.Entails.{EntailsMonotone, EntailsCut}
use Rattle.fol_base.proofs.AboutTerms.TreeLemmas.{trees_of-list_of}
use Rattle.fol_base.proofs.WorkedExamples.TestLemmas.{list_any-weaker, list_any-agree, list_any-map, list_all-map_true, option_map-some}

-- ---- ground trees

-- each variable becomes a ground tree over the list, whatever symbols it has
abbrev pub PutsGround : List FunctionSymbol → Substitution → Type 0
PutsGround functions σ = (v : ℕ) → ground_over functions (σ v) ≡ true

symbol-constant : (functions : List FunctionSymbol) (f : ℕ) → has_symbol functions f 0 ≡ true → has_constant functions ≡ true
symbol-constant functions f h =
    list_any-weaker (λ (s : FunctionSymbol). (s.number == f) && (s.arity == 0)) (λ s. s.arity == 0) (λ s e. (and_parts (s.number == f) _ e).1) functions h

constant-symbol : (functions : List FunctionSymbol) → has_constant functions ≡ true → (f : ℕ) × (has_symbol functions f 0 ≡ true)
constant-symbol [] h = absurd (true≢false (sym h))
constant-symbol (s ∷ functions) h =
    ⊎_elim
    (λ here. (s.number, or_left _ _ (and_from (s.number == s.number) _ (eq-eqb _ _ refl) here)))
    (λ later. let r = constant-symbol functions later in (r.0, or_right ((s.number == r.0) && (s.arity == 0)) _ r.1))
    (or_cases (s.arity == 0) (has_constant functions) h)

mutual
  ground_tree-constant :
      (functions : List FunctionSymbol) (t : Tree) → is_ground t ≡ true → is_over functions t ≡ true → has_constant functions ≡ true
  ground_tree-constant functions (variable v) ground over = absurd (true≢false (sym ground))
  ground_tree-constant functions (application f ts) ground over =
      let parts = and_parts (has_symbol functions f (trees_count ts)) (are_over functions ts) over in
      ground_trees-constant functions ts f parts.0 ground parts.1

  ground_trees-constant :
      (functions : List FunctionSymbol) (ts : Trees) (f : ℕ)
      → has_symbol functions f (trees_count ts) ≡ true → are_ground ts ≡ true → are_over functions ts ≡ true
      → has_constant functions ≡ true
  ground_trees-constant functions no_trees f h ground over = symbol-constant functions f h
  ground_trees-constant functions (tree_then t ts) f h ground over =
      ground_tree-constant functions t (and_parts (is_ground t) (are_ground ts) ground).0 (and_parts (is_over functions t) (are_over functions ts) over).0

pub constants_give_ground_trees : ConstantsGiveGroundTrees
constants_give_ground_trees functions = (
  λ tree. let parts = and_parts (is_ground tree.0) (is_over functions tree.0) tree.1 in ground_tree-constant functions tree.0 parts.0 parts.1,
  λ h. let r = constant-symbol functions h in (application r.0 no_trees, and_from (has_symbol functions r.0 0) true r.1 refl),
)

mutual
  pub is_ground-instance :
      (functions : List FunctionSymbol) (σ : Substitution) → PutsGround functions σ → (t : Tree) → is_ground (instance σ t) ≡ true
  is_ground-instance functions σ h (variable v) = (and_parts (is_ground (σ v)) (is_over functions (σ v)) (h v)).0
  is_ground-instance functions σ h (application f ts) = are_ground-instances functions σ h ts

  are_ground-instances :
      (functions : List FunctionSymbol) (σ : Substitution) → PutsGround functions σ → (ts : Trees) → are_ground (instances σ ts) ≡ true
  are_ground-instances functions σ h no_trees = refl
  are_ground-instances functions σ h (tree_then t ts) =
      and_from (is_ground (instance σ t)) _ (is_ground-instance functions σ h t) (are_ground-instances functions σ h ts)

pub ground_instances_are_ground : GroundInstancesAreGround
ground_instances_are_ground is_predicate functions c g made =
    let σ = made.trees in
    let ground : (t : Tree) → is_ground (instance σ t) ≡ true = is_ground-instance functions.symbols σ made.trees_ground in
    ap is_ground_clause made.literals
    ∙ list_all-map_true is_ground_literal (literal_instance σ)
    (λ l. and_from (is_ground (instance σ l.left)) _ (ground l.left) (ground l.right)) c.literals

-- ---- values

trees_values-set :
    (i : Interpretation) (ρ : Assignment) (ts : List Tree) (k : ℕ) (old new : Tree)
    → slice_get ts k ≡ Some old → tree_value i ρ new ≡ tree_value i ρ old
    → trees_values i ρ (trees_of (slice_set ts k new)) ≡ trees_values i ρ (trees_of ts)
trees_values-set i ρ [] k old new at e = refl
trees_values-set i ρ (t ∷ ts) zero old new at e =
    ap (λ v. v ∷ trees_values i ρ (trees_of ts)) (e ∙ ap (tree_value i ρ) (sym (same_Some t old at)))
trees_values-set i ρ (t ∷ ts) (suc k) old new at e = ap (λ vs. tree_value i ρ t ∷ vs) (trees_values-set i ρ ts k old new at e)

tree_value-with_argument :
    (i : Interpretation) (ρ : Assignment) (k : ℕ) (t old new : Tree)
    → argument k t ≡ Some old → tree_value i ρ new ≡ tree_value i ρ old → tree_value i ρ (with_argument k new t) ≡ tree_value i ρ t
tree_value-with_argument i ρ k (variable v) old new at e = refl
tree_value-with_argument i ρ k (application f ts) old new at e =
    ap (symbol_value i f) (trees_values-set i ρ (list_of ts) k old new at e ∙ ap (trees_values i ρ) (trees_of-list_of ts))

pub congruence_of_values : CongruenceOfValues
congruence_of_values i ρ [] whole old new made at put e =
    ap (tree_value i ρ) (sym (same_Some new made put)) ∙ e ∙ ap (tree_value i ρ) (sym (same_Some whole old at))
congruence_of_values i ρ (k ∷ place) whole old new made at put e =
    option_and_then_some (subterm place) (argument k whole) old at λ a a_is a_at.
    option_and_then_some (λ b. option_map (λ c. with_argument k c whole) (replaced place new b)) (argument k whole) made put λ b b_is b_put.
    option_map-some (λ c. with_argument k c whole) (replaced place new b) made b_put λ c c_is c_made.
    let same : b ≡ a = same_Some b a (sym b_is ∙ a_is) in
    let c_put : replaced place new a ≡ Some c = ap (replaced place new) (sym same) ∙ c_is in
    ap (tree_value i ρ) (sym c_made)
    ∙ tree_value-with_argument i ρ k whole a c a_is (congruence_of_values i ρ place a old new c a_at c_put e)

mutual
  pub values_of_instances : ValuesOfInstances
  values_of_instances i ρ σ (variable v) = refl
  values_of_instances i ρ σ (application f ts) = ap (symbol_value i f) (values_of_all_instances i ρ σ ts)

  values_of_all_instances :
      (i : Interpretation) (ρ : Assignment) (σ : Substitution) (ts : Trees)
      → trees_values i ρ (instances σ ts) ≡ trees_values i (λ v. tree_value i ρ (σ v)) ts
  values_of_all_instances i ρ σ no_trees = refl
  values_of_all_instances i ρ σ (tree_then t ts) = ap₂ ◌∷◌ (values_of_instances i ρ σ t) (values_of_all_instances i ρ σ ts)

pub truth_of_instances : TruthOfInstances
truth_of_instances i ρ σ ls =
    list_any-map (literal_true_under i ρ) (literal_instance σ) ls
    ∙ list_any-agree (λ l. literal_true_under i ρ (literal_instance σ l)) (literal_true_under i (λ v. tree_value i ρ (σ v)))
    (λ l. ap₂ (sides_true l.positive) (values_of_instances i ρ σ l.left) (values_of_instances i ρ σ l.right)) ls

-- ---- values of ground trees

mutual
  tree_value-ground : (i : Interpretation) (ρ π : Assignment) (t : Tree) → is_ground t ≡ true → tree_value i ρ t ≡ tree_value i π t
  tree_value-ground i ρ π (variable v) h = absurd (true≢false (sym h))
  tree_value-ground i ρ π (application f ts) h = ap (symbol_value i f) (trees_values-ground i ρ π ts h)

  trees_values-ground : (i : Interpretation) (ρ π : Assignment) (ts : Trees) → are_ground ts ≡ true → trees_values i ρ ts ≡ trees_values i π ts
  trees_values-ground i ρ π no_trees h = refl
  trees_values-ground i ρ π (tree_then t ts) h =
      let parts = and_parts (is_ground t) (are_ground ts) h in
      ap₂ ◌∷◌ (tree_value-ground i ρ π t parts.0) (trees_values-ground i ρ π ts parts.1)

pub truth_of_ground_clauses : TruthOfGroundClauses
truth_of_ground_clauses i ρ [] h = refl
truth_of_ground_clauses i ρ (l ∷ c) h =
    let parts = and_parts (is_ground_literal l) (is_ground_clause c) h in
    let sides = and_parts (is_ground l.left) (is_ground l.right) parts.0 in
    ap₂ ◌||◌
    (ap₂ (sides_true l.positive) (tree_value-ground i ρ no_values l.left sides.0) (tree_value-ground i ρ no_values l.right sides.1))
    (truth_of_ground_clauses i ρ c parts.1)

-- ---- entailment

pub entails_monotone : EntailsMonotone
entails_monotone is_predicate cs ds c within entails i ok true_all =
    let each : All (λ d. clause_true i d ≡ true) ds = AllPass-from_list_all (clause_true i) ds true_all in
    entails i ok
    (list_all-from_AllPass (clause_true i) cs
    (λ k d in_range. All-contains (λ e. clause_true i e ≡ true) ds (get_or cs k d) each (within k d in_range)))

pub entails_cut : EntailsCut
entails_cut is_predicate cs ds c each entails i ok true_all =
    entails i ok (list_all-from_AllPass (clause_true i) ds (λ k d in_range. each k d in_range i ok true_all))
