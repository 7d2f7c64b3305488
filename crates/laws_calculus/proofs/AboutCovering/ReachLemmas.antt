-- Each conclusion of a named inference, by whatever most general unifier, has the ground conclusion as a ground instance.
use Rattle.std.proofs.Common.{◌≡◌, ℕ, Bool, true, List, ap, sym, ◌∙◌, ⊎_elim, if◌then◌else◌}
use Rattle.std.proofs.lemmas.Bool.{and_parts, and_from, cond_both, cond-true}
use Rattle.fol_base.specs.Tree.{Tree, variable, application, Trees, no_trees, tree_then, trees_count, tree_variables, trees_variables}
use Rattle.fol_base.specs.Instance.{Substitution, instance, instances}
use Rattle.fol_base.specs.Symbols.{FunctionSymbol, FunctionSymbols}
use Rattle.fol_base.specs.Ground.{has_symbol, is_ground, are_ground, is_over, are_over, ground_over, IsGroundOver}
use Rattle.fol_base.specs.InstanceLaws.{PutsNoTruth}
use Rattle.fol_base.proofs.AboutInstances.InstanceLemmas.{instances_agree}
use Rattle.fol_base.proofs.AboutTerms.KindLemmas.{puts_no_truth, puts_function_terms}
use Rattle.kbo_order.proofs.AboutMultisets.MemberLemmas.{In}
use Rattle.laws_calculus.specs.Lifting.{ResolutionsReachAll, FactoringsReachAll, SuperpositionsReachAll}
use Rattle.laws_calculus.proofs.AboutCovering.ClauseLemmas.{In-either, All-In}
use Rattle.laws_calculus.proofs.AboutLifting.LiftLemmas.{Goes, resolved_meets, factored_meets, superposed_meets, resolved_again, factored_again, superposed_again}

-- ---- what is put in for a variable of a ground instance is ground

mutual
  variable-ground :
      (functions : List FunctionSymbol) (θ : Substitution) (t : Tree) (v : ℕ)
      → is_ground (instance θ t) ≡ true → is_over functions (instance θ t) ≡ true → In v (tree_variables t) → ground_over functions (θ v) ≡ true
  variable-ground functions θ (variable w) v ground over there =
      ⊎_elim
      (λ e. ap (λ u. ground_over functions (θ u)) e ∙ and_from (is_ground (θ w)) (is_over functions (θ w)) ground over)
      (λ none. absurd none)
      there
  variable-ground functions θ (application f ts) v ground over there =
      variable-all_ground functions θ ts v ground
      (and_parts (has_symbol functions f (trees_count (instances θ ts))) (are_over functions (instances θ ts)) over).1 there

  variable-all_ground :
      (functions : List FunctionSymbol) (θ : Substitution) (ts : Trees) (v : ℕ)
      → are_ground (instances θ ts) ≡ true → are_over functions (instances θ ts) ≡ true → In v (trees_variables ts) → ground_over functions (θ v) ≡ true
  variable-all_ground functions θ no_trees v ground over there = absurd there
  variable-all_ground functions θ (tree_then t ts) v ground over there =
      let grounds = and_parts (is_ground (instance θ t)) (are_ground (instances θ ts)) ground in
      let overs = and_parts (is_over functions (instance θ t)) (are_over functions (instances θ ts)) over in
      ⊎_elim
      (λ here. variable-ground functions θ t v grounds.0 overs.0 here)
      (λ later. variable-all_ground functions θ ts v grounds.1 overs.1 later)
      (In-either v (tree_variables t) (trees_variables ts) there)

-- ---- a substitution made ground

-- some ground tree where the substitution puts in none
abbrev made_ground : List FunctionSymbol → Substitution → Tree → Substitution
made_ground functions θ other v = if ground_over functions (θ v) then θ v else other

made_ground-over :
    {is_predicate : ℕ → Bool} (functions : FunctionSymbols is_predicate) (θ : Substitution) (other : Tree)
    → ground_over functions.symbols other ≡ true → IsGroundOver functions (made_ground functions.symbols θ other)
made_ground-over functions θ other h v =
    cond_both (ground_over functions.symbols (θ v)) (θ v) other (λ t. ground_over functions.symbols t ≡ true) (λ e. e) (λ e. h)

-- it gives the same ground instances
made_ground-same :
    (functions : List FunctionSymbol) (θ : Substitution) (other t : Tree)
    → ground_over functions (instance θ t) ≡ true → instance (made_ground functions θ other) t ≡ instance θ t
made_ground-same functions θ other t h =
    let parts = and_parts (is_ground (instance θ t)) (is_over functions (instance θ t)) h in
    instances_agree (made_ground functions θ other) θ t
    (All-In (λ v. made_ground functions θ other v ≡ θ v) (tree_variables t)
    (λ v there. cond-true (ground_over functions (θ v)) (θ v) other (variable-ground functions θ t v parts.0 parts.1 there)))

-- so a ground substitution that is another one after σ is a ground one after σ
goes_ground :
    {is_predicate : ℕ → Bool} (functions : FunctionSymbols is_predicate) (θ σ τ : Substitution) (other : Tree)
    → IsGroundOver functions τ → ((v : ℕ) → τ v ≡ instance θ (σ v)) → Goes (made_ground functions.symbols θ other) σ τ
goes_ground functions θ σ τ other ground h v =
    made_ground-same functions.symbols θ other (σ v) (ap (ground_over functions.symbols) (sym (h v)) ∙ ground v) ∙ sym (h v)

no_truth_put :
    {is_predicate : ℕ → Bool} (functions : FunctionSymbols is_predicate) (κ : Substitution) → IsGroundOver functions κ → PutsNoTruth κ
no_truth_put {is_predicate} functions κ ground = puts_no_truth is_predicate κ (puts_function_terms is_predicate functions κ ground)

-- ---- the rules

pub resolutions_reach_all : ResolutionsReachAll
resolutions_reach_all is_predicate functions mode c g r d n =
    let τ : Substitution = r.trees in
    let general = n.most_general.is_general τ (resolved_meets τ c.literals r.i n.literal g n.literal_there r.concludes) in
    let κ : Substitution = made_ground functions.symbols general.0 (τ 0) in
    record {
      trees = κ;
      trees_ground = made_ground-over functions general.0 (τ 0) (r.trees_ground 0);
      literals =
          resolved_again κ n.unifier τ (goes_ground functions general.0 n.unifier τ (τ 0) r.trees_ground general.1) c.literals r.i d.literals g
          n.concludes r.concludes;
    }

pub factorings_reach_all : FactoringsReachAll
factorings_reach_all is_predicate functions mode c g r d n =
    let τ : Substitution = r.trees in
    let general =
    n.most_general.is_general τ
    (factored_meets τ c.literals r.i r.side_i r.j r.side_j n.literal_i n.literal_j g n.i_there n.j_there r.concludes) in
    let κ : Substitution = made_ground functions.symbols general.0 (τ 0) in
    let ground : IsGroundOver functions κ = made_ground-over functions general.0 (τ 0) (r.trees_ground 0) in
    record {
      trees = κ;
      trees_ground = ground;
      literals =
          factored_again κ n.unifier τ (goes_ground functions general.0 n.unifier τ (τ 0) r.trees_ground general.1)
          (no_truth_put functions κ ground) c.literals r.i r.side_i r.j r.side_j d.literals g n.concludes r.concludes;
    }

pub superpositions_reach_all : SuperpositionsReachAll
superpositions_reach_all is_predicate functions mode first second g r d n =
    let ρ : Substitution = r.first_trees in
    let π : Substitution = r.second_trees in
    let general =
    n.most_general.is_general ρ π
    (superposed_meets ρ π first.literals r.i r.from_side second.literals r.j r.into_side r.place n.from n.into n.old g
    n.from_there n.into_there n.old_there r.concludes) in
    let κ : Substitution = made_ground functions.symbols general.0 (ρ 0) in
    let ground : IsGroundOver functions κ = made_ground-over functions general.0 (ρ 0) (r.first_ground 0) in
    record {
      trees = κ;
      trees_ground = ground;
      literals =
          superposed_again κ n.first_unifier ρ n.second_unifier π
          (goes_ground functions general.0 n.first_unifier ρ (ρ 0) r.first_ground general.1)
          (goes_ground functions general.0 n.second_unifier π (ρ 0) r.second_ground general.2)
          (no_truth_put functions κ ground)
          first.literals r.i r.from_side second.literals r.j r.into_side r.place d.literals g n.concludes r.concludes;
    }
