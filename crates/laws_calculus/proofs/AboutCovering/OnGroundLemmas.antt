-- The named inferences of ground clauses are ground inferences.
use Rattle.std.proofs.Common.{◌≡◌, ℕ, Bool, true, false, List, get_or, refl, ap, ap₂, sym, ◌∙◌, inl, inr, ⊎_elim}
use Rattle.std.specs.Prelude.{not}
use Rattle.std.proofs.lemmas.Bool.{and_parts, not-true, true≢false}
use Rattle.fol_base.specs.Tree.{Tree, tree_eq}
use Rattle.fol_base.specs.Instance.{Substitution, instance}
use Rattle.fol_base.specs.Clause.{TreeLiteral, TreeClause, literal_instance}
use Rattle.fol_base.specs.Symbols.{FunctionSymbols}
use Rattle.fol_base.specs.Ground.{is_ground, is_ground_literal, is_ground_clause, IsGroundOver, literals_instance}
use Rattle.fol_base.specs.Order.{tree_greater}
use Rattle.fol_base.specs.Selection.{SelectionMode, chosen, eligible, eligible_in_instance}
use Rattle.fol_base.specs.Sides.{side_of, other_side_of}
use Rattle.fol_base.specs.Rules.{superposed, resolved, factored}
use Rattle.fol_base.specs.GroundInference.{is_greater_side, UnchosenEligible}
use Rattle.fol_base.specs.declared.clause.Side.{Side}
use Rattle.fol_base.specs.declared.clause.Side.TheVariants.{Left, Right}
use Rattle.fol_base.proofs.AboutTerms.TreeLemmas.{tree_eq-true, tree_eq-refl}
use Rattle.fol_base.proofs.WorkedExamples.TestLemmas.{list_all-item}
use Rattle.fol_base.proofs.AboutClauses.InferenceLemmas.{side_of-instance, other_side_of-instance}
use Rattle.fol_base.proofs.AboutClauses.MeaningLemmas.{constants_give_ground_trees}
use Rattle.fol_base.proofs.AboutOrders.TreeOrderLemmas.{trees_totally_ordered}
use Rattle.kernel_steps.specs.Inference.{other_side_not_above}
use Rattle.kernel_steps.proofs.AboutGrounding.GroundTrees.{literals_instance-ground, one_literal-ground}
use Rattle.laws_calculus.specs.OnGround.{ResolutionsOnGround, FactoringsOnGround, SuperpositionsOnGround}

-- some ground substitution
record SomeGround {is_predicate : ℕ → Bool} (functions : FunctionSymbols is_predicate) : Type 0 where
  trees : Substitution
  ground : IsGroundOver functions trees

some_ground : {is_predicate : ℕ → Bool} (functions : FunctionSymbols is_predicate) → SomeGround functions
some_ground functions =
    let found = (constants_give_ground_trees functions.symbols).1 functions.constant in
    record { trees = λ v. found.0; ground = λ v. found.1 }

-- ---- conditions that no substitution changes

side-ground : (s : Side) (l : TreeLiteral) → is_ground_literal l ≡ true → (is_ground (side_of s l) ≡ true) × (is_ground (other_side_of s l) ≡ true)
side-ground Left l ground = and_parts (is_ground l.left) (is_ground l.right) ground
side-ground Right l ground = let parts = and_parts (is_ground l.left) (is_ground l.right) ground in (parts.1, parts.0)

-- the side that the other one isn't above is the greater one
greater_on_ground :
    (σ τ : Substitution) (s : Side) (l : TreeLiteral)
    → is_ground_literal l ≡ true → other_side_not_above σ s l ≡ true → is_greater_side τ s l ≡ true
greater_on_ground σ τ s l ground h =
    let t : Tree = side_of s l in
    let u : Tree = other_side_of s l in
    let sides = side-ground s l ground in
    let stays : (π : Substitution) → literal_instance π l ≡ l = λ π. ap (λ (ls : List TreeLiteral). get_or ls 0 l) (one_literal-ground π l ground) in
    let t_stays : (π : Substitution) → instance π t ≡ t = λ π. sym (side_of-instance π s l) ∙ ap (side_of s) (stays π) in
    let u_stays : (π : Substitution) → instance π u ≡ u = λ π. sym (other_side_of-instance π s l) ∙ ap (other_side_of s) (stays π) in
    let parts = and_parts (not (tree_greater (instance σ u) (instance σ t))) (not (tree_eq (instance σ u) (instance σ t))) h in
    let not_above : tree_greater u t ≡ false =
    ap₂ tree_greater (sym (u_stays σ)) (sym (t_stays σ)) ∙ not-true (tree_greater (instance σ u) (instance σ t)) parts.0 in
    let not_same : tree_eq u t ≡ false =
    ap₂ tree_eq (sym (u_stays σ)) (sym (t_stays σ)) ∙ not-true (tree_eq (instance σ u) (instance σ t)) parts.1 in
    ap₂ tree_greater (t_stays τ) (u_stays τ)
    ∙ ⊎_elim
    (λ same. absurd (true≢false (sym (tree_eq-refl u) ∙ ap (tree_eq u) (sym (tree_eq-true t u same)) ∙ not_same)))
    (λ differ. ⊎_elim (λ above. above) (λ below. absurd (true≢false (sym below ∙ not_above))) differ)
    (trees_totally_ordered.is_total t u sides.0 sides.1)

same_literals : (σ τ : Substitution) (ls : List TreeLiteral) → is_ground_clause ls ≡ true → literals_instance τ ls ≡ literals_instance σ ls
same_literals σ τ ls ground = literals_instance-ground τ ls ground ∙ sym (literals_instance-ground σ ls ground)

eligible_on_ground :
    (mode : SelectionMode) (σ τ : Substitution) (ls : List TreeLiteral) (i : ℕ) (strict : Bool)
    → is_ground_clause ls ≡ true → eligible_in_instance mode ls σ i strict ≡ true → eligible_in_instance mode ls τ i strict ≡ true
eligible_on_ground mode σ τ ls i strict ground h =
    ap (λ ks. eligible ks i (chosen mode ls) strict) (same_literals σ τ ls ground) ∙ h

unchosen_on_ground :
    (mode : SelectionMode) (σ τ : Substitution) (c : TreeClause) (i : ℕ) (strict : Bool)
    → is_ground_clause c.literals ≡ true → UnchosenEligible mode c σ i strict → UnchosenEligible mode c τ i strict
unchosen_on_ground mode σ τ c i strict ground h = record {
  nothing_chosen = h.nothing_chosen;
  is_eligible = eligible_on_ground mode σ τ c.literals i strict ground h.is_eligible;
}

-- ---- the rules

pub resolutions_on_ground : ResolutionsOnGround
resolutions_on_ground is_predicate functions mode c i d ground n =
    let some = some_ground functions in (
      record {
        trees = some.trees;
        trees_ground = some.ground;
        i = i;
        literal_eligible = eligible_on_ground mode n.unifier some.trees c.literals i false ground n.is_eligible;
        concludes = ap (λ ls. resolved ls i) (same_literals n.unifier some.trees c.literals ground) ∙ n.concludes;
      },
      refl,
    )

pub factorings_on_ground : FactoringsOnGround
factorings_on_ground is_predicate functions mode c i side_i j side_j d ground n =
    let some = some_ground functions in (
      record {
        trees = some.trees;
        trees_ground = some.ground;
        i = i;
        side_i = side_i;
        literal_i = n.literal_i;
        i_there = n.i_there;
        i_greater =
            greater_on_ground n.unifier some.trees side_i n.literal_i
            (list_all-item is_ground_literal c.literals i n.literal_i n.i_there ground) n.i_ordered;
        i_eligible = unchosen_on_ground mode n.unifier some.trees c i false ground n.i_eligible;
        j = j;
        side_j = side_j;
        concludes = ap (λ ls. factored ls i side_i j side_j) (same_literals n.unifier some.trees c.literals ground) ∙ n.concludes;
      },
      refl,
      refl,
      refl,
      refl,
    )

pub superpositions_on_ground : SuperpositionsOnGround
superpositions_on_ground is_predicate functions mode first i from_side second j into_side place d ground ground' n =
    let some = some_ground functions in
    let τ : Substitution = some.trees in (
      record {
        first_trees = τ;
        first_ground = some.ground;
        second_trees = τ;
        second_ground = some.ground;
        i = i;
        from_side = from_side;
        from = n.from;
        from_there = n.from_there;
        from_greater =
            greater_on_ground n.first_unifier τ from_side n.from
            (list_all-item is_ground_literal first.literals i n.from n.from_there ground) n.from_ordered;
        from_eligible = unchosen_on_ground mode n.first_unifier τ first i true ground n.from_eligible;
        j = j;
        into_side = into_side;
        into = n.into;
        into_there = n.into_there;
        into_greater =
            greater_on_ground n.second_unifier τ into_side n.into
            (list_all-item is_ground_literal second.literals j n.into n.into_there ground') n.into_ordered;
        into_eligible =
            ⊎_elim
            (λ h. inl (h.0, eligible_on_ground mode n.second_unifier τ second.literals j false ground' h.1))
            (λ h. inr (h.0, unchosen_on_ground mode n.second_unifier τ second j true ground' h.1))
            n.into_eligible;
        place = place;
        old = n.old;
        old_there = n.old_there;
        old_no_variable = n.no_variable;
        concludes =
            ap₂ (λ ls ks. superposed ls i from_side ks j into_side place)
            (same_literals n.first_unifier τ first.literals ground) (same_literals n.second_unifier τ second.literals ground')
            ∙ n.concludes;
      },
      refl,
      refl,
      refl,
      refl,
      refl,
    )
