-- Conclusions of instances.
use Rattle.std.proofs.Common.{◌≡◌, ℕ, suc, true, false, List, ◌++◌, map, take, drop, slice_get, slice_set, Option, Some, refl, ap, ap₂, sym, ◌∙◌, inl, inr, ⊎_elim}
use Rattle.std.specs.Prelude.{option_map, remove}
use Rattle.std.proofs.lemmas.Option.{slice_get-map}
use Rattle.std.proofs.lemmas.List.{map-set, map-append, take-map, drop-map}
use Rattle.fol_base.specs.Tree.{Tree, variable, application, no_trees, tree_then, is_truth, true_tree}
use Rattle.fol_base.specs.Instance.{Substitution, instance}
use Rattle.fol_base.specs.Place.{subterm, replaced}
use Rattle.fol_base.specs.Clause.{TreeLiteral, literal_instance}
use Rattle.fol_base.specs.Sides.{side_of, other_side_of, with_side}
use Rattle.fol_base.specs.Order.{equivalent_literals}
use Rattle.fol_base.specs.Rules.{superposed_literal, disequation}
use Rattle.fol_base.specs.InstanceLaws.{PutsNoTruth, SuperpositionsInInstances, ResolutionsInInstances, FactoringsInInstances, MergesInInstances}
use Rattle.fol_base.specs.declared.clause.Side.{Side}
use Rattle.fol_base.specs.declared.clause.Side.TheVariants.{Left, Right}
use Rattle.fol_base.proofs.AboutTerms.TreeLemmas.{tree_eq-true}
use Rattle.fol_base.proofs.AboutInstances.InstancePlaces.{subterms_of_instances, replacements_in_instances}
use Rattle.fol_base.proofs.AboutOrders.OrderLemmas.{equivalent_literals-decided}
use Rattle.fol_base.proofs.AboutClauses.RuleLemmas.{superposed_literal-parts, superposed_literal-from, superposed-parts, superposed-from, resolved-parts, resolved-from, factored-parts, factored-from, merged-parts, merged-from}

-- ---- sides of instances

pub side_of-instance : (σ : Substitution) (side : Side) (l : TreeLiteral) → side_of side (literal_instance σ l) ≡ instance σ (side_of side l)
side_of-instance σ Left l = refl
side_of-instance σ Right l = refl

pub other_side_of-instance :
    (σ : Substitution) (side : Side) (l : TreeLiteral) → other_side_of side (literal_instance σ l) ≡ instance σ (other_side_of side l)
other_side_of-instance σ Left l = refl
other_side_of-instance σ Right l = refl

pub with_side-instance :
    (σ : Substitution) (side : Side) (t : Tree) (l : TreeLiteral)
    → with_side side (instance σ t) (literal_instance σ l) ≡ literal_instance σ (with_side side t l)
with_side-instance σ Left t l = refl
with_side-instance σ Right t l = refl

-- ---- `$true` and instances

-- an instance of `$true` is `$true`
pub is_truth-instance : (σ : Substitution) (t : Tree) → is_truth t ≡ true → is_truth (instance σ t) ≡ true
is_truth-instance σ t h = ap (λ u. is_truth (instance σ u)) (tree_eq-true t true_tree h)

-- and of nothing else, where no variable becomes `$true`
pub no_truth-instance : (σ : Substitution) → PutsNoTruth σ → (t : Tree) → is_truth t ≡ false → is_truth (instance σ t) ≡ false
no_truth-instance σ puts (variable v) h = puts v
no_truth-instance σ puts (application f no_trees) h = h
no_truth-instance σ puts (application f (tree_then t ts)) h = h

-- ---- the lists' items

pub literal_in_instance :
    (σ : Substitution) (ls : List TreeLiteral) (i : ℕ) (l : TreeLiteral)
    → slice_get ls i ≡ Some l → slice_get (map (literal_instance σ) ls) i ≡ Some (literal_instance σ l)
literal_in_instance σ ls i l there = slice_get-map (literal_instance σ) ls i ∙ ap (option_map (literal_instance σ)) there

pub map-remove : {X Y : Type 0} (h : X → Y) (xs : List X) (i : ℕ) → remove (map h xs) i ≡ map h (remove xs i)
map-remove h xs i =
    ap₂ ◌++◌ (take-map h i xs) (drop-map h (suc i) xs) ∙ sym (map-append h (take i xs) (drop (suc i) xs))

-- ---- the rules

pub superposed_literal-instance :
    (σ : Substitution) (from : TreeLiteral) (s : Side) (into : TreeLiteral) (z : Side) (place : List ℕ) (made : TreeLiteral)
    → PutsNoTruth σ → superposed_literal from s into z place ≡ Some made
    → superposed_literal (literal_instance σ from) s (literal_instance σ into) z place ≡ Some (literal_instance σ made)
superposed_literal-instance σ from s into z place made puts h =
    let p = superposed_literal-parts from s into z place made h in
    superposed_literal-from (literal_instance σ from) s (literal_instance σ into) z place (literal_instance σ made) (record {
      positive = p.positive;
      no_truth = ap is_truth (side_of-instance σ s from) ∙ no_truth-instance σ puts (side_of s from) p.no_truth;
      old_there =
          ap (subterm place) (side_of-instance σ z into)
          ∙ subterms_of_instances σ place (side_of z into) (side_of s from) p.old_there
          ∙ ap (λ t. let o : Option Tree = Some t in o) (sym (side_of-instance σ s from));
      new = instance σ p.new;
      new_made =
          ap₂ (replaced place) (other_side_of-instance σ s from) (side_of-instance σ z into)
          ∙ replacements_in_instances σ place (other_side_of s from) (side_of z into) p.new p.new_made;
      gives = with_side-instance σ z p.new into ∙ ap (literal_instance σ) p.gives;
    })

pub superpositions_in_instances : SuperpositionsInInstances
superpositions_in_instances σ first second made i j s z place puts h =
    let li : TreeLiteral → TreeLiteral = literal_instance σ in
    let p = superposed-parts first i s second j z place made h in
    superposed-from (map li first) i s (map li second) j z place (map li made) (record {
      from = li p.from;
      from_there = literal_in_instance σ first i p.from p.from_there;
      into = li p.into;
      into_there = literal_in_instance σ second j p.into p.into_there;
      literal = li p.literal;
      literal_made = superposed_literal-instance σ p.from s p.into z place p.literal puts p.literal_made;
      gives =
          ap₂ ◌++◌ (sym (map-set li second j p.literal)) (map-remove li first i)
          ∙ sym (map-append li (slice_set second j p.literal) (remove first i))
          ∙ ap (map li) p.gives;
    })

pub resolutions_in_instances : ResolutionsInInstances
resolutions_in_instances σ ls made i h =
    let li : TreeLiteral → TreeLiteral = literal_instance σ in
    let p = resolved-parts ls i made h in
    resolved-from (map li ls) i (map li made) (record {
      literal = li p.literal;
      literal_there = literal_in_instance σ ls i p.literal p.literal_there;
      negative = p.negative;
      same = ap (instance σ) p.same;
      gives = map-remove li ls i ∙ ap (map li) p.gives;
    })

pub factorings_in_instances : FactoringsInInstances
factorings_in_instances σ ls made i j side_i side_j puts h =
    let li : TreeLiteral → TreeLiteral = literal_instance σ in
    let p = factored-parts ls i side_i j side_j made h in
    factored-from (map li ls) i side_i j side_j (map li made) (record {
      differ = p.differ;
      literal_i = li p.literal_i;
      i_there = literal_in_instance σ ls i p.literal_i p.i_there;
      literal_j = li p.literal_j;
      j_there = literal_in_instance σ ls j p.literal_j p.j_there;
      i_positive = p.i_positive;
      j_positive = p.j_positive;
      no_truth = ap is_truth (side_of-instance σ side_i p.literal_i) ∙ no_truth-instance σ puts (side_of side_i p.literal_i) p.no_truth;
      same = side_of-instance σ side_i p.literal_i ∙ ap (instance σ) p.same ∙ sym (side_of-instance σ side_j p.literal_j);
      gives =
          ap₂ (λ t u. slice_set (map li ls) i (disequation t u)) (other_side_of-instance σ side_i p.literal_i) (other_side_of-instance σ side_j p.literal_j)
          ∙ sym (map-set li ls i (disequation (other_side_of side_i p.literal_i) (other_side_of side_j p.literal_j)))
          ∙ ap (map li) p.gives;
    })

-- instances of literals that are the same are the same
pub equivalent_literals-instance :
    (σ : Substitution) (l m : TreeLiteral)
    → equivalent_literals l m ≡ true → equivalent_literals (literal_instance σ l) (literal_instance σ m) ≡ true
equivalent_literals-instance σ l m h =
    let same = (equivalent_literals-decided l m).0 h in
    (equivalent_literals-decided (literal_instance σ l) (literal_instance σ m)).1 (
      same.0,
      ⊎_elim
          (λ e. inl (ap (instance σ) e.0, ap (instance σ) e.1))
          (λ e. inr (ap (instance σ) e.0, ap (instance σ) e.1))
          same.1,
    )

pub merges_in_instances : MergesInInstances
merges_in_instances σ ls made i j h =
    let li : TreeLiteral → TreeLiteral = literal_instance σ in
    let p = merged-parts ls i j made h in
    merged-from (map li ls) i j (map li made) (record {
      differ = p.differ;
      literal_i = li p.literal_i;
      i_there = literal_in_instance σ ls i p.literal_i p.i_there;
      literal_j = li p.literal_j;
      j_there = literal_in_instance σ ls j p.literal_j p.j_there;
      same = equivalent_literals-instance σ p.literal_i p.literal_j p.same;
      gives = map-remove li ls j ∙ ap (map li) p.gives;
    })
