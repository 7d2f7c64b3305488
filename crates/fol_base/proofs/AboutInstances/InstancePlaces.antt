-- Subterms of instances, and replacements in them.
use Rattle.std.proofs.Common.{◌≡◌, ℕ, [], ◌∷◌, map, slice_get, slice_set, Option, Some, refl, ap, sym, ◌∙◌}
use Rattle.std.specs.Prelude.{option_map, option_and_then}
use Rattle.std.proofs.lemmas.List.{map-set}
use Rattle.std.proofs.lemmas.Option.{option_and_then_some, same_Some, slice_get-map}
use Rattle.fol_base.specs.Tree.{Tree, variable, application, Trees, no_trees, tree_then, trees_of, list_of}
use Rattle.fol_base.specs.Instance.{Substitution, instance, instances}
use Rattle.fol_base.specs.Place.{argument, with_argument, subterm, replaced}
use Rattle.fol_base.specs.InstanceLaws.{SubtermsOfInstances, ReplacementsInInstances}
use Rattle.fol_base.proofs.AboutTerms.TreeLemmas.{instances-trees_of}
use Rattle.fol_base.proofs.AboutInstances.PlaceLemmas.{replaced-parts}

pub list_of-instances : (σ : Substitution) (ts : Trees) → list_of (instances σ ts) ≡ map (instance σ) (list_of ts)
list_of-instances σ no_trees = refl
list_of-instances σ (tree_then t ts) = ap (λ us. instance σ t ∷ us) (list_of-instances σ ts)

argument-instance :
    (σ : Substitution) (k : ℕ) (t a : Tree) → argument k t ≡ Some a → argument k (instance σ t) ≡ Some (instance σ a)
argument-instance σ k (variable v) a e = absurd (cc)
argument-instance σ k (application f ts) a e =
    ap (λ us. slice_get us k) (list_of-instances σ ts) ∙ slice_get-map (instance σ) (list_of ts) k ∙ ap (option_map (instance σ)) e

with_argument-instance :
    (σ : Substitution) (k : ℕ) (t a new : Tree)
    → argument k t ≡ Some a → with_argument k (instance σ new) (instance σ t) ≡ instance σ (with_argument k new t)
with_argument-instance σ k (variable v) a new e = absurd (cc)
with_argument-instance σ k (application f ts) a new e =
    ap (λ us. application f (trees_of (slice_set us k (instance σ new)))) (list_of-instances σ ts)
    ∙ ap (λ us. application f (trees_of us)) (sym (map-set (instance σ) (list_of ts) k new))
    ∙ ap (application f) (sym (instances-trees_of σ (slice_set (list_of ts) k new)))

pub subterms_of_instances : SubtermsOfInstances
subterms_of_instances σ [] t u at = ap (λ w. let r : Option Tree = Some (instance σ w) in r) (same_Some t u at)
subterms_of_instances σ (k ∷ place) t u at =
    option_and_then_some (subterm place) (argument k t) u at λ a a_is a_at.
    ap (option_and_then (subterm place)) (argument-instance σ k t a a_is) ∙ subterms_of_instances σ place a u a_at

pub replacements_in_instances : ReplacementsInInstances
replacements_in_instances σ [] new t made put = ap (λ w. let r : Option Tree = Some (instance σ w) in r) (same_Some new made put)
replacements_in_instances σ (k ∷ place) new t made put =
    let step : Tree → Option Tree = λ a. option_map (λ b. with_argument k b (instance σ t)) (replaced place (instance σ new) a) in
    replaced-parts k place new t made put λ a b a_is b_is gives.
    ap (option_and_then step) (argument-instance σ k t a a_is)
    ∙ ap (option_map (λ c. with_argument k c (instance σ t))) (replacements_in_instances σ place new a b b_is)
    ∙ ap (λ w. let r : Option Tree = Some w in r) (with_argument-instance σ k t a b a_is ∙ ap (instance σ) gives)
