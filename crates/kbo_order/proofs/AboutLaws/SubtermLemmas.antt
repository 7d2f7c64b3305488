-- A proper subterm is smaller, and a smaller subterm makes the term smaller.
use Rattle.std.proofs.Common.{◌≡◌, ℕ, zero, suc, ◌<◌, ◌≤◌, ◌==◌, List, [], ◌∷◌, Some, refl, ap, sym, ◌∙◌, subst, inl, inr, ⊎_elim, arith}
use Rattle.std.specs.Prelude.{slice_get, slice_set, option_map}
use Rattle.std.proofs.lemmas.Bool.{cases_lt}
use Rattle.std.proofs.lemmas.Option.{option_and_then_some, same_Some}
use Rattle.fol_base.specs.Tree.{Tree, variable, application, Trees, no_trees, tree_then, trees_of, list_of, tree_size, trees_size, tree_variables, trees_variables}
use Rattle.fol_base.specs.Place.{argument, with_argument, subterm, replaced}
use Rattle.fol_base.specs.Multiset.{times}
use Rattle.fol_base.specs.Order.{HasVariablesOf, TreeGreater, TreesGreater}
use Rattle.fol_base.proofs.AboutClauses.CountLemmas.{times-append}
use Rattle.fol_base.proofs.AboutTerms.TreeLemmas.{trees_of-list_of}
use Rattle.fol_base.proofs.WorkedExamples.TestLemmas.{option_map-some}
use Rattle.fol_base.proofs.AboutOrders.OrderLemmas.{tree_greater_decided}
use Rattle.kbo_order.specs.Laws.{ProperSubtermsAreSmaller, SmallerSubtermsMakeSmaller}
use Rattle.kbo_order.proofs.AboutLaws.StableLemmas.{greater-by_size}

-- ---- subterms

item :
    (ts : Trees) (i : ℕ) (a : Tree) → slice_get (list_of ts) i ≡ Some a
    → ((v : ℕ) → times ◌==◌ v (tree_variables a) ≤ times ◌==◌ v (trees_variables ts)) × (tree_size a ≤ trees_size ts)
item no_trees i a h = absurd (cc)
item (tree_then t ts) zero a h =
    let same : t ≡ a = same_Some t a h in (
      λ v. omega (arith, times-append ◌==◌ v (tree_variables t) (trees_variables ts), ap (λ (b : Tree). times ◌==◌ v (tree_variables b)) same),
      omega (arith, ap tree_size same),
    )
item (tree_then t ts) (suc i) a h =
    let later = item ts i a h in (
      λ v. omega (arith, times-append ◌==◌ v (tree_variables t) (trees_variables ts), later.0 v),
      omega (arith, later.1),
    )

argument-smaller : (i : ℕ) (t a : Tree) → argument i t ≡ Some a → HasVariablesOf t a × (tree_size a < tree_size t)
argument-smaller i (variable v) a h = absurd (cc)
argument-smaller i (application f ts) a h = let there = item ts i a h in (there.0, omega (arith, there.1))

subterm-within : (place : List ℕ) (t u : Tree) → subterm place t ≡ Some u → HasVariablesOf t u × (tree_size u ≤ tree_size t)
subterm-within [] t u h =
    let same : t ≡ u = same_Some t u h in (λ v. omega (arith, ap (λ (b : Tree). times ◌==◌ v (tree_variables b)) same), omega (arith, ap tree_size same))
subterm-within (i ∷ place) t u h =
    option_and_then_some (subterm place) (argument i t) u h λ a there below.
    let first = argument-smaller i t a there in
    let rest = subterm-within place a u below in
    (λ v. omega (arith, first.0 v, rest.0 v), omega (arith, first.1, rest.1))

pub proper_subterms_are_smaller : ProperSubtermsAreSmaller
proper_subterms_are_smaller [] t u proper h = absurd (proper refl)
proper_subterms_are_smaller (i ∷ place) t u proper h =
    option_and_then_some (subterm place) (argument i t) u h λ a there below.
    let first = argument-smaller i t a there in
    let rest = subterm-within place a u below in
    (tree_greater_decided t u).1
    (greater-by_size t u (λ v. omega (arith, first.0 v, rest.0 v)) (omega (arith, first.1, rest.1)))

-- ---- replacement

greater-variables : (s t : Tree) → TreeGreater s t → HasVariablesOf s t
greater-variables (variable v) t h = h.0
greater-variables (application f ts) (variable w) h = h.0
greater-variables (application f ts) (application g us) h = h.0

pub greater-size : (s t : Tree) → TreeGreater s t → tree_size t ≤ tree_size s
greater-size (variable v) t h = ⊎_elim (λ e. omega arith) (λ e. absurd e.1) h.1
greater-size (application f ts) (variable w) h = ⊎_elim (λ e. omega arith) (λ e. absurd e.1) h.1
greater-size (application f ts) (application g us) h =
    ⊎_elim (λ e. omega arith) (λ e. let level : tree_size (application f ts) ≡ tree_size (application g us) = e.0 in omega arith) h.1

abbrev with_item : Trees → ℕ → Tree → Trees
with_item ts i b = trees_of (slice_set (list_of ts) i b)

item-smaller :
    (ts : Trees) (i : ℕ) (a b : Tree) → slice_get (list_of ts) i ≡ Some a → TreeGreater a b
    → TreesGreater ts (with_item ts i b)
    × ((v : ℕ) → times ◌==◌ v (trees_variables (with_item ts i b)) ≤ times ◌==◌ v (trees_variables ts))
    × (trees_size (with_item ts i b) ≤ trees_size ts)
item-smaller no_trees i a b h k = absurd (cc)
item-smaller (tree_then t ts) zero a b h k =
    let greater : TreeGreater t b = subst (λ (x : Tree). TreeGreater x b) (sym (same_Some t a h)) k in
    let rest : trees_of (list_of ts) ≡ ts = trees_of-list_of ts in (
      inl greater,
      λ v.
          omega (
            arith,
            times-append ◌==◌ v (tree_variables t) (trees_variables ts),
            times-append ◌==◌ v (tree_variables b) (trees_variables (trees_of (list_of ts))),
            ap (λ (us : Trees). times ◌==◌ v (trees_variables us)) rest,
            greater-variables t b greater v,
          ),
      omega (arith, greater-size t b greater, ap trees_size rest),
    )
item-smaller (tree_then t ts) (suc i) a b h k =
    let later = item-smaller ts i a b h k in (
      inr (refl, later.0),
      λ v.
          omega (
            arith,
            times-append ◌==◌ v (tree_variables t) (trees_variables ts),
            times-append ◌==◌ v (tree_variables t) (trees_variables (with_item ts i b)),
            later.1 v,
          ),
      omega (arith, later.2),
    )

argument-made_smaller :
    (i : ℕ) (t a b : Tree) → argument i t ≡ Some a → TreeGreater a b → TreeGreater t (with_argument i b t)
argument-made_smaller i (variable v) a b h k = absurd (cc)
argument-made_smaller i (application f ts) a b h k =
    let made = item-smaller ts i a b h k in (
      made.1,
      ⊎_elim
          (λ less. inl (omega (arith, less)))
          (λ level. inr (omega (arith, level, made.2), inr (refl, made.0)))
          (cases_lt (trees_size (with_item ts i b)) (trees_size ts)),
    )

replaced-smaller :
    (place : List ℕ) (t old new made : Tree)
    → subterm place t ≡ Some old → replaced place new t ≡ Some made → TreeGreater old new → TreeGreater t made
replaced-smaller [] t old new made h k greater =
    subst (λ (x : Tree). TreeGreater t x) (same_Some new made k)
    (subst (λ (x : Tree). TreeGreater x new) (sym (same_Some t old h)) greater)
replaced-smaller (i ∷ place) t old new made h k greater =
    option_and_then_some (subterm place) (argument i t) old h λ a there below.
    option_and_then_some (λ x. option_map (λ y. with_argument i y t) (replaced place new x)) (argument i t) made k λ a' there' made_is.
    option_map-some (λ y. with_argument i y t) (replaced place new a') made made_is λ b b_is whole_is.
    let same : a' ≡ a = same_Some a' a (sym there' ∙ there) in
    let smaller : TreeGreater a b =
    replaced-smaller place a old new b below (ap (replaced place new) (sym same) ∙ b_is) greater in
    subst (λ (x : Tree). TreeGreater t x) whole_is (argument-made_smaller i t a b there smaller)

pub smaller_subterms_make_smaller : SmallerSubtermsMakeSmaller
smaller_subterms_make_smaller place t old new made h k greater =
    (tree_greater_decided t made).1 (replaced-smaller place t old new made h k ((tree_greater_decided old new).0 greater))
