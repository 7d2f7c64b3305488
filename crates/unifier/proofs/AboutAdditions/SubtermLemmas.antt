-- What a matcher puts in is a subterm of the target, and a subterm adds nothing.
use Rattle.std.proofs.Common.{◌≡◌, ℕ, zero, suc, Bool, true, false, ◌&&◌, ◌==◌, List, [], ◌∷◌, ◌++◌, Some, refl, ap, sym, ◌∙◌, subst, ⊎_elim, append_assoc, append-nil}
use Rattle.std.specs.Prelude.{slice_get, option_and_then, if◌then◌else◌}
use Rattle.std.specs.List.{AllByRecursion, list_any, list_all}
use Rattle.std.proofs.lemmas.Bool.{and_parts, and_from, or_left, or_right, or_cases, eqb-true, eq-eqb, true≢false}
use Rattle.std.proofs.lemmas.List.Folds.{list_any-append}
use Rattle.std.proofs.lemmas.Option.{same_Some, option_and_then_some}
use Rattle.fol_base.specs.Tree.{Tree, variable, application, Trees, no_trees, tree_then, list_of, trees_count, tree_variables, trees_variables}
use Rattle.fol_base.specs.Instance.{Substitution, instance}
use Rattle.fol_base.specs.Place.{argument, subterm}
use Rattle.fol_base.proofs.AboutInstances.InstancePlaces.{subterms_of_instances}
use Rattle.unifier.specs.Bindings.{occurs}
use Rattle.unifier.specs.Matching.{variables_of, by_pairs, HasPairs, with_further}
use Rattle.unifier.specs.Additions.{stands, stands_in_any, IsSubtermOf, MatchersPutSubterms, FurtherTermsAreSubterms, SubtermsAddNothing}
use Rattle.unifier.proofs.AboutMatching.MatchLemmas.{Pairs, all-back, variables-append, HasPairs-own}
use Rattle.list_lemmas.proofs.Lists.{same-rest}

-- ---- a variable has a place

abbrev HasPlace : ℕ → Tree → Type 0
HasPlace v t = IsSubtermOf (variable v) t

abbrev HasPlaceAmong : ℕ → Trees → Type 0
HasPlaceAmong v ts = (k : ℕ) × (place : List ℕ) × (option_and_then (subterm place) (slice_get (list_of ts) k) ≡ Some (variable v))

mutual
  place-of : (v : ℕ) (t : Tree) → occurs v t ≡ true → HasPlace v t
  place-of v (variable w) h =
      ⊎_elim
      (λ same. ([], ap (λ u. Some (variable u)) (eqb-true w v same)))
      (λ none. absurd (true≢false (sym none)))
      (or_cases (w == v) false h)
  place-of v (application f ts) h = let at : HasPlaceAmong v ts = place-among v ts h in (at.0 ∷ at.1, at.2)

  place-among : (v : ℕ) (ts : Trees) → list_any (λ u. u == v) (trees_variables ts) ≡ true → HasPlaceAmong v ts
  place-among v no_trees h = absurd (true≢false (sym h))
  place-among v (tree_then t ts) h =
      ⊎_elim
      (λ first. let at : HasPlace v t = place-of v t first in (0, at.0, at.1))
      (λ others. let at : HasPlaceAmong v ts = place-among v ts others in (suc at.0, at.1, at.2))
      (or_cases (occurs v t) (list_any (λ u. u == v) (trees_variables ts))
      (sym (list_any-append (λ u. u == v) (tree_variables t) (trees_variables ts)) ∙ h))

pub matchers_put_subterms : MatchersPutSubterms
matchers_put_subterms pattern target σ matches v there =
    let at : HasPlace v pattern = place-of v pattern there in
    (at.0, ap (subterm at.0) (sym matches) ∙ subterms_of_instances σ at.0 pattern (variable v) at.1)

-- ---- the pairs that are added

-- the further numbers are of the second list
abbrev Further : List ℕ → List ℕ → Type 0
Further vs ws =
    (more : List ℕ) × (with_further vs ws ≡ vs ++ more)
    × ((test : ℕ → Bool) → list_all test ws ≡ true → list_all test more ≡ true)

further-then :
    (vs ws : List ℕ) (w : ℕ) (known : Bool) → list_any (λ v. w == v) vs ≡ known
    → Further vs ws → Further (vs ++ w ∷ []) ws → Further vs (w ∷ ws)
further-then vs ws w true e rest longer = (
  rest.0,
  ap (λ (b : Bool). with_further (if b then vs else vs ++ w ∷ []) ws) e ∙ rest.1,
  (λ test h. rest.2 test (and_parts (test w) (list_all test ws) h).1),
)
further-then vs ws w false e rest longer = (
  w ∷ longer.0,
  ap (λ (b : Bool). with_further (if b then vs else vs ++ w ∷ []) ws) e ∙ longer.1 ∙ append_assoc vs (w ∷ []) longer.0,
  (λ test h. let both = and_parts (test w) (list_all test ws) h in and_from (test w) (list_all test longer.0) both.0 (longer.2 test both.1)),
)

further-of : (vs ws : List ℕ) → Further vs ws
further-of vs [] = ([], sym (append-nil vs), (λ test h. refl))
further-of vs (w ∷ ws) = further-then vs ws w (list_any (λ v. w == v) vs) refl (further-of vs ws) (further-of (vs ++ w ∷ []) ws)

-- each number of a list is in it
listed : (vs before : List ℕ) → list_all (λ v. list_any (λ w. w == v) (before ++ vs)) vs ≡ true
listed [] before = refl
listed (v ∷ vs) before =
    and_from (list_any (λ w. w == v) (before ++ v ∷ vs)) (list_all (λ u. list_any (λ w. w == u) (before ++ v ∷ vs)) vs)
    (list_any-append (λ w. w == v) before (v ∷ vs)
    ∙ or_right (list_any (λ w. w == v) before) (list_any (λ w. w == v) (v ∷ vs))
    (or_left (v == v) (list_any (λ w. w == v) vs) (eq-eqb v v refl)))
    (ap (λ (us : List ℕ). list_all (λ u. list_any (λ w. w == u) us) vs) (sym (append_assoc before (v ∷ []) vs)) ∙ listed vs (before ++ v ∷ []))

subterms :
    (pattern target : Tree) (σ : Substitution) → instance σ pattern ≡ target
    → (ps : Pairs) → list_all (λ v. occurs v pattern) (variables_of ps) ≡ true → HasPairs ps σ
    → AllByRecursion (λ (p : ℕ × Tree). IsSubtermOf p.1 target) ps
subterms pattern target σ matches [] there has = tt
subterms pattern target σ matches (p ∷ ps) there has =
    let both = and_parts (occurs p.0 pattern) (list_all (λ v. occurs v pattern) (variables_of ps)) there in (
      subst (λ (u : Tree). IsSubtermOf u target) has.0 (matchers_put_subterms pattern target σ matches p.0 both.0),
      subterms pattern target σ matches ps both.1 has.1,
    )

pub further_terms_are_subterms : FurtherTermsAreSubterms
further_terms_are_subterms so_far pattern target found matched once =
    let σ : Substitution = by_pairs found in
    let has : HasPairs found σ = HasPairs-own found once in
    let more : Further (variables_of so_far) (tree_variables pattern) = further-of (variables_of so_far) (tree_variables pattern) in
    let same : variables_of matched.further ≡ more.0 =
    same-rest (variables_of so_far) (variables_of matched.further) more.0
    (sym (variables-append so_far matched.further) ∙ ap variables_of (sym matched.extends) ∙ matched.covers ∙ more.1) in
    subterms pattern target σ ((matched.exact σ).0 has).1 matched.further
    (ap (list_all (λ v. occurs v pattern)) same ∙ more.2 (λ v. occurs v pattern) (listed (tree_variables pattern) []))
    (all-back σ so_far matched.further (subst (λ (ps : Pairs). HasPairs ps σ) matched.extends has))

-- ---- a subterm adds nothing

stands-argument : (f n k : ℕ) (ts : Trees) (a : Tree) → slice_get (list_of ts) k ≡ Some a → stands f n a ≡ true → stands_in_any f n ts ≡ true
stands-argument f n k no_trees a e h = absurd (cc)
stands-argument f n zero (tree_then t ts) a e h =
    or_left (stands f n t) (stands_in_any f n ts) (ap (stands f n) (same_Some t a e) ∙ h)
stands-argument f n (suc k) (tree_then t ts) a e h =
    or_right (stands f n t) (stands_in_any f n ts) (stands-argument f n k ts a e h)

occurs-argument : (w k : ℕ) (ts : Trees) (a : Tree) → slice_get (list_of ts) k ≡ Some a → occurs w a ≡ true → list_any (λ u. u == w) (trees_variables ts) ≡ true
occurs-argument w k no_trees a e h = absurd (cc)
occurs-argument w zero (tree_then t ts) a e h =
    list_any-append (λ u. u == w) (tree_variables t) (trees_variables ts)
    ∙ or_left (occurs w t) (list_any (λ u. u == w) (trees_variables ts)) (ap (occurs w) (same_Some t a e) ∙ h)
occurs-argument w (suc k) (tree_then t ts) a e h =
    list_any-append (λ u. u == w) (tree_variables t) (trees_variables ts)
    ∙ or_right (occurs w t) (list_any (λ u. u == w) (trees_variables ts)) (occurs-argument w k ts a e h)

stands-below : (f n : ℕ) (place : List ℕ) (t u : Tree) → subterm place t ≡ Some u → stands f n u ≡ true → stands f n t ≡ true
stands-below f n [] t u at h = ap (stands f n) (same_Some t u at) ∙ h
stands-below f n (k ∷ place) (variable v) u at h = absurd (cc)
stands-below f n (k ∷ place) (application g ts) u at h =
    option_and_then_some (subterm place) (argument k (application g ts)) u at λ a a_is a_at.
    or_right ((f == g) && (n == trees_count ts)) (stands_in_any f n ts) (stands-argument f n k ts a a_is (stands-below f n place a u a_at h))

occurs-below : (w : ℕ) (place : List ℕ) (t u : Tree) → subterm place t ≡ Some u → occurs w u ≡ true → occurs w t ≡ true
occurs-below w [] t u at h = ap (occurs w) (same_Some t u at) ∙ h
occurs-below w (k ∷ place) (variable v) u at h = absurd (cc)
occurs-below w (k ∷ place) (application g ts) u at h =
    option_and_then_some (subterm place) (argument k (application g ts)) u at λ a a_is a_at.
    occurs-argument w k ts a a_is (occurs-below w place a u a_at h)

pub subterms_add_nothing : SubtermsAddNothing
subterms_add_nothing u t at = (
  (λ f n h. stands-below f n at.0 t u at.1 h),
  (λ w h. occurs-below w at.0 t u at.1 h),
)
