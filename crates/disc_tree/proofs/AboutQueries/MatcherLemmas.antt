-- The matchers of a generalisation are read off: what they turn the entry's variables into stands at the variables' places.
use Rattle.std.proofs.Common.{◌≡◌, ℕ, true, false, ◌==◌, List, [], ◌∷◌, ◌++◌, length, map, length-append, refl, ap, ap₂, ◌∙◌, arith, eqb-true}
use Rattle.std.proofs.lemmas.List.{map-append}
use Rattle.fol_base.specs.Tree.{Tree, variable, application, Trees, no_trees, tree_then, tree_variables, trees_variables}
use Rattle.fol_base.specs.Instance.{Substitution, instance, instances}
use Rattle.fol_base.specs.Compatible.{compatible_by, all_compatible_by}
use Rattle.disc_tree.specs.Generalisations.{MatchersAreReadOff, stood_for, all_stood_for}
use Rattle.disc_tree.proofs.AboutQueries.UnifierLemmas.{trees_below, first_of, rest_of}
use Rattle.list_lemmas.proofs.Bools.{and-first as and-left, and-second as and-right}

mutual
  handed :
      (t u : Tree) (σ : Substitution)
      → compatible_by true false t u ≡ true → instance σ t ≡ u → map σ (tree_variables t) ≡ stood_for t u
  handed (variable v) u σ c e = ap (λ z. z ∷ []) e
  handed (application f ts) (variable w) σ c e = absurd cc
  handed (application f ts) (application g us) σ c e =
      all-handed ts us σ (and-right (f == g) (all_compatible_by true false ts us) c) (ap trees_below e)

  all-handed :
      (ts us : Trees) (σ : Substitution)
      → all_compatible_by true false ts us ≡ true → instances σ ts ≡ us → map σ (trees_variables ts) ≡ all_stood_for ts us
  all-handed no_trees us σ c e = refl
  all-handed (tree_then t ts) no_trees σ c e = absurd cc
  all-handed (tree_then t ts) (tree_then u us) σ c e =
      map-append σ (tree_variables t) (trees_variables ts)
      ∙ ap₂ ◌++◌
      (handed t u σ (and-left (compatible_by true false t u) (all_compatible_by true false ts us) c) (ap first_of e))
      (all-handed ts us σ (and-right (compatible_by true false t u) (all_compatible_by true false ts us) c) (ap rest_of e))

mutual
  handed-length : (t u : Tree) → compatible_by true false t u ≡ true → length (tree_variables t) ≡ length (stood_for t u)
  handed-length (variable v) u c = refl
  handed-length (application f ts) (variable w) c = absurd cc
  handed-length (application f ts) (application g us) c =
      all-handed-length ts us (and-right (f == g) (all_compatible_by true false ts us) c)

  all-handed-length : (ts us : Trees) → all_compatible_by true false ts us ≡ true → length (trees_variables ts) ≡ length (all_stood_for ts us)
  all-handed-length no_trees us c = refl
  all-handed-length (tree_then t ts) no_trees c = absurd cc
  all-handed-length (tree_then t ts) (tree_then u us) c =
      omega (
        arith,
        length-append (tree_variables t) (trees_variables ts),
        length-append (stood_for t u) (all_stood_for ts us),
        handed-length t u (and-left (compatible_by true false t u) (all_compatible_by true false ts us) c),
        all-handed-length ts us (and-right (compatible_by true false t u) (all_compatible_by true false ts us) c),
      )

-- two lists in two parts, the first ones of one length
front-same :
    (σ : Substitution) (vs ws : List ℕ) (xs ys : List Tree)
    → length vs ≡ length xs → map σ (vs ++ ws) ≡ xs ++ ys → map σ vs ≡ xs
front-same σ [] ws [] ys h e = refl
front-same σ [] ws (x ∷ xs) ys h e = absurd (omega (arith, h))
front-same σ (v ∷ vs) ws [] ys h e = absurd (omega (arith, h))
front-same σ (v ∷ vs) ws (x ∷ xs) ys h e =
    let first : σ v ≡ x = cc in
    let others : map σ (vs ++ ws) ≡ xs ++ ys = cc in
    ap₂ ◌∷◌ first (front-same σ vs ws xs ys (omega (arith, h)) others)

back-same :
    (σ : Substitution) (vs ws : List ℕ) (xs ys : List Tree)
    → length vs ≡ length xs → map σ (vs ++ ws) ≡ xs ++ ys → map σ ws ≡ ys
back-same σ [] ws [] ys h e = e
back-same σ [] ws (x ∷ xs) ys h e = absurd (omega (arith, h))
back-same σ (v ∷ vs) ws [] ys h e = absurd (omega (arith, h))
back-same σ (v ∷ vs) ws (x ∷ xs) ys h e =
    let others : map σ (vs ++ ws) ≡ xs ++ ys = cc in
    back-same σ vs ws xs ys (omega (arith, h)) others

mutual
  matching :
      (t u : Tree) (σ : Substitution)
      → compatible_by true false t u ≡ true → map σ (tree_variables t) ≡ stood_for t u → instance σ t ≡ u
  matching (variable v) u σ c e = let same : σ v ≡ u = cc in same
  matching (application f ts) (variable w) σ c e = absurd cc
  matching (application f ts) (application g us) σ c e =
      ap₂ application (eqb-true f g (and-left (f == g) (all_compatible_by true false ts us) c))
      (all-matching ts us σ (and-right (f == g) (all_compatible_by true false ts us) c) e)

  all-matching :
      (ts us : Trees) (σ : Substitution)
      → all_compatible_by true false ts us ≡ true → map σ (trees_variables ts) ≡ all_stood_for ts us → instances σ ts ≡ us
  all-matching no_trees no_trees σ c e = refl
  all-matching no_trees (tree_then u us) σ c e = absurd cc
  all-matching (tree_then t ts) no_trees σ c e = absurd cc
  all-matching (tree_then t ts) (tree_then u us) σ c e =
      let one : compatible_by true false t u ≡ true = and-left (compatible_by true false t u) (all_compatible_by true false ts us) c in
      let others : all_compatible_by true false ts us ≡ true = and-right (compatible_by true false t u) (all_compatible_by true false ts us) c in
      ap₂ tree_then
      (matching t u σ one
      (front-same σ (tree_variables t) (trees_variables ts) (stood_for t u) (all_stood_for ts us) (handed-length t u one) e))
      (all-matching ts us σ others
      (back-same σ (tree_variables t) (trees_variables ts) (stood_for t u) (all_stood_for ts us) (handed-length t u one) e))

pub matchers-read-off : MatchersAreReadOff
matchers-read-off t u σ c = (λ e. handed t u σ c e, λ e. matching t u σ c e)
