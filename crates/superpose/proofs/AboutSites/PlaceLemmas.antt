-- Replacing a subterm: that it can be done, sizes, and the variables of what is made.
use Rattle.std.proofs.Common.{◌≡◌, ℕ, zero, suc, ◌+◌, Some, List, [], ◌∷◌, ◌++◌, refl, ap, sym, ◌∙◌, arith}
use Rattle.std.specs.Prelude.{flat_map, slice_get, slice_set}
use Rattle.std.proofs.lemmas.Option.{same_Some, option_and_then_some}
use Rattle.fol_base.specs.Tree.{Tree, variable, application, trees_of, list_of, tree_size, trees_size, tree_variables, trees_variables}
use Rattle.fol_base.specs.Place.{argument, with_argument, subterm, replaced}
use Rattle.fol_base.proofs.AboutInstances.PlaceLemmas.{replaced-parts}
use Rattle.fol_base.proofs.AboutTerms.TreeLemmas.{trees_of-list_of}

-- ---- sizes

set-size :
    (ts : List Tree) (k : ℕ) (a b : Tree)
    → slice_get ts k ≡ Some a → trees_size (trees_of (slice_set ts k b)) + tree_size a ≡ trees_size (trees_of ts) + tree_size b
set-size [] k a b there = absurd (cc)
set-size (t ∷ ts) zero a b there =
    let same : tree_size t ≡ tree_size a = ap tree_size (same_Some t a there) in
    let sum : (tree_size b + trees_size (trees_of ts)) + tree_size a ≡ (tree_size t + trees_size (trees_of ts)) + tree_size b = omega arith in sum
set-size (t ∷ ts) (suc k) a b there =
    let rest = set-size ts k a b there in
    let sum : (tree_size t + trees_size (trees_of (slice_set ts k b))) + tree_size a ≡ (tree_size t + trees_size (trees_of ts)) + tree_size b =
    omega (arith, rest) in sum

with_argument-size :
    (k : ℕ) (t a b : Tree) → argument k t ≡ Some a → tree_size (with_argument k b t) + tree_size a ≡ tree_size t + tree_size b
with_argument-size k (variable v) a b there = absurd (cc)
with_argument-size k (application f ts) a b there =
    let whole = set-size (list_of ts) k a b there in
    let same : trees_size (trees_of (list_of ts)) ≡ trees_size ts = ap trees_size (trees_of-list_of ts) in
    let sum : (1 + trees_size (trees_of (slice_set (list_of ts) k b))) + tree_size a ≡ (1 + trees_size ts) + tree_size b = omega (arith, whole, same) in sum

pub replaced-size :
    (place : List ℕ) (new t old made : Tree)
    → subterm place t ≡ Some old → replaced place new t ≡ Some made → tree_size made + tree_size old ≡ tree_size t + tree_size new
replaced-size [] new t old made there put =
    let first : tree_size t ≡ tree_size old = ap tree_size (same_Some t old there) in
    let second : tree_size new ≡ tree_size made = ap tree_size (same_Some new made put) in
    omega (arith, first, second)
replaced-size (k ∷ place) new t old made there put =
    option_and_then_some (subterm place) (argument k t) old there λ a a_is a_there.
    replaced-parts k place new t made put λ x b x_is b_is gives.
    let same : x ≡ a = same_Some x a (sym x_is ∙ a_is) in
    let inner : tree_size b + tree_size old ≡ tree_size a + tree_size new =
    replaced-size place new a old b a_there (ap (replaced place new) (sym same) ∙ b_is) in
    let outer = with_argument-size k t a b a_is in
    let is : tree_size (with_argument k b t) ≡ tree_size made = ap tree_size gives in
    omega (arith, inner, outer, is)

-- ---- variables

pub trees_variables-listed : (ts : List Tree) → trees_variables (trees_of ts) ≡ flat_map tree_variables ts
trees_variables-listed [] = refl
trees_variables-listed (t ∷ ts) = ap (λ vs. tree_variables t ++ vs) (trees_variables-listed ts)
