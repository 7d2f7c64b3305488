-- Terms under a binding, or bound already.
use Rattle.std.proofs.Common.{◌≡◌, ℕ, ◌+◌, ◌<◌, ◌≤◌, Bool, true, false, List, [], ◌∷◌, length, map, drop, get_or, Option, Some, None, refl, ap, sym, ◌∙◌}
use Rattle.std.specs.Prelude.{option_map, slice_get, slice_set}
use Rattle.std.proofs.lemmas.Option.{slice_get-map}
use Rattle.std.proofs.lemmas.Simd.{map-map}
use Rattle.fol_base.specs.Tree.{Tree, variable, application, Trees, no_trees, tree_then, trees_of, list_of, is_truth}
use Rattle.fol_base.specs.Instance.{Substitution, instance}
use Rattle.fol_base.specs.Place.{argument, with_argument, replaced}
use Rattle.fol_base.specs.Term.{tree_of}
use Rattle.fol_base.specs.declared.term.Term.{Term}
use Rattle.fol_base.proofs.AboutTerms.TreeLemmas.{instances-trees_of}
use Rattle.fol_base.proofs.AboutInstances.InstancePlaces.{list_of-instances}
use Rattle.fol_base.proofs.AboutInstances.PlaceLemmas.{argument-item, argument-past, replaced-made, replaced_step, replaced_stop}
use Rattle.kernel_steps.specs.Bound.{under}

-- `$true` is no instance of another application, and its own
pub is_truth-application : (σ : Substitution) (f : ℕ) (ts : Trees) → is_truth (instance σ (application f ts)) ≡ is_truth (application f ts)
is_truth-application σ f no_trees = refl
is_truth-application σ f (tree_then t ts) = refl

option_map-same : {X : Type 0} (o : Option X) → option_map (λ x. x) o ≡ o
option_map-same None = refl
option_map-same (Some x) = refl

map-same : {X : Type 0} (xs : List X) → map (λ x. x) xs ≡ xs
map-same [] = refl
map-same (x ∷ xs) = ap (λ ys. x ∷ ys) (map-same xs)

-- an argument, under a binding or bound already
pub argument-under :
    (b : Bool) (σ : Substitution) (f : ℕ) (ts : Trees) (k : ℕ)
    → argument k (under b σ (application f ts)) ≡ option_map (under b σ) (argument k (application f ts))
argument-under true σ f ts k = sym (option_map-same (slice_get (list_of ts) k))
argument-under false σ f ts k = ap (λ us. slice_get us k) (list_of-instances σ ts) ∙ slice_get-map (instance σ) (list_of ts) k

pub under-application :
    (b : Bool) (σ : Substitution) (f : ℕ) (ts : List Tree)
    → under b σ (application f (trees_of ts)) ≡ application f (trees_of (map (under b σ) ts))
under-application true σ f ts = ap (λ us. application f (trees_of us)) (sym (map-same ts))
under-application false σ f ts = ap (application f) (instances-trees_of σ ts)

-- ---- replacements in it

-- a variable that stays one has no place but the root
pub replaced_stop-under :
    (b : Bool) (σ : Substitution) (place : List ℕ) (i : ℕ) (new t : Tree) (v : ℕ)
    → i < length place → t ≡ variable v → under b σ (variable v) ≡ variable v → None ≡ replaced (drop i place) new (under b σ t)
replaced_stop-under b σ place i new t v h is stays =
    sym (replaced_stop place i new (under b σ t) h (ap (argument (get_or place i 0)) (ap (under b σ) is ∙ stays)))

argument-under_item :
    (b : Bool) (σ : Substitution) (xs : List Term) (ts : List Tree) (f k : ℕ) (t : Tree) (x : Term)
    → t ≡ application f (trees_of ts) → map tree_of xs ≡ ts → k < length xs → x ≡ get_or xs k x
    → argument k (under b σ t) ≡ Some (under b σ (tree_of x))
argument-under_item b σ xs ts f k t x is e h r =
    ap (λ u. argument k (under b σ u)) is
    ∙ argument-under b σ f (trees_of ts) k
    ∙ ap (option_map (under b σ)) (argument-item xs ts f k x e h r)

-- an argument that isn't there
pub replaced_past-under :
    (b : Bool) (σ : Substitution) (place : List ℕ) (i : ℕ) (new t : Tree) (xs : List Term) (ts : List Tree) (f : ℕ)
    → i < length place → t ≡ application f (trees_of ts) → map tree_of xs ≡ ts → length xs ≤ get_or place i 0
    → None ≡ replaced (drop i place) new (under b σ t)
replaced_past-under b σ place i new t xs ts f h is e past =
    sym
    (replaced_stop place i new (under b σ t) h
    (ap (λ u. argument (get_or place i 0) (under b σ u)) is
    ∙ argument-under b σ f (trees_of ts) (get_or place i 0)
    ∙ ap (option_map (under b σ)) (argument-past xs ts f (get_or place i 0) e past)))

-- an argument in which there is no such place
pub replaced_none-under :
    (b : Bool) (σ : Substitution) (place : List ℕ) (i : ℕ) (new t : Tree) (xs : List Term) (ts : List Tree) (f : ℕ) (x : Term)
    → i < length place → t ≡ application f (trees_of ts) → map tree_of xs ≡ ts → get_or place i 0 < length xs → x ≡ get_or xs (get_or place i 0) x
    → None ≡ replaced (drop (i + 1) place) new (under b σ (tree_of x)) → None ≡ replaced (drop i place) new (under b σ t)
replaced_none-under b σ place i new t xs ts f x h is e within r none =
    sym
    (replaced_step place i new (under b σ t) (under b σ (tree_of x)) h
    (argument-under_item b σ xs ts f (get_or place i 0) t x is e within r)
    ∙ ap (option_map (λ a. with_argument (get_or place i 0) a (under b σ t))) (sym none))

-- an argument with the place replaced
pub replaced_some-under :
    (b : Bool) (σ : Substitution) (place : List ℕ) (i : ℕ) (new t : Tree) (xs : List Term) (ts made : List Tree) (f : ℕ) (x : Term) (inner : Tree)
    → i < length place → t ≡ application f (trees_of ts) → map tree_of xs ≡ ts → get_or place i 0 < length xs → x ≡ get_or xs (get_or place i 0) x
    → Some inner ≡ replaced (drop (i + 1) place) new (under b σ (tree_of x))
    → made ≡ slice_set (map (λ y. under b σ (tree_of y)) xs) (get_or place i 0) inner
    → Some (application f (trees_of made)) ≡ replaced (drop i place) new (under b σ t)
replaced_some-under b σ place i new t xs ts made f x inner h is e within r below set_is =
    sym
    (ap (replaced (drop i place) new) whole
    ∙ replaced-made place i new (under b σ (tree_of x)) inner f (map (under b σ) ts) made h
    (ap (argument (get_or place i 0)) (sym whole) ∙ argument-under_item b σ xs ts f (get_or place i 0) t x is e within r)
    (sym below)
    (set_is ∙ ap (λ us. slice_set us (get_or place i 0) inner) (sym (map-map (under b σ) tree_of xs) ∙ ap (map (under b σ)) e)))
  where
    whole : under b σ t ≡ application f (trees_of (map (under b σ) ts))
    whole = ap (under b σ) is ∙ under-application b σ f ts
