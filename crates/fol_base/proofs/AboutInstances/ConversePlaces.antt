-- Places the other way round: what a place of an instance is, and that a tree can be replaced exactly where it has a subterm.
use Rattle.std.proofs.Common.{◌≡◌, ℕ, List, [], ◌∷◌, ◌++◌, Option, None, Some, refl, ap, sym, ◌∙◌, inl, inr, ⊎_elim}
use Rattle.std.specs.Prelude.{option_map, option_and_then, is_some, slice_get}
use Rattle.std.proofs.lemmas.Option.{option_and_then_some, same_Some, slice_get-map}
use Rattle.fol_base.specs.Tree.{Tree, variable, application, Trees, list_of}
use Rattle.fol_base.specs.Instance.{Substitution, instance}
use Rattle.fol_base.specs.Place.{argument, with_argument, subterm, replaced}
use Rattle.fol_base.specs.InstanceLaws.{AtPlaceOf, BelowVariable, PlacesInInstances, ReplacedWhereThere}
use Rattle.fol_base.proofs.AboutInstances.InstancePlaces.{list_of-instances}
use Rattle.fol_base.proofs.WorkedExamples.TestLemmas.{option_map-some, is_some-option_map}

-- ---- places of instances

-- an argument of an instance is the instance of one
argument-of_instance :
    (σ : Substitution) (k f : ℕ) (ts : Trees)
    → argument k (instance σ (application f ts)) ≡ option_map (instance σ) (argument k (application f ts))
argument-of_instance σ k f ts = ap (λ us. slice_get us k) (list_of-instances σ ts) ∙ slice_get-map (instance σ) (list_of ts) k

-- one step further up
AtPlaceOf-argument :
    (σ : Substitution) (k : ℕ) (place : List ℕ) (t a u : Tree)
    → argument k t ≡ Some a → AtPlaceOf σ place a u → AtPlaceOf σ (k ∷ place) t u
AtPlaceOf-argument σ k place t a u a_is at = record {
  old = at.old;
  there = ap (option_and_then (subterm place)) a_is ∙ at.there;
  no_variable = at.no_variable;
  becomes = at.becomes;
}

BelowVariable-argument :
    (σ : Substitution) (k : ℕ) (place : List ℕ) (t a u : Tree)
    → argument k t ≡ Some a → BelowVariable σ place a u → BelowVariable σ (k ∷ place) t u
BelowVariable-argument σ k place t a u a_is at = record {
  above = k ∷ at.above;
  below = at.below;
  number = at.number;
  whole = ap (λ ks. k ∷ ks) at.whole;
  variable_there = ap (option_and_then (subterm at.above)) a_is ∙ at.variable_there;
  goes_on = at.goes_on;
}

pub places_in_instances : PlacesInInstances
places_in_instances σ [] (variable v) u h =
    inr (record { above = []; below = []; number = v; whole = refl; variable_there = refl; goes_on = h })
places_in_instances σ [] (application f ts) u h =
    inl (record { old = application f ts; there = refl; no_variable = refl; becomes = same_Some (instance σ (application f ts)) u h })
places_in_instances σ (k ∷ place) (variable v) u h =
    inr (record { above = []; below = k ∷ place; number = v; whole = refl; variable_there = refl; goes_on = h })
places_in_instances σ (k ∷ place) (application f ts) u h =
    option_and_then_some (subterm place) (argument k (instance σ (application f ts))) u h λ w w_is w_at.
    option_map-some (instance σ) (argument k (application f ts)) w (sym (argument-of_instance σ k f ts) ∙ w_is) λ a a_is a_becomes.
    ⊎_elim
    (λ at. inl (AtPlaceOf-argument σ k place (application f ts) a u a_is at))
    (λ at. inr (BelowVariable-argument σ k place (application f ts) a u a_is at))
    (places_in_instances σ place a u (ap (subterm place) a_becomes ∙ w_at))

-- ---- replaced where there

replaced-by_argument :
    (k : ℕ) (place : List ℕ) (new t : Tree)
    → ((a : Tree) → is_some (replaced place new a) ≡ is_some (subterm place a)) → (o : Option Tree)
    → is_some (option_and_then (λ a. option_map (λ b. with_argument k b t) (replaced place new a)) o)
    ≡ is_some (option_and_then (subterm place) o)
replaced-by_argument k place new t alike None = refl
replaced-by_argument k place new t alike (Some a) = is_some-option_map (λ b. with_argument k b t) (replaced place new a) ∙ alike a

pub replaced_where_there : ReplacedWhereThere
replaced_where_there [] new t = refl
replaced_where_there (k ∷ place) new t =
    replaced-by_argument k place new t (λ a. replaced_where_there place new a) (argument k t)

-- so where there is a subterm, some tree is the one with it replaced
pub replaced-there : (place : List ℕ) (new t u : Tree) → subterm place t ≡ Some u → (made : Tree) × (replaced place new t ≡ Some made)
replaced-there place new t u there = some (replaced place new t) (replaced_where_there place new t ∙ ap is_some there)
  where
    some : (o : Option Tree) → is_some o ≡ is_some (Some u) → (made : Tree) × (o ≡ Some made)
    some None h = absurd (cc)
    some (Some made) h = (made, refl)

-- a place in two parts
pub subterm-append :
    (above below : List ℕ) (t : Tree) → subterm (above ++ below) t ≡ option_and_then (subterm below) (subterm above t)
subterm-append [] below t = refl
subterm-append (k ∷ above) below t = by_argument (argument k t) (λ a. subterm-append above below a)
  where
    by_argument :
        (o : Option Tree)
        → ((a : Tree) → subterm (above ++ below) a ≡ option_and_then (subterm below) (subterm above a))
        → option_and_then (subterm (above ++ below)) o ≡ option_and_then (subterm below) (option_and_then (subterm above) o)
    by_argument None h = refl
    by_argument (Some a) h = h a
