-- Steps down a place.
use Rattle.std.proofs.Common.{◌≡◌, ℕ, zero, suc, ◌+◌, ◌<◌, ◌≤◌, Option, None, Some, List, [], ◌∷◌, length, map, drop, get_or, refl, ap, sym, ◌∙◌, arith}
use Rattle.std.specs.Prelude.{slice_get, slice_set, option_and_then}
use Rattle.std.specs.Option.{option_map}
use Rattle.std.proofs.lemmas.Option.{option_and_then_some}
use Rattle.fol_base.specs.Tree.{Tree, application, trees_of}
use Rattle.fol_base.specs.Place.{argument, subterm, replaced, with_argument}
use Rattle.fol_base.specs.Term.{tree_of}
use Rattle.fol_base.specs.declared.term.Term.{Term}
use Rattle.fol_base.proofs.AboutTerms.TreeLemmas.{list_of-trees_of}
use Rattle.fol_base.proofs.WorkedExamples.TestLemmas.{option_map-some}

-- an argument that is there, as it is read from a slice
pub argument-item :
    (xs : List Term) (ts : List Tree) (f i : ℕ) (x : Term)
    → map tree_of xs ≡ ts → i < length xs → x ≡ get_or xs i x → argument i (application f (trees_of ts)) ≡ Some (tree_of x)
argument-item xs ts f i x e h r =
    ap (λ us. slice_get us i) (list_of-trees_of ts ∙ sym e)
    ∙ at_index xs i x h ∙ ap (λ y. Some (tree_of y)) (sym r)
  where
    at_index : (xs : List Term) (i : ℕ) (d : Term) → i < length xs → slice_get (map tree_of xs) i ≡ Some (tree_of (get_or xs i d))
    at_index [] i d h = absurd (omega arith)
    at_index (y ∷ ys) zero d h = refl
    at_index (y ∷ ys) (suc i) d h = at_index ys i d (omega arith)

-- an argument that isn't
pub argument-past :
    (xs : List Term) (ts : List Tree) (f i : ℕ)
    → map tree_of xs ≡ ts → length xs ≤ i → argument i (application f (trees_of ts)) ≡ None
argument-past xs ts f i e h =
    ap (λ us. slice_get us i) (list_of-trees_of ts ∙ sym e) ∙ past xs i h
  where
    past : (xs : List Term) (i : ℕ) → length xs ≤ i → slice_get (map tree_of xs) i ≡ None
    past [] i h = refl
    past (y ∷ ys) zero h = absurd (omega arith)
    past (y ∷ ys) (suc i) h = past ys i (omega arith)

-- the rest of a place, from a number on
pub drop-number : (place : List ℕ) (i : ℕ) → i < length place → drop i place ≡ get_or place i 0 ∷ drop (i + 1) place
drop-number [] i h = absurd (omega arith)
drop-number (n ∷ place) zero h = refl
drop-number (n ∷ place) (suc i) h = drop-number place i (omega arith) ∙ ap (λ k. get_or place i 0 ∷ drop k (n ∷ place)) step
  where
    step : suc (i + 1) ≡ suc i + 1
    step = omega arith

-- one step down
pub subterm_step :
    (place : List ℕ) (i : ℕ) (t next : Tree) (whole : Option Tree)
    → i < length place → subterm (drop i place) t ≡ whole → Some next ≡ argument (get_or place i 0) t
    → subterm (drop (i + 1) place) next ≡ whole
subterm_step place i t next whole h e a =
    ap (option_and_then (subterm (drop (i + 1) place))) a ∙ sym (ap (λ p. subterm p t) (drop-number place i h)) ∙ e

-- no step down
pub subterm_stop :
    (place : List ℕ) (i : ℕ) (t : Tree) (whole : Option Tree)
    → i < length place → subterm (drop i place) t ≡ whole → None ≡ argument (get_or place i 0) t → None ≡ whole
subterm_stop place i t whole h e a =
    ap (option_and_then (subterm (drop (i + 1) place))) a ∙ sym (ap (λ p. subterm p t) (drop-number place i h)) ∙ e

-- what becomes of the argument that a place goes through
pub replaced_step :
    (place : List ℕ) (i : ℕ) (new t a : Tree)
    → i < length place → argument (get_or place i 0) t ≡ Some a
    → replaced (drop i place) new t ≡ option_map (λ b. with_argument (get_or place i 0) b t) (replaced (drop (i + 1) place) new a)
replaced_step place i new t a h e =
    ap (λ p. replaced p new t) (drop-number place i h)
    ∙ ap
    (option_and_then (λ a. option_map (λ b. with_argument (get_or place i 0) b t) (replaced (drop (i + 1) place) new a)))
    e

pub replaced_stop :
    (place : List ℕ) (i : ℕ) (new t : Tree)
    → i < length place → argument (get_or place i 0) t ≡ None → replaced (drop i place) new t ≡ None
replaced_stop place i new t h e =
    ap (λ p. replaced p new t) (drop-number place i h)
    ∙ ap
    (option_and_then (λ a. option_map (λ b. with_argument (get_or place i 0) b t) (replaced (drop (i + 1) place) new a)))
    e

-- the whole with the argument that was made
pub replaced-made :
    (place : List ℕ) (i : ℕ) (new a inner : Tree) (f : ℕ) (arguments made : List Tree)
    → i < length place → argument (get_or place i 0) (application f (trees_of arguments)) ≡ Some a
    → replaced (drop (i + 1) place) new a ≡ Some inner → made ≡ slice_set arguments (get_or place i 0) inner
    → replaced (drop i place) new (application f (trees_of arguments)) ≡ Some (application f (trees_of made))
replaced-made place i new a inner f arguments made h there below set_is =
    replaced_step place i new (application f (trees_of arguments)) a h there
    ∙ ap (option_map (λ b. with_argument (get_or place i 0) b (application f (trees_of arguments)))) below
    ∙ ap (λ us. Some (application f (trees_of (slice_set us (get_or place i 0) inner)))) (list_of-trees_of arguments)
    ∙ ap (λ us. Some (application f (trees_of us))) (sym set_is)

-- a replacement below the head: an argument is exchanged
pub replaced-parts :
    {P : Type 0} (k : ℕ) (place : List ℕ) (new t made : Tree)
    → replaced (k ∷ place) new t ≡ Some made
    → ((a b : Tree) → argument k t ≡ Some a → replaced place new a ≡ Some b → with_argument k b t ≡ made → P) → P
replaced-parts k place new t made put then =
    option_and_then_some (λ a. option_map (λ b. with_argument k b t) (replaced place new a)) (argument k t) made put λ a a_is a_put.
    option_map-some (λ b. with_argument k b t) (replaced place new a) made a_put λ b b_is gives.
    then a b a_is b_is gives
