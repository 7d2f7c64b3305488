-- The lists of a table of keys.
use Rattle.std.proofs.Common.{◌≡◌, ℕ, ◌+◌, Bool, true, false, not, ◌||◌, List, [], ◌∷◌, ◌++◌, map, cond, if◌then◌else◌, refl, ap, ◌∙◌}
use Rattle.std.proofs.lemmas.List.{map-append}
use Rattle.std.specs.Prelude.{bytes_eq}
use Rattle.std.specs.Global.{Vec}
use Rattle.std.specs.List.{list_any, position_or_len}
use Rattle.congruence.specs.Keys.{lists_of, with_key, place_of_key}

place-mapped : {X Y : Type 0} (h : X → Y) (p : Y → Bool) (xs : List X) → position_or_len (λ x. p (h x)) xs ≡ position_or_len p (map h xs)
place-mapped h p [] = refl
place-mapped h p (x ∷ xs) = ap (λ n. cond (not (p (h x))) (1 + n) 0) (place-mapped h p xs)

any-mapped : {X Y : Type 0} (h : X → Y) (p : Y → Bool) (xs : List X) → list_any (λ x. p (h x)) xs ≡ list_any p (map h xs)
any-mapped h p [] = refl
any-mapped h p (x ∷ xs) = ap (λ b. p (h x) || b) (any-mapped h p xs)

pub place-met :
    (v : Vec ℕ) (vs : List (Vec ℕ)) (keys : List (List ℕ)) (place : ℕ) → lists_of vs ≡ keys
    → place ≡ position_or_len (λ (w : Vec ℕ). bytes_eq v.items w.items) vs → place ≡ place_of_key keys v.items
place-met v vs keys place e p =
    p ∙ place-mapped (λ (w : Vec ℕ). w.items) (bytes_eq v.items) vs ∙ ap (position_or_len (bytes_eq v.items)) e

pub lists-met :
    (v : Vec ℕ) (vs new : List (Vec ℕ)) (keys : List (List ℕ)) → lists_of vs ≡ keys
    → new ≡ (if list_any (λ (w : Vec ℕ). bytes_eq v.items w.items) vs then vs else vs ++ v ∷ [])
    → lists_of new ≡ with_key keys v.items
lists-met v vs new keys e n =
    ap lists_of n ∙ by (list_any (λ (w : Vec ℕ). bytes_eq v.items w.items) vs)
    ∙ ap (λ b. if b then lists_of vs else lists_of vs ++ v.items ∷ []) (any-mapped (λ (w : Vec ℕ). w.items) (bytes_eq v.items) vs)
    ∙ ap (λ ks. with_key ks v.items) e
  where
    by : (b : Bool) → lists_of (if b then vs else vs ++ v ∷ []) ≡ (if b then lists_of vs else lists_of vs ++ v.items ∷ [])
    by true = refl
    by false = map-append (λ (w : Vec ℕ). w.items) vs (v ∷ [])
