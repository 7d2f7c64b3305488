-- Steps of loops over lists, and sums that stop at a greatest number.
use Rattle.std.proofs.Common.{◌≡◌, ℕ, zero, suc, ◌+◌, ◌-◌, ◌<◌, min, List, [], ◌∷◌, ◌++◌, length, map, take, drop, get_or, refl, ap, sym, ◌∙◌, arith}
use Rattle.std.specs.Prelude.{slice_set, remove}
use Rattle.std.proofs.lemmas.List.{take_more, map-append, take_all, length-drop, append_assoc}

-- the front grows by the item that was read
pub take_more_item :
    {X : Type 0} (xs : List X) (i : ℕ) (x : X)
    → i < length xs → x ≡ get_or xs i x → take (i + 1) xs ≡ take i xs ++ x ∷ []
take_more_item xs i x h e = take_more xs i x h ∙ ap (λ y. take i xs ++ y ∷ []) (sym e)

-- and so does what is made of it
pub map-take_more_item :
    {X Y : Type 0} (f : X → Y) (xs : List X) (i : ℕ) (x : X)
    → i < length xs → x ≡ get_or xs i x → map f (take (i + 1) xs) ≡ map f (take i xs) ++ f x ∷ []
map-take_more_item f xs i x h e = ap (map f) (take_more_item xs i x h e) ∙ map-append f (take i xs) (x ∷ [])

-- a sum that stops at a greatest number, carried on by one more
pub stopped_sum :
    (sum item total added new most : ℕ)
    → total ≡ min sum most → added ≡ min item most → new ≡ min (total + added) most → new ≡ min (sum + item) most
stopped_sum sum item total added new most a b c = omega arith

-- a list with one item exchanged is its front, the new item and its rest
pub set-parts :
    {X Y : Type 0} (f : X → Y) (xs : List X) (i : ℕ) (new : Y)
    → i < length xs → slice_set (map f xs) i new ≡ map f (take i xs) ++ new ∷ [] ++ map f (drop (i + 1) xs)
set-parts f [] i new h = absurd (omega arith)
set-parts f (x ∷ xs) zero new h = refl
set-parts f (x ∷ xs) (suc i) new h =
    ap (λ us. f x ∷ us) (set-parts f xs i new (omega arith))
    ∙ ap (λ k. f x ∷ (map f (take i xs) ++ new ∷ [] ++ map f (drop k (x ∷ xs)))) step
  where
    step : suc (i + 1) ≡ suc i + 1
    step = omega arith

-- a list without one item is its front and its rest
pub remove-parts :
    {X Y : Type 0} (f : X → Y) (xs : List X) (i : ℕ)
    → i < length xs → remove (map f xs) i ≡ map f (take i xs) ++ map f (drop (i + 1) xs)
remove-parts f [] i h = absurd (omega arith)
remove-parts f (x ∷ xs) zero h = refl
remove-parts f (x ∷ xs) (suc i) h =
    ap (λ us. f x ∷ us) (remove-parts f xs i (omega arith))
    ∙ ap (λ k. f x ∷ (map f (take i xs) ++ map f (drop k (x ∷ xs)))) step
  where
    step : suc (i + 1) ≡ suc i + 1
    step = omega arith

-- what `&xs[i + 1..]` holds
pub rest_after :
    {X : Type 0} (xs : List X) (i : ℕ) → take (length xs - (i + 1)) (drop (i + 1) xs) ≡ drop (i + 1) xs
rest_after xs i = take_all (length xs - (i + 1)) (drop (i + 1) xs) (omega (arith, length-drop (i + 1) xs))

-- the front, the new item and the rest, as they are pushed one after another
pub set-pushed :
    {X Y : Type 0} (f : X → Y) (xs made front more whole : List X) (i : ℕ) (new : X)
    → i < length xs → made ≡ [] → map f front ≡ map f made ++ map f (take i xs) → more ≡ front ++ new ∷ []
    → map f whole ≡ map f more ++ map f (take (length xs - (i + 1)) (drop (i + 1) xs))
    → map f whole ≡ slice_set (map f xs) i (f new)
set-pushed f xs made front more whole i new h none first second third =
    third
    ∙ ap (λ us. us ++ map f (take (length xs - (i + 1)) (drop (i + 1) xs)))
    (ap (map f) second ∙ map-append f front (new ∷ [])
    ∙ ap (λ us. us ++ f new ∷ []) (first ∙ ap (λ m. map f m ++ map f (take i xs)) none))
    ∙ ap (λ ys. map f (take i xs) ++ f new ∷ [] ++ map f ys) (rest_after xs i)
    ∙ sym (set-parts f xs i (f new) h)

-- the front and the rest, as they are pushed one after another
pub remove-pushed :
    {X Y : Type 0} (f : X → Y) (xs made front whole : List X) (i : ℕ)
    → i < length xs → map f front ≡ map f made ++ map f (take i xs)
    → map f whole ≡ map f front ++ map f (take (length xs - (i + 1)) (drop (i + 1) xs))
    → map f whole ≡ map f made ++ remove (map f xs) i
remove-pushed f xs made front whole i h first second =
    second
    ∙ ap (λ us. us ++ map f (take (length xs - (i + 1)) (drop (i + 1) xs))) first
    ∙ ap (λ ys. map f made ++ map f (take i xs) ++ map f ys) (rest_after xs i)
    ∙ append_assoc (map f made) (map f (take i xs)) (map f (drop (i + 1) xs))
    ∙ ap (λ us. map f made ++ us) (sym (remove-parts f xs i h))
