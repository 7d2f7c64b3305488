-- What stands at a place of a list: `slice_get`, `get_or`, `take` and `drop`.
use Rattle.std.proofs.Common.{[], List, Some, ap, arith, drop, get_or, inl, inr, length, map, refl, slice_get, subst, suc, sym, take, zero, ℕ, ⊎_elim, ◌++◌, ◌+◌, ◌-◌, ◌<◌, ◌∙◌, ◌∷◌, ◌≡◌, ◌≤◌, ◌⊎◌}
use Rattle.std.proofs.lemmas.List.{at_drop_more, length-drop, take_all, take_more}
use Rattle.std.proofs.lemmas.Option.{get_or_from_slice_get, none-some, same_Some, slice_get_within}

pub get-front : {X : Type 0} (xs ys : List X) (i : ℕ) (x : X) → slice_get xs i ≡ Some x → slice_get (xs ++ ys) i ≡ Some x
get-front [] ys i x h = absurd (none-some x h)
get-front (y ∷ xs) ys zero x h = h
get-front (y ∷ xs) ys (suc i) x h = get-front xs ys i x h

pub get-back : {X : Type 0} (xs ys : List X) (k : ℕ) (x : X) → slice_get ys k ≡ Some x → slice_get (xs ++ ys) (length xs + k) ≡ Some x
get-back [] ys k x h = subst (λ i. slice_get ys i ≡ Some x) (let e : k ≡ 0 + k = omega arith in e) h
get-back (y ∷ xs) ys k x h =
    subst (λ i. slice_get (y ∷ xs ++ ys) i ≡ Some x) (let e : suc (length xs + k) ≡ suc (length xs) + k = omega arith in e) (get-back xs ys k x h)

pub get-last : {X : Type 0} (xs : List X) (x : X) → slice_get (xs ++ x ∷ []) (length xs) ≡ Some x
get-last [] x = refl
get-last (z ∷ zs) x = get-last zs x

pub get-pushed :
    {X : Type 0} (xs : List X) (x : X) (m : ℕ) (d : X)
    → slice_get (xs ++ x ∷ []) m ≡ Some d → (slice_get xs m ≡ Some d) ⊎ ((m ≡ length xs) × (x ≡ d))
get-pushed [] x zero d h = inr (refl, same_Some x d h)
get-pushed [] x (suc m) d h = absurd (cc)
get-pushed (y ∷ ys) x zero d h = inl h
get-pushed (y ∷ ys) x (suc m) d h =
    ⊎_elim (λ e. inl e) (λ e. inr (ap suc e.0, e.1)) (get-pushed ys x m d h)

pub drop-number : (ns : List ℕ) (i : ℕ) → i < length ns → drop i ns ≡ get_or ns i 0 ∷ drop (i + 1) ns
drop-number [] i h = absurd (omega arith)
drop-number (n ∷ ns) zero h = refl
drop-number (n ∷ ns) (suc i) h =
    let e : suc (i + 1) ≡ suc i + 1 = omega arith in
    drop-number ns i (omega arith) ∙ ap (λ k. get_or ns i 0 ∷ drop k (n ∷ ns)) e

pub take-more : {X : Type 0} (xs : List X) (i : ℕ) (x : X) → slice_get xs i ≡ Some x → take (i + 1) xs ≡ take i xs ++ x ∷ []
take-more xs i x e =
    take_more xs i x (slice_get_within xs i x e) ∙ ap (λ y. take i xs ++ y ∷ []) (get_or_from_slice_get xs i x x e)

pub get-only : {X : Type 0} (x y : X) (k : ℕ) → slice_get (x ∷ []) k ≡ Some y → x ≡ y
get-only x y zero there = same_Some x y there
get-only x y (suc k) there = absurd (none-some y there)

pub there-below : {X : Type 0} (xs : List X) (n : ℕ) → n < length xs → (x : X) × (slice_get xs n ≡ Some x)
there-below [] n below = absurd (omega (arith, below))
there-below (x ∷ xs) zero below = (x, refl)
there-below (x ∷ xs) (suc n) below = there-below xs n (omega (arith, below))

pub last-item : {X : Type 0} (xs : List X) (x d : X) → get_or (xs ++ x ∷ []) (length xs) d ≡ x
last-item [] x d = refl
last-item (y ∷ xs) x d = last-item xs x d

pub take-rest : (xs : List ℕ) (k : ℕ) → take (length xs - k) (drop k xs) ≡ drop k xs
take-rest xs k = take_all (length xs - k) (drop k xs) (omega (arith, length-drop k xs))

pub drop-item : {A : Type 0} (xs : List A) (i : ℕ) (x : A) → i < length xs → x ≡ get_or xs i x → drop i xs ≡ x ∷ drop (i + 1) xs
drop-item xs i x h e = at_drop_more (λ ys. ys) xs i x h ∙ ap (λ y. y ∷ drop (i + 1) xs) (sym e)

pub drop-all : {X : Type 0} (xs : List X) (i : ℕ) → length xs ≤ i → drop i xs ≡ []
drop-all [] zero h = refl
drop-all [] (suc i) h = refl
drop-all (x ∷ xs) zero h = absurd (omega arith)
drop-all (x ∷ xs) (suc i) h = drop-all xs i (omega arith)

pub take-less : {X : Type 0} (n m : ℕ) (xs : List X) → n ≤ m → take n (take m xs) ≡ take n xs
take-less zero m xs low = refl
take-less (suc n) zero xs low = absurd (omega (arith, low))
take-less (suc n) (suc m) [] low = refl
take-less (suc n) (suc m) (x ∷ xs) low = ap (λ ys. x ∷ ys) (take-less n m xs (omega (arith, low)))

pub get-mapped : {X Y : Type 0} (f : X → Y) (xs : List X) (i : ℕ) (x : X) → i < length xs → x ≡ get_or xs i x → slice_get (map f xs) i ≡ Some (f x)
get-mapped f [] i x h e = absurd (omega arith)
get-mapped f (y ∷ ys) zero x h e = ap (λ z. Some (f z)) (sym e)
get-mapped f (y ∷ ys) (suc i) x h e = get-mapped f ys i x (omega arith) e
