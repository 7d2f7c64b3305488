-- Tests of all elements of a list, and the place of the first that passes one.
use Rattle.std.proofs.Common.{◌≡◌, ℕ, zero, suc, ◌+◌, ◌<◌, ◌≤◌, Bool, true, false, not, ◌&&◌, ◌||◌, List, [], ◌∷◌, ◌++◌, length, map, take, get_or, cond, refl, sym, ap, subst, ◌∙◌, arith}
use Rattle.std.proofs.lemmas.Bool.{and_parts, and_from}
use Rattle.std.proofs.lemmas.List.{take_all, take_more}
use Rattle.std.specs.List.{list_any, list_all, position_or_len}
use Rattle.list_lemmas.proofs.Bools.{and-true}
use Rattle.list_lemmas.proofs.Tests.{position-past, all-joined}

pub all-next :
    {X : Type 0} (p : X → Bool) (xs : List X) (i : ℕ) (d : X) → i < length xs
    → list_all p (take i xs) ≡ true → p (get_or xs i d) ≡ true → list_all p (take (i + 1) xs) ≡ true
all-next p xs i d low so_far here =
    subst (λ ys. list_all p ys ≡ true) (sym (take_more xs i d low))
    (all-joined p (take i xs) (get_or xs i d ∷ []) so_far (and-true (p (get_or xs i d)) ∙ here))

pub all-whole : {X : Type 0} (p : X → Bool) (xs : List X) (i : ℕ) → length xs ≤ i → list_all p (take i xs) ≡ true → list_all p xs ≡ true
all-whole p xs i high h = subst (λ ys. list_all p ys ≡ true) (take_all i xs high) h

pub all-here : {X : Type 0} (p : X → Bool) (xs : List X) (i : ℕ) (d : X) → list_all p xs ≡ true → i < length xs → p (get_or xs i d) ≡ true
all-here p [] i d h low = absurd (omega (arith, low))
all-here p (x ∷ xs) zero d h low = (and_parts (p x) (list_all p xs) h).0
all-here p (x ∷ xs) (suc i) d h low = all-here p xs i d (and_parts (p x) (list_all p xs) h).1 (omega (arith, low))

pub all-mapped : {X Y : Type 0} (p : Y → Bool) (f : X → Y) (xs : List X) → list_all p (map f xs) ≡ list_all (λ x. p (f x)) xs
all-mapped p f [] = refl
all-mapped p f (x ∷ xs) = ap (λ b. p (f x) && b) (all-mapped p f xs)

pub all-weaker :
    {X : Type 0} (p q : X → Bool) → ((x : X) → p x ≡ true → q x ≡ true) → (xs : List X) → list_all p xs ≡ true → list_all q xs ≡ true
all-weaker p q weaker [] h = refl
all-weaker p q weaker (x ∷ xs) h =
    let parts = and_parts (p x) (list_all p xs) h in
    and_from (q x) (list_all q xs) (weaker x parts.0) (all-weaker p q weaker xs parts.1)

-- ---- places

pub place-within : {X : Type 0} (p : X → Bool) (xs : List X) → list_any p xs ≡ true → position_or_len p xs < length xs
place-within p [] h = cc
place-within p (x ∷ xs) h = by (p x) h (place-within p xs)
  where
    by :
        (t : Bool) → (t || list_any p xs) ≡ true → (list_any p xs ≡ true → position_or_len p xs < length xs)
        → cond (not t) (1 + position_or_len p xs) 0 < suc (length xs)
    by true g f = omega arith
    by false g f = omega (arith, f g)

pub any-from-place : {X : Type 0} (p : X → Bool) (xs : List X) → position_or_len p xs < length xs → list_any p xs ≡ true
any-from-place p xs low = by (list_any p xs) refl
  where
    by : (t : Bool) → list_any p xs ≡ t → list_any p xs ≡ true
    by true e = e
    by false e = absurd (omega (arith, position-past p xs e, low))

pub none-from-place : {X : Type 0} (p : X → Bool) (xs : List X) → length xs ≤ position_or_len p xs → list_any p xs ≡ false
none-from-place p xs high = by (list_any p xs) refl
  where
    by : (t : Bool) → list_any p xs ≡ t → list_any p xs ≡ false
    by true e = absurd (omega (arith, place-within p xs e, high))
    by false e = e

pub place-passes : {X : Type 0} (p : X → Bool) (xs : List X) (d : X) → position_or_len p xs < length xs → p (get_or xs (position_or_len p xs) d) ≡ true
place-passes p [] d low = absurd (omega (arith, low))
place-passes p (x ∷ xs) d low = by (p x) refl low (place-passes p xs d)
  where
    by :
        (t : Bool) → p x ≡ t → cond (not t) (1 + position_or_len p xs) 0 < suc (length xs)
        → (position_or_len p xs < length xs → p (get_or xs (position_or_len p xs) d) ≡ true)
        → p (get_or (x ∷ xs) (cond (not t) (1 + position_or_len p xs) 0) d) ≡ true
    by true e h f = e
    by false e h f =
        let next : suc (position_or_len p xs) ≡ 1 + position_or_len p xs = omega arith in
        subst (λ k. p (get_or (x ∷ xs) k d) ≡ true) next (f (omega (arith, h)))

-- one that is new comes last
pub place-last :
    {X : Type 0} (p : X → Bool) (x : X) (xs : List X) → p x ≡ true → list_any p xs ≡ false → position_or_len p (xs ++ x ∷ []) ≡ length xs
place-last p x [] h f = ap (λ b. cond (not b) 1 0) h
place-last p x (y ∷ xs) h f = by (p y) f (place-last p x xs h)
  where
    by :
        (b : Bool) → (b || list_any p xs) ≡ false → (list_any p xs ≡ false → position_or_len p (xs ++ x ∷ []) ≡ length xs)
        → cond (not b) (1 + position_or_len p (xs ++ x ∷ [])) 0 ≡ suc (length xs)
    by true g r = cc
    by false g r = omega (arith, r g)

pub any-last : {X : Type 0} (p : X → Bool) (x : X) (xs : List X) → p x ≡ true → list_any p (xs ++ x ∷ []) ≡ true
any-last p x [] h = ap (λ b. b || false) h
any-last p x (y ∷ xs) h = ap (λ b. p y || b) (any-last p x xs h) ∙ or-true (p y)
  where
    or-true : (b : Bool) → (b || true) ≡ true
    or-true true = refl
    or-true false = refl
