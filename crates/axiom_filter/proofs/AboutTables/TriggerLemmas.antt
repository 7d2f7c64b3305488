-- The shortest list that a row names, and lists that are filtered.
use Rattle.std.proofs.Common.{◌≡◌, ℕ, ◌-◌, ◌*◌, ◌^◌, ◌≤◌, ◌<◌, ◌+◌, min, Bool, true, false, List, [], ◌∷◌, ◌++◌, length, map, take, drop, get_or, cond, filter, refl, ap, sym, ◌∙◌, append_assoc, nat_le, leb-true, arith}
use Rattle.std.proofs.Math.Nat.{mul-le-mul_left}
use Rattle.std.proofs.lemmas.List.{drop_more, drop_all, take_all, map_more, append-nil, get_or_read}
use Rattle.axiom_filter.specs.Tables.{row_of, least_length}

pub least-most : (index : List (List ℕ)) (row : List ℕ) → least_length index row ≤ 2 ^ 64 - 1
least-most index [] = omega arith
least-most index (n ∷ row) = omega (arith, least-most index row)

pub least-begins : (index : List (List ℕ)) (row : List ℕ) → min (2 ^ 64 - 1) (least_length index row) ≡ least_length index row
least-begins index row = omega (arith, least-most index row)

pub least-more :
    (index : List (List ℕ)) (row : List ℕ) (i least count : ℕ) (list : List ℕ)
    → i < length row → get_or row i 0 < length index → list ≡ get_or index (get_or row i 0) list → count ≡ length list
    → min (min least count) (least_length index (drop (i + 1) row)) ≡ min least (least_length index (drop i row))
least-more index row i least count list l inside r c =
    let next : least_length index (drop i row) ≡ min (length (row_of index (get_or row i 0))) (least_length index (drop (i + 1) row)) =
    ap (least_length index) (drop_more row i 0 l) in
    let same : count ≡ length (row_of index (get_or row i 0)) = c ∙ ap length (get_or_read index (get_or row i 0) list inside r []) in
    omega (arith, next, same)

pub least-ends : (index : List (List ℕ)) (row : List ℕ) (i least : ℕ) → length row ≤ i → least ≤ 2 ^ 64 - 1 → min least (least_length index (drop i row)) ≡ least
least-ends index row i least l h = omega (arith, ap (least_length index) (drop_all i row l), h)

-- the step of a loop that makes an element of each
pub mapped-more :
    {X Y : Type 0} (f : X → Y) (xs : List X) (i : ℕ) (x : X) (y : Y) (made more : List Y)
    → i < length xs → x ≡ get_or xs i x → made ≡ map f (take i xs) → y ≡ f x → more ≡ made ++ y ∷ [] → more ≡ map f (take (i + 1) xs)
mapped-more f xs i x y made more l r m e p =
    p ∙ ap (λ ys. ys ++ y ∷ []) m ∙ ap (λ z. map f (take i xs) ++ z ∷ []) (e ∙ ap f r) ∙ sym (map_more f xs i x l)

pub mapped-done : {X Y : Type 0} (f : X → Y) (xs : List X) (i : ℕ) (made : List Y) → length xs ≤ i → made ≡ map f (take i xs) → made ≡ map f xs
mapped-done f xs i made l m = m ∙ ap (map f) (take_all i xs l)

-- the step of a loop that keeps those that pass
pub filter-step : (p : ℕ → Bool) (xs : List ℕ) (i : ℕ) → i < length xs → filter p (drop i xs) ≡ cond (p (get_or xs i 0)) (get_or xs i 0 ∷ filter p (drop (i + 1) xs)) (filter p (drop (i + 1) xs))
filter-step p xs i l = ap (filter p) (drop_more xs i 0 l)

pub filter-passes :
    (p : ℕ → Bool) (xs : List ℕ) (i : ℕ) (kept more : List ℕ)
    → i < length xs → p (get_or xs i 0) ≡ true → more ≡ kept ++ get_or xs i 0 ∷ []
    → kept ++ filter p (drop i xs) ≡ filter p xs → more ++ filter p (drop (i + 1) xs) ≡ filter p xs
filter-passes p xs i kept more l t m h =
    let rest = filter p (drop (i + 1) xs) in
    ap (λ ys. ys ++ rest) m ∙ append_assoc kept (get_or xs i 0 ∷ []) rest
    ∙ ap (λ ys. kept ++ ys) (sym (filter-step p xs i l ∙ ap (λ b. cond b (get_or xs i 0 ∷ rest) rest) t)) ∙ h

pub filter-fails :
    (p : ℕ → Bool) (xs : List ℕ) (i : ℕ) (kept more : List ℕ)
    → i < length xs → p (get_or xs i 0) ≡ false → more ≡ kept
    → kept ++ filter p (drop i xs) ≡ filter p xs → more ++ filter p (drop (i + 1) xs) ≡ filter p xs
filter-fails p xs i kept more l t m h =
    let rest = filter p (drop (i + 1) xs) in
    ap (λ ys. ys ++ rest) m
    ∙ ap (λ ys. kept ++ ys) (sym (filter-step p xs i l ∙ ap (λ b. cond b (get_or xs i 0 ∷ rest) rest) t)) ∙ h

pub filter-done : (p : ℕ → Bool) (xs : List ℕ) (i : ℕ) (kept : List ℕ) → length xs ≤ i → kept ++ filter p (drop i xs) ≡ filter p xs → kept ≡ filter p xs
filter-done p xs i kept l h = sym (append-nil kept) ∙ ap (λ ys. kept ++ filter p ys) (sym (drop_all i xs l)) ∙ h

-- the product fits
pub product-fits : (tolerance count : ℕ) → tolerance < 2 ^ 32 → count < 2 ^ 64 → tolerance * count < 2 ^ 128
product-fits tolerance count t c =
    let few : count ≤ 2 ^ 64 = omega arith in
    omega (arith, mul-le-mul_left tolerance few, t)

pub filter-begins : (p : ℕ → Bool) (xs list : List ℕ) → list ≡ [] → list ++ filter p (drop 0 xs) ≡ filter p xs
filter-begins p xs list e = ap (λ ys. ys ++ filter p xs) e

pub not-at-most : (m n : ℕ) → n < m → nat_le m n ≡ false
not-at-most m n h = by (nat_le m n) refl
  where
    by : (b : Bool) → nat_le m n ≡ b → b ≡ false
    by true e = absurd (omega (arith, h, leb-true m n e))
    by false e = refl
