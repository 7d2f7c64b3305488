-- The first element that doesn't pass a test.
use Rattle.std.proofs.Common.{◌≡◌, ◌<◌, ◌≤◌, ℕ, zero, suc, ◌+◌, Bool, true, false, not, ◌||◌, List, [], ◌∷◌, length, take, get_or, cond, None, Some, refl, ap, ◌∙◌, arith}
use Rattle.std.specs.Prelude.{nat_lt, position}
use Rattle.std.specs.List.{list_all, list_any, position_or_len, prefix_len}
use Rattle.std.proofs.lemmas.Bool.{and_parts, le-ltb, lt-ltb, ltb-false}

failing-place :
    {X : Type 0} (q : X → Bool) (xs : List X) (k : ℕ) (d : X) → k < length xs → q (get_or xs k d) ≡ false → list_all q (take k xs) ≡ true
    → position_or_len (λ x. not (q x)) xs ≡ k
failing-place q [] k d low at before = absurd (omega (arith, low))
failing-place q (x ∷ xs) zero d low at before = ap (λ b. cond (not (not b)) (1 + prefix_len (λ y. not (not (q y))) xs) 0) at
failing-place q (x ∷ xs) (suc k) d low at before =
    let both = and_parts (q x) (list_all q (take k xs)) before in
    ap (λ b. cond (not (not b)) (1 + prefix_len (λ y. not (not (q y))) xs) 0) both.0
    ∙ ap (λ n. 1 + n) (failing-place q xs k d (omega (arith, low)) at both.1) ∙ omega arith

passing-length :
    {X : Type 0} (q : X → Bool) (xs : List X) → list_all q xs ≡ true → position_or_len (λ x. not (q x)) xs ≡ length xs
passing-length q [] all = refl
passing-length q (x ∷ xs) all =
    let both = and_parts (q x) (list_all q xs) all in
    ap (λ b. cond (not (not b)) (1 + prefix_len (λ y. not (not (q y))) xs) 0) both.0
    ∙ ap (λ n. 1 + n) (passing-length q xs both.1) ∙ omega arith

pub first-failing :
    {X : Type 0} (q : X → Bool) (xs : List X) (k : ℕ) (d : X) → k < length xs → q (get_or xs k d) ≡ false → list_all q (take k xs) ≡ true
    → position (λ x. not (q x)) xs ≡ Some k
first-failing q xs k d low at before =
    ap (λ n. cond (nat_lt n (length xs)) (Some n) None) (failing-place q xs k d low at before)
    ∙ ap (λ b. cond b (Some k) None) (lt-ltb k (length xs) low)

pub none-failing : {X : Type 0} (q : X → Bool) (xs : List X) → list_all q xs ≡ true → position (λ x. not (q x)) xs ≡ None
none-failing q xs all =
    ap (λ n. cond (nat_lt n (length xs)) (Some n) None) (passing-length q xs all)
    ∙ ap (λ b. cond b (Some (length xs)) None) (le-ltb (length xs) (length xs) (omega arith))

-- where no element is the first that passes, none passes
none-within : {X : Type 0} (p : X → Bool) (xs : List X) → length xs ≤ position_or_len p xs → list_any p xs ≡ false
none-within p [] past = refl
none-within {X} p (x ∷ xs) past = by (p x) past (λ rest. none-within p xs rest)
  where
    by :
        (b : Bool) → suc (length xs) ≤ cond (not b) (1 + position_or_len p xs) 0
        → (length xs ≤ position_or_len p xs → list_any p xs ≡ false) → (b || list_any p xs) ≡ false
    by true h rest = absurd (omega (arith, h))
    by false h rest = rest (omega (arith, h))

pub none-passing : {X : Type 0} (p : X → Bool) (xs : List X) → position p xs ≡ None → list_any p xs ≡ false
none-passing {X} p xs none = by (nat_lt (position_or_len p xs) (length xs)) refl none
  where
    by :
        (b : Bool) → nat_lt (position_or_len p xs) (length xs) ≡ b → cond b (Some (position_or_len p xs)) None ≡ None
        → list_any p xs ≡ false
    by true e h = cc
    by false e h = none-within p xs (ltb-false (position_or_len p xs) (length xs) e)
