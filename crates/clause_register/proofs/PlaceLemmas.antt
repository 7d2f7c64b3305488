-- The place of the first that passes a test, in a list with one more or with another in its place.
use Rattle.std.proofs.Common.{◌≡◌, ℕ, zero, suc, ◌+◌, ◌<◌, ◌≤◌, Bool, true, false, not, List, [], ◌∷◌, ◌++◌, length, refl, ap, ap₂, sym, ◌∙◌, inl, inr, ◌⊎◌, arith}
use Rattle.std.specs.Prelude.{Option, None, Some, cond, nat_lt, nat_eq, position, slice_get}
use Rattle.std.specs.List.{position_or_len}
use Rattle.std.proofs.Math.ListN.{set}
use Rattle.std.proofs.lemmas.Bool.{lt-ltb, le-ltb, ltb-true, ltb-false, eq-eqb, ne_eqb, cond-true, cond-false}
use Rattle.std.proofs.lemmas.List.{length-set}
use Rattle.std.proofs.lemmas.List.Folds.{position_or_len-set, position_or_len_push}
use Rattle.std.proofs.lemmas.List.Sums.{prefix_len-le-length}
use Rattle.std.proofs.lemmas.Option.{none-some, same_Some, get_or_from_slice_get}
use Rattle.list_lemmas.proofs.Lists.{length-pushed}

-- ---- a place, or none

-- where none passes
pub no-place : {X : Type 0} (p : X → Bool) (xs : List X) → ((m : ℕ) (x : X) → slice_get xs m ≡ Some x → p x ≡ false) → position p xs ≡ None
no-place {X} p xs each =
    let end : position_or_len p xs ≡ length xs = at-end xs each in
    ap (λ k. cond (nat_lt k (length xs)) (Some k) None) end ∙ cond-false (nat_lt (length xs) (length xs)) (Some (length xs)) None (le-ltb (length xs) (length xs) (omega arith))
  where
    at-end : (ys : List X) → ((m : ℕ) (x : X) → slice_get ys m ≡ Some x → p x ≡ false) → position_or_len p ys ≡ length ys
    at-end [] each = refl
    at-end (y ∷ ys) each =
        ap (λ b. cond (not b) (1 + position_or_len p ys) 0) (each 0 y refl)
        ∙ let e : 1 + position_or_len p ys ≡ suc (length ys) = (let rest = at-end ys (λ m x there. each (suc m) x there) in omega (arith, rest)) in e

none-place : {X : Type 0} (p : X → Bool) (xs : List X) → position p xs ≡ None → position_or_len p xs ≡ length xs
none-place p xs none = by (nat_lt (position_or_len p xs) (length xs)) refl none
  where
    by :
        (b : Bool) → nat_lt (position_or_len p xs) (length xs) ≡ b → cond b (Some (position_or_len p xs)) None ≡ None
        → position_or_len p xs ≡ length xs
    by true is none = absurd (none-some (position_or_len p xs) (sym none))
    by false is none =
        let above : length xs ≤ position_or_len p xs = ltb-false (position_or_len p xs) (length xs) is in
        let below : position_or_len p xs ≤ length xs = prefix_len-le-length _ xs in
        omega (arith, above, below)

-- where it stands
pub found-place : {X : Type 0} (p : X → Bool) (xs : List X) (n : ℕ) → position p xs ≡ Some n → (position_or_len p xs ≡ n) × (n < length xs)
found-place p xs n found = by (nat_lt (position_or_len p xs) (length xs)) refl found
  where
    by :
        (b : Bool) → nat_lt (position_or_len p xs) (length xs) ≡ b → cond b (Some (position_or_len p xs)) None ≡ Some n
        → (position_or_len p xs ≡ n) × (n < length xs)
    by true is found =
        let same : position_or_len p xs ≡ n = same_Some (position_or_len p xs) n found in
        let below : position_or_len p xs < length xs = ltb-true (position_or_len p xs) (length xs) is in
        (same, omega (arith, same, below))
    by false is found = absurd (none-some n found)

place-found : {X : Type 0} (p : X → Bool) (xs : List X) (n : ℕ) → position_or_len p xs ≡ n → n < length xs → position p xs ≡ Some n
place-found p xs n is below =
    ap (λ k. cond (nat_lt k (length xs)) (Some k) None) is ∙ cond-true (nat_lt n (length xs)) (Some n) None (lt-ltb n (length xs) below)

place-none : {X : Type 0} (p : X → Bool) (xs : List X) (n : ℕ) → position_or_len p xs ≡ n → length xs ≤ n → position p xs ≡ None
place-none p xs n is above =
    ap (λ k. cond (nat_lt k (length xs)) (Some k) None) is ∙ cond-false (nat_lt n (length xs)) (Some n) None (le-ltb n (length xs) above)

-- ---- one more

-- one more that passes, where none passed
pub position-end-new :
    {X : Type 0} (p : X → Bool) (xs : List X) (x : X) → position p xs ≡ None → p x ≡ true → position p (xs ++ x ∷ []) ≡ Some (length xs)
position-end-new p xs x none passes =
    place-found p (xs ++ x ∷ []) (length xs)
    (position_or_len_push p xs x
    ∙ cond-true _ (length xs + cond (p x) 0 1) (position_or_len p xs) (eq-eqb (position_or_len p xs) (length xs) (none-place p xs none))
    ∙ ap (λ b. length xs + cond b 0 1) passes
    ∙ zero-more (length xs))
    (let e : length (xs ++ x ∷ []) ≡ length xs + 1 = length-pushed xs x in omega (arith, e))
  where
    zero-more : (n : ℕ) → n + 0 ≡ n
    zero-more n = omega arith

-- one more that doesn't
pub position-end-old :
    {X : Type 0} (p : X → Bool) (xs : List X) (x : X) → p x ≡ false → position p (xs ++ x ∷ []) ≡ position p xs
position-end-old p xs x fails = by (position p xs) refl
  where
    push : position_or_len p (xs ++ x ∷ []) ≡ cond (nat_eq (position_or_len p xs) (length xs)) (length xs + 1) (position_or_len p xs)
    push = position_or_len_push p xs x ∙ ap (λ b. cond (nat_eq (position_or_len p xs) (length xs)) (length xs + cond b 0 1) (position_or_len p xs)) fails

    by : (o : Option ℕ) → position p xs ≡ o → position p (xs ++ x ∷ []) ≡ o
    by None is =
        place-none p (xs ++ x ∷ []) (length xs + 1)
        (push ∙ cond-true (nat_eq (position_or_len p xs) (length xs)) (length xs + 1) (position_or_len p xs) (eq-eqb (position_or_len p xs) (length xs) (none-place p xs is)))
        (let e : length (xs ++ x ∷ []) ≡ length xs + 1 = length-pushed xs x in omega (arith, e))
    by (Some n) is =
        let at = found-place p xs n is in
        place-found p (xs ++ x ∷ []) n
        (push
        ∙ cond-false (nat_eq (position_or_len p xs) (length xs)) (length xs + 1) (position_or_len p xs)
        (ne_eqb (position_or_len p xs) (length xs) (λ e. absurd (omega (arith, e, at.0, at.1))))
        ∙ at.0)
        (let e : length (xs ++ x ∷ []) ≡ length xs + 1 = length-pushed xs x in omega (arith, e, at.1))

-- ---- an element that is set

-- what stands there afterwards
pub at-set :
    {X : Type 0} (xs : List X) (n : ℕ) (y : X) (k : ℕ) (z : X)
    → slice_get (set xs n y) k ≡ Some z → ((k ≡ n) × (y ≡ z)) ⊎ ((k ≡ n → ⊥) × (slice_get xs k ≡ Some z))
at-set [] n y k z there = absurd (none-some z there)
at-set (x ∷ xs) zero y zero z there = inl (refl, same_Some y z there)
at-set (x ∷ xs) zero y (suc k) z there = inr ((λ e. absurd (omega (arith, e))), there)
at-set (x ∷ xs) (suc n) y zero z there = inr ((λ e. absurd (omega (arith, e))), there)
at-set (x ∷ xs) (suc n) y (suc k) z there = by (at-set xs n y k z there)
  where
    by : ((k ≡ n) × (y ≡ z)) ⊎ ((k ≡ n → ⊥) × (slice_get xs k ≡ Some z)) → ((suc k ≡ suc n) × (y ≡ z)) ⊎ ((suc k ≡ suc n → ⊥) × (slice_get xs k ≡ Some z))
    by (inl h) = inl (ap suc h.0, h.1)
    by (inr h) = inr ((λ e. h.0 (omega (arith, e))), h.1)

-- an element that passes the test as the old one does
pub position-set :
    {X : Type 0} (p : X → Bool) (xs : List X) (n : ℕ) (x y : X)
    → slice_get xs n ≡ Some x → p y ≡ p x → position p (set xs n y) ≡ position p xs
position-set p xs n x y there same =
    ap₂ (λ k len. cond (nat_lt k len) (Some k) None)
    (position_or_len-set p xs n y x (same ∙ ap p (sym (get_or_from_slice_get xs n x x there)))) (length-set xs n y)
