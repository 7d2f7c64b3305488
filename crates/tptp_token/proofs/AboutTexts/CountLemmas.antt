-- How many at the front pass, counted by a search for the first that doesn't.
use Rattle.std.proofs.Common.{◌≡◌, ℕ, ◌+◌, ◌≤◌, None, Some, Bool, true, false, cond, not, List, [], ◌∷◌, length, refl, ap, ◌∙◌, arith, ltb-false}
use Rattle.std.specs.Prelude.{nat_lt, unwrap_or, position}
use Rattle.std.specs.List.{prefix_len}
use Rattle.std.proofs.lemmas.List.Sums.{prefix_len-le-length}

pub unwrap_or-position :
    (p q : ℕ → Bool) (xs : List ℕ) → ((x : ℕ) → not (p x) ≡ q x) → unwrap_or (position p xs) (length xs) ≡ prefix_len q xs
unwrap_or-position p q xs same = chosen (prefix_len (λ x. not (p x)) xs) (prefix_len-le-length (λ x. not (p x)) xs) ∙ agree xs
  where
    chosen : (n : ℕ) → n ≤ length xs → unwrap_or (cond (nat_lt n (length xs)) (Some n) None) (length xs) ≡ n
    chosen n h = by (nat_lt n (length xs)) refl
      where
        by : (t : Bool) → nat_lt n (length xs) ≡ t → unwrap_or (cond t (Some n) None) (length xs) ≡ n
        by true e = refl
        by false e = let past : length xs ≤ n = ltb-false n (length xs) e in omega arith

    agree : (ys : List ℕ) → prefix_len (λ x. not (p x)) ys ≡ prefix_len q ys
    agree [] = refl
    agree (y ∷ ys) = ap (λ t. cond t (1 + prefix_len (λ x. not (p x)) ys) 0) (same y) ∙ ap (λ n. cond (q y) (1 + n) 0) (agree ys)
