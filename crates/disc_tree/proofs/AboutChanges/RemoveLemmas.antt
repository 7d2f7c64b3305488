-- An entry that is looked for in a list, and taken out of it.
use Rattle.std.proofs.Common.{◌≡◌, ◌⊎◌, ℕ, zero, suc, ◌+◌, ◌<◌, ◌≤◌, List, [], ◌∷◌, ◌++◌, length, take, drop, get_or, refl, ap, sym, subst, ◌∙◌, arith, ⊎_elim, inl, inr}
use Rattle.std.specs.Prelude.{remove, insert, slice_set}
use Rattle.std.specs.List.{AllWithin}
use Rattle.std.specs.List.Sorted.{IsNonDecreasingBy}
use Rattle.std.proofs.lemmas.List.{take-append-drop, get_or_default}
use Rattle.std.proofs.lemmas.List.Edits.{length-remove, get_or-remove_below, get_or-remove_above}
use Rattle.fol_base.specs.Tree.{Tree}
use Rattle.disc_tree.specs.Entries.{IsWith}
use Rattle.disc_tree.specs.Rows.{number_of, IsNamed, IsNoEntry}

below-or-not : (k i : ℕ) → (k < i) ⊎ (i ≤ k)
below-or-not k zero = inr (omega arith)
below-or-not zero (suc i) = inl (omega arith)
below-or-not (suc k) (suc i) = ⊎_elim (λ h. inl (omega (arith, h))) (λ h. inr (omega (arith, h))) (below-or-not k i)

-- an entry with other variables or another number
abbrev pub IsOther : List ℕ → ℕ → Tree × ℕ → Type 0
IsOther vs n e = IsNamed vs n e → ⊥

pub none-within : (vs : List ℕ) (n : ℕ) (xs : List (Tree × ℕ)) → AllWithin (IsOther vs n) xs 0 (length xs) → IsNoEntry vs n xs
none-within vs n [] others e is_in named = is_in
none-within vs n (x ∷ xs) others e is_in named =
    ⊎_elim (λ same. others 0 x (omega arith) (omega arith) (subst (IsNamed vs n) same named))
    (λ later. none-within vs n xs (λ k d low high. others (suc k) d (omega arith) (omega (arith, high))) e later named) is_in

-- where the numbers rise and an entry has a greater one, none behind it has the number
pub none-past :
    (vs : List ℕ) (n : ℕ) (xs : List (Tree × ℕ)) (i : ℕ) (x : Tree × ℕ)
    → IsNonDecreasingBy number_of xs → i < length xs → x ≡ get_or xs i x → (number_of x ≡ n → ⊥)
    → AllWithin (IsOther vs n) xs 0 i → AllWithin (λ e. n ≤ number_of e) xs i (length xs) → IsNoEntry vs n xs
none-past vs n xs i x sorted h e other before after =
    none-within vs n xs
    (λ k d low high.
    ⊎_elim (λ front. before k d low front)
    (λ back named.
    let at : number_of (get_or xs i d) ≡ number_of x = ap number_of (get_or_default xs i d x h ∙ sym e) in
    other (omega (arith, at, after i d (omega arith) h, sorted i k d back high, named.1)))
    (below-or-not k i))

pub sorted-without :
    (xs : List (Tree × ℕ)) (i : ℕ) → i < length xs → IsNonDecreasingBy number_of xs → IsNonDecreasingBy number_of (remove xs i)
sorted-without xs i h sorted a b d le lt =
    let shorter : length (remove xs i) + 1 ≡ length xs = length-remove xs i h in
    let below = λ (k : ℕ) (low : k < i). ap number_of (get_or-remove_below xs i d k low h) in
    let above = λ (k : ℕ) (high : i ≤ k). ap number_of (get_or-remove_above xs i d k high h) in
    ⊎_elim (λ b_low. omega (arith, below a (omega (arith, le, b_low)), below b b_low, sorted a b d le (omega (arith, lt, shorter))))
    (λ b_high.
    ⊎_elim
    (λ a_low. omega (arith, below a a_low, above b b_high, sorted a (b + 1) d (omega (arith, le)) (omega (arith, lt, shorter))))
    (λ a_high.
    omega (arith, above a a_high, above b b_high, sorted (a + 1) (b + 1) d (omega (arith, le)) (omega (arith, lt, shorter))))
    (below-or-not a i))
    (below-or-not b i)

pub entry-put : (xs : List (Tree × ℕ)) (i : ℕ) (x : Tree × ℕ) → IsWith x xs (insert xs i x)
entry-put xs i x = record { front = take i xs; back = drop i xs; without = sym (take-append-drop i xs); with_it = refl }

-- a list around one of its entries
pub parts-at :
    (x : Tree × ℕ) (ys : List (Tree × ℕ)) (k : ℕ) → k < length ys → x ≡ get_or ys k x → ys ≡ take k ys ++ x ∷ drop (suc k) ys
parts-at x [] k h e = absurd (omega arith)
parts-at x (y ∷ ys) zero h e = ap (λ z. z ∷ ys) (sym e)
parts-at x (y ∷ ys) (suc k) h e = ap (λ zs. y ∷ zs) (parts-at x ys k (omega arith) e)

pub entry-taken : (xs : List (Tree × ℕ)) (i : ℕ) (x : Tree × ℕ) → i < length xs → x ≡ get_or xs i x → IsWith x (remove xs i) xs
entry-taken xs i x h e = record {
  front = take i xs;
  back = drop (suc i) xs;
  without = refl;
  with_it = parts-at x xs i h e;
}

pub read-set : {X : Type 0} (xs : List X) (i : ℕ) (y b : X) → i < length xs → b ≡ get_or (slice_set xs i y) i b → b ≡ y
read-set [] i y b h e = absurd (omega arith)
read-set (x ∷ xs) zero y b h e = e
read-set (x ∷ xs) (suc i) y b h e = read-set xs i y b (omega arith) e

pub set-length : {X : Type 0} (xs : List X) (i : ℕ) (y : X) → length (slice_set xs i y) ≡ length xs
set-length [] i y = refl
set-length (x ∷ xs) zero y = refl
set-length (x ∷ xs) (suc i) y = ap suc (set-length xs i y)
