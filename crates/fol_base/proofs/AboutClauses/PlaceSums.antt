-- Sums over different places of a list are no more than the sum over the whole list.
use Rattle.std.proofs.Common.{◌≡◌, ℕ, zero, suc, ◌+◌, ◌≤◌, true, false, ◌==◌, List, [], ◌∷◌, None, refl, ap, sym, ◌∙◌, arith}
use Rattle.std.specs.Prelude.{not, slice_get, sum_by}
use Rattle.std.specs.List.{list_any}
use Rattle.std.proofs.lemmas.Bool.{and_parts, or_parts, not-true, eq-eqb, true≢false}
use Rattle.std.proofs.lemmas.List.Sums.{sum_by-cons}
use Rattle.fol_base.specs.Subsumption.{all_different}

abbrev pub later : (ℕ → ℕ) → ℕ → ℕ
later w i = w (suc i)

-- the sum over all places of a list
abbrev pub total : {X : Type 0} → (ℕ → ℕ) → List X → ℕ
total w [] = 0
total w (x ∷ xs) = w zero + total (later w) xs

-- 0 at one place
abbrev without : (ℕ → ℕ) → ℕ → ℕ → ℕ
without w zero zero = 0
without w zero (suc i) = w (suc i)
without w (suc k) zero = w zero
without w (suc k) (suc i) = without (later w) k i

without-other : (w : ℕ → ℕ) (k i : ℕ) → (k ≡ i → ⊥) → without w k i ≡ w i
without-other w zero zero h = absurd (h refl)
without-other w zero (suc i) h = refl
without-other w (suc k) zero h = refl
without-other w (suc k) (suc i) h = without-other (later w) k i (λ e. h (ap suc e))

without-none : (w : ℕ → ℕ) (k i : ℕ) → w i ≡ 0 → without w k i ≡ 0
without-none w zero zero h = refl
without-none w zero (suc i) h = h
without-none w (suc k) zero h = h
without-none w (suc k) (suc i) h = without-none (later w) k i h

-- nothing past the end
abbrev pub EndsWith : {X : Type 0} → (ℕ → ℕ) → List X → Type 0
EndsWith w xs = (i : ℕ) → slice_get xs i ≡ None → w i ≡ 0

total-without : {X : Type 0} (w : ℕ → ℕ) (k : ℕ) (xs : List X) → EndsWith w xs → w k + total (without w k) xs ≡ total w xs
total-without w k [] ends = omega (arith, ends k refl)
total-without w zero (x ∷ xs) ends = omega arith
total-without w (suc k) (x ∷ xs) ends = omega (arith, total-without (later w) k xs (λ i e. ends (suc i) e))

sum-without : (w : ℕ → ℕ) (k : ℕ) (ks : List ℕ) → list_any (λ i. k == i) ks ≡ false → sum_by (without w k) ks ≡ sum_by w ks
sum-without w k [] h = refl
sum-without w k (i ∷ ks) h =
    let parts = or_parts (k == i) (list_any (λ j. k == j) ks) h in
    let here : without w k i ≡ w i = without-other w k i (λ e. true≢false (sym (eq-eqb k i e) ∙ parts.0)) in
    omega (arith, sum-without w k ks parts.1, sum_by-cons (without w k) i ks, sum_by-cons w i ks, here)

-- different places give no more than all
pub places-total :
    {X : Type 0} (w : ℕ → ℕ) (xs : List X) (places : List ℕ)
    → EndsWith w xs → all_different places ≡ true → sum_by w places ≤ total w xs
places-total w xs [] ends different = omega arith
places-total w xs (k ∷ ks) ends different =
    let parts = and_parts (not (list_any (λ i. k == i) ks)) (all_different ks) different in
    let rest : sum_by (without w k) ks ≤ total (without w k) xs =
    places-total (without w k) xs ks (λ i e. without-none w k i (ends i e)) parts.1 in
    omega (
      arith,
      rest,
      sum_by-cons w k ks,
      sum-without w k ks (not-true (list_any (λ i. k == i) ks) parts.0),
      total-without w k xs ends,
    )
