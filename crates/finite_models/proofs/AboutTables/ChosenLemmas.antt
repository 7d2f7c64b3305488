-- The value that is read off entries of which one, and no two, are there.
use Rattle.std.proofs.Common.{◌≡◌, ℕ, zero, suc, ◌+◌, ◌-◌, ◌<◌, ◌≤◌, ◌==◌, Bool, true, false, not, ◌||◌, ap, sym, ◌∙◌, arith, ◌⊎◌, inl, inr, ⊎_elim}
use Rattle.std.specs.List.{list_any}
use Rattle.std.proofs.lemmas.Bool.{cases_Bool, cases_order, eqb-true, eq-eqb, true≢false, cond-true, cond-false, cond_both, false_from_ne_true}
use Rattle.fol_base.specs.Canonical.{numbers_from}
use Rattle.finite_models.specs.Table.{first_passing}

module _ (test : ℕ → Bool) where
  pub passing-below : (first count bound : ℕ) → 1 ≤ bound → first + count ≤ bound → first_passing test first count < bound
  passing-below first zero bound some h = some
  passing-below first (suc count) bound some h =
      cond_both (test first) first (first_passing test (suc first) count) (λ v. v < bound) (λ e. omega (arith, h))
      (λ e. passing-below (suc first) count bound some (omega (arith, h)))

  passing-true : (first count : ℕ) → list_any test (numbers_from first count) ≡ true → test (first_passing test first count) ≡ true
  passing-true first zero h = absurd (true≢false (sym h))
  passing-true first (suc count) h =
      ⊎_elim (λ e. ap test (cond-true (test first) first (first_passing test (suc first) count) e) ∙ e)
      (λ e.
      ap test (cond-false (test first) first (first_passing test (suc first) count) e)
      ∙ passing-true (suc first) count (sym (ap (λ b. b || list_any test (numbers_from (suc first) count)) e) ∙ h))
      (cases_Bool (test first))

  pub passing-alone :
      (count : ℕ) → 1 ≤ count → list_any test (numbers_from 0 count) ≡ true
      → ((v w : ℕ) → v < count → w < v → (not (test w) || not (test v)) ≡ true)
      → (v : ℕ) → v < count → test v ≡ (first_passing test 0 count == v)
  passing-alone count some any alone v h = by (cases_Bool (test v))
    where
      chosen : ℕ
      chosen = first_passing test 0 count

      chosen-true : test chosen ≡ true
      chosen-true = passing-true 0 count any

      chosen-below : chosen < count
      chosen-below = passing-below 0 count count some (omega arith)

      both : (a b : Bool) → a ≡ true → b ≡ true → (not a || not b) ≡ true → ⊥
      both a b p q r = true≢false (sym (sym (ap (λ c. not c || not b) p ∙ ap not q) ∙ r))

      same : test v ≡ true → chosen ≡ v
      same e =
          ⊎_elim (λ d. d)
          (λ k.
          ⊎_elim (λ l. absurd (both (test chosen) (test v) chosen-true e (alone v chosen h l)))
          (λ l. absurd (both (test v) (test chosen) e chosen-true (alone chosen v chosen-below l))) k)
          (cases_order chosen v)

      by : (test v ≡ true) ⊎ (test v ≡ false) → test v ≡ (chosen == v)
      by (inl e) = e ∙ sym (eq-eqb chosen v (same e))
      by (inr e) =
          e
          ∙ sym (false_from_ne_true (chosen == v) (λ k. true≢false (sym chosen-true ∙ ap test (eqb-true chosen v k) ∙ e)))

  -- ---- the turn of a loop that looks for it

  pub passing-found : (v size : ℕ) → v < size → test v ≡ true → first_passing test v (size - v) ≡ v
  passing-found v size h e =
      let left : size - v ≡ suc (size - suc v) = omega (arith, h) in
      ap (λ k. first_passing test v k) left ∙ cond-true (test v) v (first_passing test (suc v) (size - suc v)) e

  pub passing-later : (v size : ℕ) → v < size → test v ≡ false → first_passing test v (size - v) ≡ first_passing test (v + 1) (size - (v + 1))
  passing-later v size h e =
      let left : size - v ≡ suc (size - (v + 1)) = omega (arith, h) in
      let next : suc v ≡ v + 1 = omega arith in
      ap (λ k. first_passing test v k) left
      ∙ cond-false (test v) v (first_passing test (suc v) (size - (v + 1))) e
      ∙ ap (λ k. first_passing test k (size - (v + 1))) next

  pub passing-none : (v size : ℕ) → size ≤ v → first_passing test v (size - v) ≡ 0
  passing-none v size h = let none : size - v ≡ 0 = omega (arith, h) in ap (λ k. first_passing test v k) none
