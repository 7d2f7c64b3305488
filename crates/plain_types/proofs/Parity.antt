-- Numbers as doubles of their halves, with one more for odd ones.
use Rattle.std.proofs.Common.{◌≡◌, ◌⊎◌, inl, inr, ⊎_elim, ℕ, ◌+◌, ◌*◌, ◌/◌, ◌%◌, ◌==◌, cond, ap, ◌∙◌, arith, eq-eqb}
use Rattle.std.proofs.lemmas.Bool.{cond-true, cond-false, cases_lt}

-- a number is the double of its half, or one more
pub halves : (n : ℕ) → ((n % 2 ≡ 0) × (2 * (n / 2) ≡ n)) ⊎ ((n % 2 ≡ 1) × (2 * (n / 2) + 1 ≡ n))
halves n = ⊎_elim (λ less. inl (omega arith, omega arith)) (λ ge. inr (omega arith, omega arith)) (cases_lt (n % 2) 1)

-- a choice by the parity of a number, of its half
pub even-half : {X : Type 0} (f g : ℕ → X) (v : ℕ) → cond ((2 * v) % 2 == 0) (f ((2 * v) / 2)) (g ((2 * v) / 2)) ≡ f v
even-half f g v =
    let even : (2 * v) % 2 ≡ 0 = omega arith in
    let half : (2 * v) / 2 ≡ v = omega arith in
    cond-true ((2 * v) % 2 == 0) (f ((2 * v) / 2)) (g ((2 * v) / 2)) (eq-eqb ((2 * v) % 2) 0 even) ∙ ap f half

pub odd-half : {X : Type 0} (f g : ℕ → X) (v : ℕ) → cond ((2 * v + 1) % 2 == 0) (f ((2 * v + 1) / 2)) (g ((2 * v + 1) / 2)) ≡ g v
odd-half f g v =
    let odd : (2 * v + 1) % 2 ≡ 1 = omega arith in
    let half : (2 * v + 1) / 2 ≡ v = omega arith in
    cond-false ((2 * v + 1) % 2 == 0) (f ((2 * v + 1) / 2)) (g ((2 * v + 1) / 2)) (ap (λ m. m == 0) odd) ∙ ap g half
