-- Tests on numbers, and what they say.
use Rattle.std.proofs.Common.{Bool, arith, false, inl, inr, nat_lt, refl, suc, sym, true, zero, ℕ, ⊎_elim, ◌*◌, ◌+◌, ◌<◌, ◌==◌, ◌∙◌, ◌≡◌, ◌≤◌, ◌⊎◌}
use Rattle.std.proofs.lemmas.Bool.{cases_Bool, cases_eq, cases_lt, eq-eqb, eqb-true, false_from_ne_true, ltb-true, ne_eqb, true≢false}
use Rattle.std.proofs.lemmas.Bool.Decides.{nat_tests}
use Rattle.std.specs.Prelude.{max}

pub not-less : (most size : ℕ) → size ≤ most → nat_lt most size ≡ false
not-less most size h = false_from_ne_true (nat_lt most size) (λ e. absurd (omega (arith, ltb-true most size e, h)))

pub not-zero : (n : ℕ) → 0 < n → (n == 0) ≡ false
not-zero n h = by (n == 0) refl
  where
    by : (b : Bool) → (n == 0) ≡ b → b ≡ false
    by false e = refl
    by true e = absurd (let same = eqb-true n 0 e in let none : ⊥ = omega (arith, same, h) in none)

pub times-none : (a : ℕ) → a * 0 ≡ 0
times-none a = omega arith

pub times-suc : (a b : ℕ) → a ≤ a * suc b
times-suc a b = omega arith

pub max-none : (n : ℕ) → n ≡ max n 0
max-none n = omega arith

pub times-more : (a n : ℕ) → 1 ≤ n → a ≤ a * n
times-more a zero h = absurd (omega (arith, h))
times-more a (suc n) h = omega arith

pub less-says : (f bound : ℕ) → nat_lt f bound ≡ true → f < bound
less-says f bound h = grind (arith, nat_tests)

pub not-same : (a b : ℕ) → (a ≡ b → ⊥) → (a == b) ≡ false
not-same a b differ = false_from_ne_true (a == b) (λ e. differ (eqb-true a b e))

pub eq-turned : (a b : ℕ) → (a == b) ≡ (b == a)
eq-turned a b =
    ⊎_elim
    (λ e. eq-eqb a b e ∙ sym (eq-eqb b a (sym e)))
    (λ ne. ne_eqb a b ne ∙ sym (ne_eqb b a (λ e. ne (sym e))))
    (cases_eq a b)

pub differs-turned : (v w : ℕ) → (v == w) ≡ false → (w == v) ≡ false
differs-turned v w h = ⊎_elim (λ yes. absurd (true≢false (sym (eq-eqb v w (sym (eqb-true w v yes))) ∙ h))) (λ no. no) (cases_Bool (w == v))

pub below-or-same : (i n : ℕ) → i < n + 1 → (i < n) ⊎ (i ≡ n)
below-or-same i n h = ⊎_elim inl (λ ge. inr (omega arith)) (cases_lt i n)
