-- Sums, products and powers that stop at u64's last value.
use Rattle.std.proofs.Common.{◌≡◌, ℕ, zero, suc, ◌+◌, ◌*◌, ◌-◌, ◌^◌, ◌<◌, ◌≤◌, min, ap, ap₂, sym, ◌∙◌, arith, ⊎_elim}
use Rattle.std.proofs.lemmas.Bool.{cases_lt}
use Rattle.std.proofs.lemmas.Nat.{mul-le}
use Rattle.std.proofs.Math.Nat.{pow-zero, pow-suc, pow-le-pow_left, pow-le-pow_right}
use Rattle.plain_types.specs.Capped.{capped}

-- one more number of a sum that began with `base`
pub capped-next :
    (base sum item more total added new : ℕ)
    → total ≡ capped (base + sum) → added ≡ capped item → new ≡ capped (total + added) → more ≡ sum + item → new ≡ capped (base + more)
capped-next base sum item more total added new a b c d = omega (arith, a, b, c, d)

capped-low : (a : ℕ) → a < 2 ^ 64 → capped a ≡ a
capped-low a h = omega (arith, h)

capped-high : (a : ℕ) → 2 ^ 64 ≤ a → capped a ≡ 2 ^ 64 - 1
capped-high a h = omega (arith, h)

-- a factor that is stopped makes the product stop, unless the other one is 0
product-high : (a b : ℕ) → 2 ^ 64 ≤ a → capped (capped a * capped b) ≡ capped (a * b)
product-high a zero h = omega arith
product-high a (suc b) h =
    capped-of (capped a * capped (suc b)) (mul-le (2 ^ 64 - 1) 1 (capped a) (capped (suc b)) (omega (arith, h)) (omega arith))
    ∙ sym (capped-of (a * suc b) (mul-le (2 ^ 64 - 1) 1 a (suc b) (omega (arith, h)) (omega arith)))
  where
    capped-of : (n : ℕ) → (2 ^ 64 - 1) * 1 ≤ n → capped n ≡ 2 ^ 64 - 1
    capped-of n k = omega (arith, k)

turned : (a b : ℕ) → a * b ≡ b * a
turned a b = omega arith

pub capped-product : (a b : ℕ) → capped (capped a * capped b) ≡ capped (a * b)
capped-product a b =
    ⊎_elim
    (λ h. ⊎_elim (λ k. ap₂ (λ m n. capped (m * n)) (capped-low a h) (capped-low b k))
    (λ k. ap capped (turned (capped a) (capped b)) ∙ product-high b a k ∙ ap capped (turned b a)) (cases_lt b (2 ^ 64)))
    (λ h. product-high a b h)
    (cases_lt a (2 ^ 64))

zero-power : (k : ℕ) → 0 ^ suc k ≡ 0
zero-power k = pow-suc 0 k ∙ let e : 0 ^ k * 0 ≡ 0 = omega arith in e

one-power : (k : ℕ) → 1 ^ k ≡ 1
one-power zero = pow-zero 1
one-power (suc k) = pow-suc 1 k ∙ let e : 1 ^ k * 1 ≡ 1 = omega (arith, one-power k) in e

large-power : (base exponent : ℕ) → 64 ≤ exponent → capped (base ^ 64) ≡ capped (base ^ exponent)
large-power zero zero h = absurd (omega (arith, h))
large-power zero (suc k) h = ap capped (zero-power 63 ∙ sym (zero-power k))
large-power (suc zero) k h = ap capped (one-power 64 ∙ sym (one-power k))
large-power (suc (suc b)) k h =
    capped-high (suc (suc b) ^ 64) low ∙ sym (capped-high (suc (suc b) ^ k) (omega (arith, low, high)))
  where
    low : 2 ^ 64 ≤ suc (suc b) ^ 64
    low = pow-le-pow_left {n = 2} {m = suc (suc b)} (omega arith) 64

    high : suc (suc b) ^ 64 ≤ suc (suc b) ^ k
    high = pow-le-pow_right {n = suc (suc b)} (omega arith) {i = 64} {j = k} h

-- an exponent over 64 makes no difference
pub capped-power : (base exponent : ℕ) → capped (base ^ min exponent 64) ≡ capped (base ^ exponent)
capped-power base exponent =
    ⊎_elim (λ h. ap (λ k. capped (base ^ k)) (small h))
    (λ h. ap (λ k. capped (base ^ k)) (large h) ∙ large-power base exponent h)
    (cases_lt exponent 64)
  where
    small : exponent < 64 → min exponent 64 ≡ exponent
    small h = omega (arith, h)

    large : 64 ≤ exponent → min exponent 64 ≡ 64
    large h = omega (arith, h)

-- so it may be stopped as well
capped-exponent : (base exponent k : ℕ) → k ≡ capped exponent → capped (base ^ k) ≡ capped (base ^ exponent)
capped-exponent base exponent k e =
    sym (capped-power base k) ∙ ap (λ n. capped (base ^ n)) (same k exponent e) ∙ capped-power base exponent
  where
    same : (a b : ℕ) → a ≡ capped b → min a 64 ≡ min b 64
    same a b h = omega (arith, h)

-- a weight times a power
pub capped-weighted :
    (weight base whole factor exponent power new : ℕ)
    → factor ≡ capped weight → exponent ≡ capped whole → power ≡ capped (base ^ exponent) → new ≡ capped (factor * power)
    → new ≡ capped (weight * base ^ whole)
capped-weighted weight base whole factor exponent power new a b c d =
    d ∙ ap₂ (λ m n. capped (m * n)) a (c ∙ capped-exponent base whole exponent b) ∙ capped-product weight (base ^ whole)
