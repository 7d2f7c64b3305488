-- The digits of numbers.
use Rattle.std.proofs.Common.{◌≡◌, ℕ, zero, suc, ◌+◌, ◌-◌, ◌*◌, ◌/◌, ◌%◌, ◌^◌, ◌<◌, ◌≤◌, List, [], ◌∷◌, ◌++◌, length, take, length-append, append_assoc, refl, ap, ap₂, sym, ◌∙◌, subst, arith}
use Rattle.std.specs.List.{AllByRecursion}
use Rattle.std.proofs.Math.Nat.{pow-zero, pow-suc, pow-succ', one-le-pow, pow-le-pow_right}
use Rattle.std.proofs.lemmas.Nat.{div-add-mod', mul-le, mul-add-lt, div-mul-add, mod-mul-add, div_below, mod_below}
use Rattle.finite_models.specs.Digits.{digits, digits_number}

pub length-digits : (base count number : ℕ) → length (digits base count number) ≡ count
length-digits base zero number = refl
length-digits base (suc count) number = ap suc (length-digits base count (number % base ^ count))

pub power-positive : (base count : ℕ) → 1 ≤ base → 0 < base ^ count
power-positive base count h = omega (arith, one-le-pow count base (omega (arith, h)))

pub digits-below :
    (base count number : ℕ) → 1 ≤ base → number < base ^ count → AllByRecursion (λ d. d < base) (digits base count number)
digits-below base zero number b h = tt
digits-below base (suc count) number b h = (
  div_below number (base ^ count) base (power-positive base count b) (subst (λ p. number < p) (pow-succ' base count) h),
  digits-below base count (number % base ^ count) b (mod_below number (base ^ count) (power-positive base count b)),
)

pub number-of-digits :
    (base count number : ℕ) → 1 ≤ base → number < base ^ count → digits_number base (digits base count number) ≡ number
number-of-digits base zero number b h = omega (arith, h, pow-zero base)
number-of-digits base (suc count) number b h =
    ap₂ (λ k r. number / base ^ count * base ^ k + r) (length-digits base count (number % base ^ count))
    (number-of-digits base count (number % base ^ count) b (mod_below number (base ^ count) (power-positive base count b)))
    ∙ div-add-mod' number (base ^ count)

pub digits-number-below :
    (base : ℕ) (ds : List ℕ) → AllByRecursion (λ d. d < base) ds → digits_number base ds < base ^ length ds
digits-number-below base [] h = omega (arith, pow-zero base)
digits-number-below base (d ∷ ds) h =
    subst (λ p. d * base ^ length ds + digits_number base ds < p) (sym (pow-suc base (length ds)))
    (mul-add-lt d (base ^ length ds) (digits_number base ds) base h.0 (digits-number-below base ds h.1))

pub digits-of-number :
    (base : ℕ) (ds : List ℕ) → AllByRecursion (λ d. d < base) ds → digits base (length ds) (digits_number base ds) ≡ ds
digits-of-number base [] h = refl
digits-of-number base (d ∷ ds) h =
    let l = digits-number-below base ds h.1 in
    ap₂ ◌∷◌ (div-mul-add d (base ^ length ds) (digits_number base ds) l)
    (ap (digits base (length ds)) (mod-mul-add d (base ^ length ds) (digits_number base ds) l) ∙ digits-of-number base ds h.1)

-- ---- one more digit

quotient : (a base : ℕ) → 1 ≤ base → a * base / base ≡ a
quotient a base h = ap (λ n. n / base) (plain (a * base)) ∙ div-mul-add a base 0 (omega (arith, h))
  where
    plain : (n : ℕ) → n ≡ n + 0
    plain n = omega arith

-- the turn of a loop that pushes the digits from the left
pub digit-step :
    (base left unit rest : ℕ) (values whole : List ℕ)
    → 1 ≤ base → 0 < left → unit ≡ base ^ left → values ++ digits base left rest ≡ whole
    → (unit / base ≡ base ^ (left - 1)) × (0 < unit / base)
    × ((values ++ rest / (unit / base) ∷ []) ++ digits base (left - 1) (rest % (unit / base)) ≡ whole)
digit-step base zero unit rest values whole b l u h = absurd (omega (arith, l))
digit-step base (suc k) unit rest values whole b l u h = by (unit / base) (suc k - 1) below (omega arith)
  where
    below : unit / base ≡ base ^ k
    below = ap (λ n. n / base) (u ∙ pow-suc base k) ∙ quotient (base ^ k) base b

    at : (base ^ k ≡ base ^ k) × (0 < base ^ k) × ((values ++ rest / base ^ k ∷ []) ++ digits base k (rest % base ^ k) ≡ whole)
    at = (refl, power-positive base k b, append_assoc values (rest / base ^ k ∷ []) (digits base k (rest % base ^ k)) ∙ h)

    by :
        (v j : ℕ) → v ≡ base ^ k → j ≡ k
        → (v ≡ base ^ j) × (0 < v) × ((values ++ rest / v ∷ []) ++ digits base j (rest % v) ≡ whole)
    by v j e d =
        subst (λ m. (v ≡ base ^ m) × (0 < v) × ((values ++ rest / v ∷ []) ++ digits base m (rest % v) ≡ whole)) (sym d)
        (subst (λ m. (m ≡ base ^ k) × (0 < m) × ((values ++ rest / m ∷ []) ++ digits base k (rest % m) ≡ whole)) (sym e) at)

-- ---- the number of a list with one more digit at its end

pub number-push : (base : ℕ) (ds : List ℕ) (d : ℕ) → digits_number base (ds ++ d ∷ []) ≡ digits_number base ds * base + d
number-push base [] d = one (base ^ 0) (pow-zero base)
  where
    one : (p : ℕ) → p ≡ 1 → d * p + 0 ≡ 0 * base + d
    one p e = let plain : d * 1 + 0 ≡ 0 * base + d = omega arith in ap (λ q. d * q + 0) e ∙ plain
number-push base (e ∷ ds) d =
    ap₂ (λ p r. e * p + r) (ap (λ k. base ^ k) (longer ds d) ∙ pow-suc base (length ds)) (number-push base ds d)
    ∙ regrouped e (base ^ length ds) (digits_number base ds)
  where
    longer : (xs : List ℕ) (x : ℕ) → length (xs ++ x ∷ []) ≡ suc (length xs)
    longer xs x = omega (arith, length-append xs (x ∷ []))

    regrouped : (a p r : ℕ) → a * (p * base) + (r * base + d) ≡ (a * p + r) * base + d
    regrouped a p r = omega arith

-- the first digits make no larger number
pub number-take : (base : ℕ) (i : ℕ) (ds : List ℕ) → 1 ≤ base → digits_number base (take i ds) ≤ digits_number base ds
number-take base zero ds h = omega arith
number-take base (suc i) [] h = omega arith
number-take base (suc i) (d ∷ ds) h =
    let p : d * base ^ length (take i ds) ≤ d * base ^ length ds =
    mul-le d (base ^ length (take i ds)) d (base ^ length ds) (omega arith) (pow-le-pow_right {n = base} (omega (arith, h)) {i = length (take i ds)} {j = length ds} (shorter i ds)) in
    omega (arith, p, number-take base i ds h)
  where
    shorter : (i : ℕ) (xs : List ℕ) → length (take i xs) ≤ length xs
    shorter zero xs = omega arith
    shorter (suc i) [] = omega arith
    shorter (suc i) (x ∷ xs) = omega (arith, shorter i xs)
