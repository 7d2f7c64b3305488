-- How many counts are above the level, and how many below.
use Rattle.std.proofs.Common.{◌≡◌, ℕ, zero, suc, ◌+◌, ◌-◌, ◌<◌, ◌≤◌, ◌^◌, ◌==◌, nat_lt, List, [], ◌∷◌, length, get_or, set, refl, ⊎_elim, arith}
use Rattle.std.proofs.lemmas.Bool.{cases_lt}
use Rattle.std.proofs.lemmas.Bool.Decides.{nat_tests}
use Rattle.std.proofs.lemmas.List.Sums.{sum_by-set, sum_by-cons}
use Rattle.kbo_order.specs.Balance.{above_level, below_level}
use Rattle.kbo_order.proofs.AboutReading.BitLemmas.{bit, bit-most}

-- ---- one number raised or lowered, beside a level

up-above : (x level : ℕ) → bit (nat_lt level (x + 1)) ≡ bit (nat_lt level x) + bit (x == level)
up-above x level = grind (arith, nat_tests)

up-below : (x level : ℕ) → bit (nat_lt (x + 1) level) + bit (x + 1 == level) ≡ bit (nat_lt x level)
up-below x level = grind (arith, nat_tests)

down-above : (x level : ℕ) → 1 ≤ x → bit (nat_lt level (x - 1)) + bit (x - 1 == level) ≡ bit (nat_lt level x)
down-above x level h = grind (arith, nat_tests)

down-below : (x level : ℕ) → 1 ≤ x → bit (nat_lt (x - 1) level) ≡ bit (nat_lt x level) + bit (x == level)
down-below x level h = grind (arith, nat_tests)

above-set :
    (xs : List ℕ) (i y : ℕ) → i < length xs
    → above_level (set xs i y) + bit (nat_lt (2 ^ 63) (get_or xs i 0)) ≡ above_level xs + bit (nat_lt (2 ^ 63) y)
above-set xs i y h = sum_by-set (λ (n : ℕ). bit (nat_lt (2 ^ 63) n)) xs i y 0 h

below-set :
    (xs : List ℕ) (i y : ℕ) → i < length xs
    → below_level (set xs i y) + bit (nat_lt (get_or xs i 0) (2 ^ 63)) ≡ below_level xs + bit (nat_lt y (2 ^ 63))
below-set xs i y h = sum_by-set (λ (n : ℕ). bit (nat_lt n (2 ^ 63))) xs i y 0 h

pub raised-above :
    (xs : List ℕ) (i : ℕ) → i < length xs
    → above_level (set xs i (get_or xs i 0 + 1)) ≡ above_level xs + bit (get_or xs i 0 == 2 ^ 63)
raised-above xs i h = omega (arith, above-set xs i (get_or xs i 0 + 1) h, up-above (get_or xs i 0) (2 ^ 63))

pub raised-below :
    (xs : List ℕ) (i : ℕ) → i < length xs
    → below_level (set xs i (get_or xs i 0 + 1)) + bit (get_or xs i 0 + 1 == 2 ^ 63) ≡ below_level xs
raised-below xs i h = omega (arith, below-set xs i (get_or xs i 0 + 1) h, up-below (get_or xs i 0) (2 ^ 63))

pub lowered-above :
    (xs : List ℕ) (i : ℕ) → i < length xs → 1 ≤ get_or xs i 0
    → above_level (set xs i (get_or xs i 0 - 1)) + bit (get_or xs i 0 - 1 == 2 ^ 63) ≡ above_level xs
lowered-above xs i h some = omega (arith, above-set xs i (get_or xs i 0 - 1) h, down-above (get_or xs i 0) (2 ^ 63) some)

pub lowered-below :
    (xs : List ℕ) (i : ℕ) → i < length xs → 1 ≤ get_or xs i 0
    → below_level (set xs i (get_or xs i 0 - 1)) ≡ below_level xs + bit (get_or xs i 0 == 2 ^ 63)
lowered-below xs i h some = omega (arith, below-set xs i (get_or xs i 0 - 1) h, down-below (get_or xs i 0) (2 ^ 63) some)

-- ---- bounds

pub above-bound : (xs : List ℕ) → above_level xs ≤ length xs
above-bound [] = omega arith
above-bound (x ∷ xs) = omega (arith, above-bound xs, bit-most (nat_lt (2 ^ 63) x), sum_by-cons (λ (n : ℕ). bit (nat_lt (2 ^ 63) n)) x xs)

pub below-bound : (xs : List ℕ) → below_level xs ≤ length xs
below-bound [] = omega arith
below-bound (x ∷ xs) = omega (arith, below-bound xs, bit-most (nat_lt x (2 ^ 63)), sum_by-cons (λ (n : ℕ). bit (nat_lt n (2 ^ 63))) x xs)

-- ---- none, or some

not_less : (x y : ℕ) → bit (nat_lt y x) ≡ 0 → x ≤ y
not_less x y h = grind (arith, nat_tests)

pub above-none : (xs : List ℕ) → above_level xs ≡ 0 → (k : ℕ) → k < length xs → get_or xs k 0 ≤ 2 ^ 63
above-none [] h k below = absurd (omega arith)
above-none (x ∷ xs) h zero below = not_less x (2 ^ 63) (omega (arith, sum_by-cons (λ (n : ℕ). bit (nat_lt (2 ^ 63) n)) x xs))
above-none (x ∷ xs) h (suc k) below =
    above-none xs (omega (arith, sum_by-cons (λ (n : ℕ). bit (nat_lt (2 ^ 63) n)) x xs)) k (omega arith)

pub below-none : (xs : List ℕ) → below_level xs ≡ 0 → (k : ℕ) → k < length xs → 2 ^ 63 ≤ get_or xs k 0
below-none [] h k below = absurd (omega arith)
below-none (x ∷ xs) h zero below = not_less (2 ^ 63) x (omega (arith, sum_by-cons (λ (n : ℕ). bit (nat_lt n (2 ^ 63))) x xs))
below-none (x ∷ xs) h (suc k) below =
    below-none xs (omega (arith, sum_by-cons (λ (n : ℕ). bit (nat_lt n (2 ^ 63))) x xs)) k (omega arith)

pub below-some : (xs : List ℕ) → (below_level xs ≡ 0 → ⊥) → (k : ℕ) × (k < length xs) × (get_or xs k 0 < 2 ^ 63)
below-some [] h = absurd (h refl)
below-some (x ∷ xs) h =
    ⊎_elim
    (λ less. (0, omega arith, less))
    (λ most.
    let further = below-some xs (λ none. h (omega (arith, no_bit (2 ^ 63) x most, none, sum_by-cons (λ (n : ℕ). bit (nat_lt n (2 ^ 63))) x xs))) in
    let within : further.0 < length xs = further.1 in
    (suc further.0, omega (arith, within), further.2))
    (cases_lt x (2 ^ 63))
  where
    no_bit : (x y : ℕ) → x ≤ y → bit (nat_lt y x) ≡ 0
    no_bit x y h = grind (arith, nat_tests)

pub none-above : (xs : List ℕ) → ((k : ℕ) → k < length xs → get_or xs k 0 ≤ 2 ^ 63) → above_level xs ≡ 0
none-above [] h = omega arith
none-above (x ∷ xs) h =
    let here : bit (nat_lt (2 ^ 63) x) ≡ 0 = no_bit x (2 ^ 63) (h 0 (omega arith)) in
    omega (
      arith,
      here,
      none-above xs (λ k below. h (suc k) (omega arith)),
      sum_by-cons (λ (n : ℕ). bit (nat_lt (2 ^ 63) n)) x xs,
    )
  where
    no_bit : (x y : ℕ) → x ≤ y → bit (nat_lt y x) ≡ 0
    no_bit x y h = grind (arith, nat_tests)

pub none-below : (xs : List ℕ) → ((k : ℕ) → k < length xs → 2 ^ 63 ≤ get_or xs k 0) → below_level xs ≡ 0
none-below [] h = omega arith
none-below (x ∷ xs) h =
    let here : bit (nat_lt x (2 ^ 63)) ≡ 0 = no_bit (2 ^ 63) x (h 0 (omega arith)) in
    omega (
      arith,
      here,
      none-below xs (λ k below. h (suc k) (omega arith)),
      sum_by-cons (λ (n : ℕ). bit (nat_lt n (2 ^ 63))) x xs,
    )
  where
    no_bit : (x y : ℕ) → x ≤ y → bit (nat_lt y x) ≡ 0
    no_bit x y h = grind (arith, nat_tests)
