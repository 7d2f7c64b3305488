-- Numbers of a range that pass a test.
use Rattle.std.proofs.Common.{◌≡◌, ℕ, zero, suc, ◌+◌, ◌<◌, ◌≤◌, Bool, true, false, ◌==◌, List, [], ◌∷◌, length, cond, refl, ap, ap₂, sym, ◌∙◌, ⊎_elim, arith}
use Rattle.std.specs.Prelude.{nat_lt, filter}
use Rattle.std.specs.List.{range_with_len}
use Rattle.std.proofs.lemmas.Bool.{cases_Bool, or_cases, or_left, or_right, eqb-true, eqb-false, true≢false, and_from, lt-ltb}
use Rattle.kernel_steps.specs.Split.{has_number, is_part, rises_from, is_rising}

-- ---- what passes

-- a number of the filtered range is in the range and passes
pub in-filter :
    (p : ℕ → Bool) (a n j : ℕ)
    → has_number j (filter p (range_with_len a n)) ≡ true → (a ≤ j) × ((j < a + n) × (p j ≡ true))
in-filter p a zero j h = absurd (true≢false (sym h))
in-filter p a (suc n) j h =
    ⊎_elim
    (λ passes.
    let there : has_number j (a ∷ filter p (range_with_len (a + 1) n)) ≡ true =
    ap (λ b. has_number j (cond b (a ∷ filter p (range_with_len (a + 1) n)) (filter p (range_with_len (a + 1) n)))) (sym passes) ∙ h in
    ⊎_elim
    (λ here.
    let same : j ≡ a = eqb-true j a here in
    (omega (arith, same), (omega (arith, same), ap p same ∙ passes)))
    (λ later. let rest = in-filter p (a + 1) n j later in (omega (arith, rest.0), (omega (arith, rest.1.0), rest.1.1)))
    (or_cases (j == a) (has_number j (filter p (range_with_len (a + 1) n))) there))
    (λ fails.
    let there : has_number j (filter p (range_with_len (a + 1) n)) ≡ true =
    ap (λ b. has_number j (cond b (a ∷ filter p (range_with_len (a + 1) n)) (filter p (range_with_len (a + 1) n)))) (sym fails) ∙ h in
    let rest = in-filter p (a + 1) n j there in
    (omega (arith, rest.0), (omega (arith, rest.1.0), rest.1.1)))
    (cases_Bool (p a))

-- and each that is in the range and passes is there
pub filter-in :
    (p : ℕ → Bool) (a n j : ℕ) → a ≤ j → j < a + n → p j ≡ true → has_number j (filter p (range_with_len a n)) ≡ true
filter-in p a zero j low high passes = absurd (omega (arith, low, high))
filter-in p a (suc n) j low high passes =
    ⊎_elim
    (λ here.
    let same : j ≡ a = eqb-true j a here in
    ap (λ b. has_number j (cond b (a ∷ filter p (range_with_len (a + 1) n)) (filter p (range_with_len (a + 1) n)))) (ap p (sym same) ∙ passes)
    ∙ or_left (j == a) (has_number j (filter p (range_with_len (a + 1) n))) here)
    (λ other.
    let later =
    filter-in p (a + 1) n j (above j a low (eqb-false j a other)) (omega (arith, high)) passes in
    with_head (p a) j a (filter p (range_with_len (a + 1) n)) later)
    (cases_Bool (j == a))
  where
    above : (j a : ℕ) → a ≤ j → (j ≡ a → ⊥) → a + 1 ≤ j
    above j a low differ = omega (arith, low, differ)

    with_head : (b : Bool) (j a : ℕ) (ks : List ℕ) → has_number j ks ≡ true → has_number j (cond b (a ∷ ks) ks) ≡ true
    with_head true j a ks h = or_right (j == a) (has_number j ks) h
    with_head false j a ks h = h

-- tests that agree on a range filter it alike
pub filter-alike :
    (p q : ℕ → Bool) (a n : ℕ)
    → ((j : ℕ) → a ≤ j → j < a + n → p j ≡ q j) → filter p (range_with_len a n) ≡ filter q (range_with_len a n)
filter-alike p q a zero same = refl
filter-alike p q a (suc n) same =
    let rest : filter p (range_with_len (a + 1) n) ≡ filter q (range_with_len (a + 1) n) =
    filter-alike p q (a + 1) n (λ j low high. same j (omega (arith, low)) (omega (arith, high))) in
    ap₂ (λ b ks. cond b (a ∷ ks) ks) (same a (omega arith) (omega arith)) rest

-- the numbers of a filtered range rise
pub filter-rises :
    (p : ℕ → Bool) (k a n : ℕ) → k < a → rises_from k (filter p (range_with_len a n)) ≡ true
filter-rises p k a zero below = refl
filter-rises p k a (suc n) below =
    either (p a) (filter-rises p a (a + 1) n (omega arith)) (filter-rises p k (a + 1) n (omega (arith, below)))
  where
    either :
        (b : Bool)
        → rises_from a (filter p (range_with_len (a + 1) n)) ≡ true → rises_from k (filter p (range_with_len (a + 1) n)) ≡ true
        → rises_from k (cond b (a ∷ filter p (range_with_len (a + 1) n)) (filter p (range_with_len (a + 1) n))) ≡ true
    either true own lower = and_from (nat_lt k a) (rises_from a (filter p (range_with_len (a + 1) n))) (lt-ltb k a below) own
    either false own lower = lower

-- so they make a part where there is one
pub filter-part :
    (p : ℕ → Bool) (a n j : ℕ)
    → has_number j (filter p (range_with_len a n)) ≡ true → is_part (filter p (range_with_len a n)) ≡ true
filter-part p a zero j h = absurd (true≢false (sym h))
filter-part p a (suc n) j h = either (p a) h (filter-part p (a + 1) n j)
  where
    either :
        (b : Bool)
        → has_number j (cond b (a ∷ filter p (range_with_len (a + 1) n)) (filter p (range_with_len (a + 1) n))) ≡ true
        → (has_number j (filter p (range_with_len (a + 1) n)) ≡ true → is_part (filter p (range_with_len (a + 1) n)) ≡ true)
        → is_part (cond b (a ∷ filter p (range_with_len (a + 1) n)) (filter p (range_with_len (a + 1) n))) ≡ true
    either true there rest = filter-rises p a (a + 1) n (omega arith)
    either false there rest = rest there

pub filter-rise : (p : ℕ → Bool) (a n : ℕ) → is_rising (filter p (range_with_len a n)) ≡ true
filter-rise p a zero = refl
filter-rise p a (suc n) = either (p a) (filter-rise p (a + 1) n)
  where
    either :
        (b : Bool) → is_rising (filter p (range_with_len (a + 1) n)) ≡ true
        → is_rising (cond b (a ∷ filter p (range_with_len (a + 1) n)) (filter p (range_with_len (a + 1) n))) ≡ true
    either true rest = filter-rises p a (a + 1) n (omega arith)
    either false rest = rest

-- ---- how many pass

-- where one test passes at least what another passes
pub filter-more :
    (p q : ℕ → Bool) (xs : List ℕ)
    → ((j : ℕ) → p j ≡ true → q j ≡ true) → length (filter p xs) ≤ length (filter q xs)
filter-more p q [] more = omega arith
filter-more p q (x ∷ xs) more = either (p x) (q x) (more x) (filter-more p q xs more)
  where
    either :
        (b c : Bool) → (b ≡ true → c ≡ true) → length (filter p xs) ≤ length (filter q xs)
        → length (cond b (x ∷ filter p xs) (filter p xs)) ≤ length (cond c (x ∷ filter q xs) (filter q xs))
    either true true more rest = omega (arith, rest)
    either true false more rest = absurd (true≢false (sym (more refl)))
    either false true more rest = omega (arith, rest)
    either false false more rest = rest

-- and one more, which the first fails
pub filter-grows :
    (p q : ℕ → Bool) (xs : List ℕ) (j : ℕ)
    → ((i : ℕ) → p i ≡ true → q i ≡ true) → has_number j xs ≡ true → q j ≡ true → p j ≡ false
    → length (filter p xs) < length (filter q xs)
filter-grows p q [] j more there passes fails = absurd (true≢false (sym there))
filter-grows p q (x ∷ xs) j more there passes fails =
    ⊎_elim
    (λ here.
    let same : j ≡ x = eqb-true j x here in
    one (p x) (q x) (ap p (sym same) ∙ fails) (ap q (sym same) ∙ passes) (filter-more p q xs more))
    (λ later. either (p x) (q x) (more x) (filter-grows p q xs j more later passes fails))
    (or_cases (j == x) (has_number j xs) there)
  where
    one :
        (b c : Bool) → b ≡ false → c ≡ true → length (filter p xs) ≤ length (filter q xs)
        → length (cond b (x ∷ filter p xs) (filter p xs)) < length (cond c (x ∷ filter q xs) (filter q xs))
    one true c b_is c_is rest = absurd (true≢false b_is)
    one false true b_is c_is rest = omega (arith, rest)
    one false false b_is c_is rest = absurd (true≢false (sym c_is))

    either :
        (b c : Bool) → (b ≡ true → c ≡ true) → length (filter p xs) < length (filter q xs)
        → length (cond b (x ∷ filter p xs) (filter p xs)) < length (cond c (x ∷ filter q xs) (filter q xs))
    either true true more rest = omega (arith, rest)
    either true false more rest = absurd (true≢false (sym (more refl)))
    either false true more rest = omega (arith, rest)
    either false false more rest = rest

pub filter-length : (p : ℕ → Bool) (xs : List ℕ) → length (filter p xs) ≤ length xs
filter-length p [] = omega arith
filter-length p (x ∷ xs) = either (p x) (filter-length p xs)
  where
    either : (b : Bool) → length (filter p xs) ≤ length xs → length (cond b (x ∷ filter p xs) (filter p xs)) ≤ length (x ∷ xs)
    either true rest = omega (arith, rest)
    either false rest = omega (arith, rest)

pub length-range : (a n : ℕ) → length (range_with_len a n) ≡ n
length-range a zero = refl
length-range a (suc n) = omega (arith, length-range (a + 1) n)

-- ---- sums over lists of numbers

abbrev pub total : (ℕ → ℕ) → List ℕ → ℕ
total h [] = 0
total h (k ∷ ks) = h k + total h ks
