-- The lengths of rows, and in which row a place is.
use Rattle.std.proofs.Common.{◌≡◌, ℕ, zero, suc, ◌+◌, ◌-◌, ◌*◌, ◌^◌, ◌/◌, ◌%◌, ◌<◌, ◌≤◌, refl, ap, sym, ◌∙◌, arith, pow_mono, pow-add, lt_of_not-le}
use Rattle.std.proofs.Math.Nat.{min-eq_left, min-eq_right}
use Rattle.term_bank.specs.Rows.{row_length, places_before, IsPlaceOf}

pub length-shorter : (row : ℕ) → row ≤ 27 → row_length row ≡ 32 * 2 ^ row
length-shorter row h = ap (λ (k : ℕ). 32 * 2 ^ k) (min-eq_left h)

pub length-longest : (row : ℕ) → 27 ≤ row → row_length row ≡ 4294967296
length-longest row h = ap (λ (k : ℕ). 32 * 2 ^ k) (min-eq_right h)

-- while rows double, the places before a row are as many as it has itself, but for the first 32
pub before-shorter : (row : ℕ) → row ≤ 27 → places_before row + 32 ≡ 32 * 2 ^ row
before-shorter zero h = refl
before-shorter (suc row) h =
    let before = before-shorter row (omega arith) in
    let own = length-shorter row (omega arith) in omega arith

pub before-longest : (more : ℕ) → places_before (more + 27) + 32 ≡ (more + 1) * 4294967296
before-longest zero = before-shorter 27 (omega arith)
before-longest (suc more) =
    let before = before-longest more in
    let next : suc more + 27 ≡ suc (more + 27) = omega arith in
    let step : places_before (suc more + 27) ≡ places_before (more + 27) + row_length (more + 27) = ap places_before next in
    let own = length-longest (more + 27) (omega arith) in omega arith

pub place-shorter :
    (index row place : ℕ) → row < 27 → place < 32 * 2 ^ row → 32 * 2 ^ row + place ≡ index + 32 → IsPlaceOf index row place
place-shorter index row place low below at =
    let before = before-shorter row (omega arith) in
    let own = length-shorter row (omega arith) in (omega arith, omega arith, omega arith)

pub place-longest :
    (index : ℕ) → 4294967296 ≤ index + 32 → index + 32 < 229 * 4294967296
    → IsPlaceOf index ((index + 32) / 4294967296 + 26) ((index + 32) % 4294967296)
place-longest index low high =
    let more : ℕ = (index + 32) / 4294967296 - 1 in
    let row : more + 27 ≡ (index + 32) / 4294967296 + 26 = omega arith in
    let before : places_before ((index + 32) / 4294967296 + 26) + 32 ≡ (more + 1) * 4294967296 =
    ap (λ k. places_before k + 32) (sym row) ∙ before-longest more in
    let own = length-longest ((index + 32) / 4294967296 + 26) (omega arith) in (omega arith, omega arith, omega arith)

-- ---- the highest bit tells the row

module _ (n top : ℕ) (low : 2 ^ top ≤ n) (high : n < 2 * 2 ^ top) where
  pub top-above : 32 ≤ n → 5 ≤ top
  top-above h = lt_of_not-le (λ (le : top ≤ 4). let p : 2 ^ top ≤ 16 = pow_mono le in omega arith)

  pub top-below : n < 4294967296 → top < 32
  top-below h = lt_of_not-le (λ (le : 32 ≤ top). let p : 4294967296 ≤ 2 ^ top = pow_mono le in omega arith)

pub row-top : (top : ℕ) → 5 ≤ top → 32 * 2 ^ (top - 5) ≡ 2 ^ top
row-top top h = let e : 5 + (top - 5) ≡ top = omega arith in sym (pow-add 2 5 (top - 5)) ∙ ap (λ (k : ℕ). 2 ^ k) e

pub row-small : (top : ℕ) → top < 32 → 2 ^ top ≤ 2147483648
row-small top h = let le : top ≤ 31 = omega arith in pow_mono le
