-- Rising numbers, and their places.
use Rattle.std.proofs.Common.{◌≡◌, ℕ, zero, suc, ◌<◌, ◌≤◌, true, false, ◌==◌, List, [], ◌∷◌, length, get_or, Some, Result, Ok, Err, MatchResult, ap, sym, ◌∙◌, subst, arith, ⊎_elim}
use Rattle.std.specs.Prelude.{slice_get, nat_lt, nat_le}
use Rattle.std.proofs.lemmas.Bool.{and_parts, or_cases, or_left, or_right, eqb-true, eq-eqb, ltb-true, leb-true, le-leb, cases_Bool, cases_lt, false≢true}
use Rattle.std.proofs.lemmas.Option.{none-some, same_Some, slice_get_within, slice_get-get_or, get_or_from_slice_get}
use Rattle.std.proofs.lemmas.List.Sums.{position_or_len_is}
use Rattle.kernel_steps.specs.Split.{has_number, rises_from, is_rising}
use Rattle.pool_writer.specs.Retraced.{place_among}

-- ---- by places

-- numbers that rise from one on are greater
pub above : (low : ℕ) (ns : List ℕ) (k n : ℕ) → rises_from low ns ≡ true → slice_get ns k ≡ Some n → low < n
above low [] k n rising at = absurd (none-some n at)
above low (m ∷ ms) zero n rising at =
    subst (λ j. low < j) (same_Some m n at) (ltb-true low m (and_parts (nat_lt low m) (rises_from m ms) rising).0)
above low (m ∷ ms) (suc k) n rising at =
    let parts = and_parts (nat_lt low m) (rises_from m ms) rising in
    omega (arith, ltb-true low m parts.0, above m ms k n parts.1 at)

rising-from :
    (low : ℕ) (ns : List ℕ) (k j n m : ℕ) → rises_from low ns ≡ true → slice_get ns k ≡ Some n → slice_get ns j ≡ Some m → k < j → n < m
rising-from low [] k j n m rising at other less = absurd (none-some n at)
rising-from low (i ∷ is) zero zero n m rising at other less = absurd (omega (arith, less))
rising-from low (i ∷ is) zero (suc j) n m rising at other less =
    subst (λ a. a < m) (same_Some i n at) (above i is j m (and_parts (nat_lt low i) (rises_from i is) rising).1 other)
rising-from low (i ∷ is) (suc k) zero n m rising at other less = absurd (omega (arith, less))
rising-from low (i ∷ is) (suc k) (suc j) n m rising at other less =
    rising-from i is k j n m (and_parts (nat_lt low i) (rises_from i is) rising).1 at other (omega (arith, less))

-- of two numbers the later is greater
pub later-greater :
    (ns : List ℕ) (k j n m : ℕ) → is_rising ns ≡ true → slice_get ns k ≡ Some n → slice_get ns j ≡ Some m → k < j → n < m
later-greater [] k j n m rising at other less = absurd (none-some n at)
later-greater (i ∷ is) zero zero n m rising at other less = absurd (omega (arith, less))
later-greater (i ∷ is) zero (suc j) n m rising at other less = subst (λ a. a < m) (same_Some i n at) (above i is j m rising other)
later-greater (i ∷ is) (suc k) zero n m rising at other less = absurd (omega (arith, less))
later-greater (i ∷ is) (suc k) (suc j) n m rising at other less = rising-from i is k j n m rising at other (omega (arith, less))

pub less-earlier :
    (ns : List ℕ) (k j n m : ℕ) → is_rising ns ≡ true → slice_get ns k ≡ Some n → slice_get ns j ≡ Some m → n < m → k < j
less-earlier ns k j n m rising at other less =
    ⊎_elim (λ before. before)
    (λ behind. ⊎_elim (λ after. absurd (omega (arith, less, later-greater ns j k m n rising other at after)))
    (λ most.
    let same : k ≡ j = omega (arith, behind, most) in
    let equal : n ≡ m = same_Some n m (sym at ∙ ap (slice_get ns) same ∙ other) in
    absurd (omega (arith, less, equal)))
    (cases_lt j k))
    (cases_lt k j)

-- ---- the place of a number

has-at : (ns : List ℕ) (n : ℕ) → has_number n ns ≡ true → (k : ℕ) × (slice_get ns k ≡ Some n)
has-at [] n has = absurd (false≢true has)
has-at (m ∷ ms) n has =
    ⊎_elim (λ same. (0, ap Some (sym (eqb-true n m same)))) (λ later. let rest = has-at ms n later in (suc rest.0, rest.1))
    (or_cases (n == m) (has_number n ms) has)

pub at-has : (ns : List ℕ) (k n : ℕ) → slice_get ns k ≡ Some n → has_number n ns ≡ true
at-has [] k n at = absurd (none-some n at)
at-has (m ∷ ms) zero n at = or_left (n == m) (has_number n ms) (eq-eqb n m (sym (same_Some m n at)))
at-has (m ∷ ms) (suc k) n at = or_right (n == m) (has_number n ms) (at-has ms k n at)

-- behind those that are less, and before those that aren't
pub place-is :
    (ns : List ℕ) (k n : ℕ) → k ≤ length ns → ((j : ℕ) → j < k → get_or ns j 0 < n) → (k < length ns → n ≤ get_or ns k 0) → place_among ns n ≡ k
place-is ns k n within less most =
    position_or_len_is (λ m. nat_le n m) ns k 0 within (λ j h. not-le (get_or ns j 0) (less j h)) (λ h. le-leb n (get_or ns k 0) (most h))
  where
    not-le : (m : ℕ) → m < n → nat_le n m ≡ false
    not-le m h = ⊎_elim (λ is. absurd (omega (arith, h, leb-true n m is))) (λ no. no) (cases_Bool (nat_le n m))

-- a number of the list has its place
pub place-of :
    (ns : List ℕ) (k n : ℕ) → is_rising ns ≡ true → slice_get ns k ≡ Some n → place_among ns n ≡ k
place-of ns k n rising at =
    place-is ns k n (let within : k < length ns = slice_get_within ns k n at in omega (arith, within))
    (λ j h.
    let low : j < length ns = omega (arith, h, slice_get_within ns k n at) in
    later-greater ns j k (get_or ns j 0) n rising (slice_get-get_or ns j 0 low) at h)
    (λ h. let same : get_or ns k 0 ≡ n = get_or_from_slice_get ns k n 0 at in omega (arith, same))

pub there-at-place : (ns : List ℕ) (n : ℕ) → is_rising ns ≡ true → has_number n ns ≡ true → slice_get ns (place_among ns n) ≡ Some n
there-at-place ns n rising has =
    let found = has-at ns n has in ap (slice_get ns) (place-of ns found.0 n rising found.1) ∙ found.1

pub not-falling : (ns : List ℕ) → is_rising ns ≡ true → (i j : ℕ) → i ≤ j → j < length ns → get_or ns i 0 ≤ get_or ns j 0
not-falling ns rising i j le within =
    ⊎_elim
    (λ less.
    let rise : get_or ns i 0 < get_or ns j 0 =
    later-greater ns i j (get_or ns i 0) (get_or ns j 0) rising (slice_get-get_or ns i 0 (omega (arith, less, within)))
    (slice_get-get_or ns j 0 within) less in
    omega (arith, rise))
    (λ most.
    let same : i ≡ j = omega (arith, le, most) in
    let equal : get_or ns i 0 ≡ get_or ns j 0 = ap (λ k. get_or ns k 0) same in
    omega (arith, equal))
    (cases_lt i j)

-- what a search by halves finds, or where it would put the number
abbrev pub IsFound : List ℕ → ℕ → Result ℕ ℕ → Type 0
IsFound ns n r =
    MatchResult r
    (λ i. (i < length ns) × (get_or ns i 0 ≡ n))
    (λ i. (i ≤ length ns) × ((k : ℕ) → k < i → get_or ns k 0 < n) × ((k : ℕ) → i ≤ k → k < length ns → n < get_or ns k 0))

pub found-place : (ns : List ℕ) (n i : ℕ) → is_rising ns ≡ true → IsFound ns n (Ok i) → i ≡ place_among ns n
found-place ns n i rising found =
    sym (place-of ns i n rising (slice_get-get_or ns i 0 found.0 ∙ ap Some found.1))

pub missed-place : (ns : List ℕ) (n i : ℕ) → IsFound ns n (Err i) → i ≡ place_among ns n
missed-place ns n i missed =
    sym (place-is ns i n missed.0 missed.1 (λ h. let more : n < get_or ns i 0 = missed.2 i (omega arith) h in omega (arith, more)))
