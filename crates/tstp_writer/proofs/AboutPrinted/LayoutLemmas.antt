-- The places of numbers in lists.
use Rattle.std.proofs.Common.{◌≡◌, ℕ, zero, suc, ◌+◌, ◌-◌, ◌<◌, ◌≤◌, Bool, true, false, cond, not, ◌==◌, List, [], ◌∷◌, length, drop, Some, refl, ap, sym, ◌∙◌, arith, ⊎_elim}
use Rattle.std.specs.Prelude.{slice_get, nat_le, unwrap_or, if◌then◌else◌, IsTrue}
use Rattle.fol_base.specs.Canonical.{numbers_from}
use Rattle.std.specs.List.{AllByRecursion}
use Rattle.std.proofs.Math.Seq.{drop-cons}
use Rattle.std.proofs.lemmas.Bool.{cases_lt, ne_eqb, eqb-true, eq-eqb, le-leb, leb-true, or_cases, or_left, or_right, false≢true}
use Rattle.std.proofs.lemmas.Option.{slice_get_past, slice_get_within, get_or_from_slice_get}
use Rattle.kernel_steps.specs.declared.step.Line.{Line}
use Rattle.tstp_writer.specs.Cone.{has_number, AreAllNeeded, IsAbove, IsClosed, IsCone, IsNeeded, IsRising}
use Rattle.tstp_writer.specs.LineTrees.{place_in}
use Rattle.tstp_writer.specs.Places.{told_place}
use Rattle.tstp_writer.proofs.AboutPrinted.PlaceLemmas.{all-there, all-from}

pub place-le : (n : ℕ) (ns : List ℕ) → place_in n ns ≤ length ns
place-le n [] = omega arith
place-le n (m ∷ ns) = by (m == n) (place-le n ns)
  where
    by : (t : Bool) → place_in n ns ≤ length ns → cond (not t) (1 + place_in n ns) 0 ≤ suc (length ns)
    by true h = omega arith
    by false h = omega (arith, h)

-- a number that isn't below a bound stands nowhere among numbers that are
pub place-past : (n bound : ℕ) (ns : List ℕ) → bound ≤ n → AllByRecursion (λ m. m < bound) ns → place_in n ns ≡ length ns
place-past n bound [] past low = refl
place-past n bound (m ∷ ms) past low =
    let here : m < bound = low.0 in
    let next : 1 + place_in n ms ≡ suc (length ms) = omega (arith, place-past n bound ms past low.1) in
    ap (λ t. cond (not t) (1 + place_in n ms) 0) (ne_eqb m n (λ same. let none : ⊥ = omega (arith, same, here, past) in none)) ∙ next

-- ---- a table that is filled from the last number backwards

pub drop-there : (ns : List ℕ) (k n : ℕ) → slice_get ns k ≡ Some n → drop k ns ≡ n ∷ drop (suc k) ns
drop-there ns k n at =
    drop-cons ns k n (slice_get_within ns k n at) ∙ ap (λ m. m ∷ drop (suc k) ns) (get_or_from_slice_get ns k n n at)

told-past : (table : List ℕ) (count n : ℕ) → length table ≤ n → told_place table count n ≡ count
told-past table count n past = ap (λ o. unwrap_or o count) (slice_get_past table n past)

-- what the table tells after one number's place was written
told-put :
    (before after : List ℕ) (number place : ℕ) → number < length before → length after ≡ length before
    → ((count n : ℕ) → n < length before → told_place after count n ≡ (if number == n then place else told_place before count n))
    → (count n : ℕ) → told_place after count n ≡ (if number == n then place else told_place before count n)
told-put before after number place low room told count n =
    ⊎_elim (λ below. told count n below)
    (λ past.
    told-past after count n (omega (arith, past, room))
    ∙ sym (told-past before count n past)
    ∙ sym (ap (λ t. if t then place else told_place before count n)
    (ne_eqb number n (λ same. let none : ⊥ = omega (arith, same, low, past) in none))))
    (cases_lt n (length before))

pub one-earlier :
    (before after ns : List ℕ) (k number bound : ℕ) → slice_get ns k ≡ Some number → AllByRecursion (λ m. m < bound) ns
    → length before ≡ bound → length after ≡ length before
    → ((count n : ℕ) → n < length before → told_place after count n ≡ (if number == n then k else told_place before count n))
    → ((n : ℕ) → told_place before (length ns) n ≡ suc k + place_in n (drop (suc k) ns))
    → (n : ℕ) → told_place after (length ns) n ≡ k + place_in n (drop k ns)
one-earlier before after ns k number bound at all size room told known n =
    told-put before after number k (let low : number < bound = all-there (λ m. m < bound) ns k number all at in omega (arith, low, size)) room told (length ns) n
    ∙ by (number == n) (known n)
    ∙ ap (λ ms. k + place_in n ms) (sym (drop-there ns k number at))
  where
    by :
        (t : Bool) → told_place before (length ns) n ≡ suc k + place_in n (drop (suc k) ns)
        → (if t then k else told_place before (length ns) n) ≡ k + cond (not t) (1 + place_in n (drop (suc k) ns)) 0
    by true h = omega arith
    by false h = omega (arith, h)

-- ---- the numbers of a cone

-- whether a number is below the number of lines
abbrev is_below : List Line → ℕ → Bool
is_below lines n = nat_le (suc n) (length lines)

below-closed : (lines : List Line) → IsClosed lines (is_below lines)
below-closed lines n m line other here there below need =
    le-leb (suc m) (length lines) (let low : m < length lines = slice_get_within lines m other there in omega (arith, low))

-- what a line needs is a line
needed-below : (lines : List Line) (last n : ℕ) → last < length lines → IsNeeded lines last n → n < length lines
needed-below lines last n within need =
    let low : suc n ≤ length lines =
    leb-true (suc n) (length lines) (need (is_below lines) (le-leb (suc last) (length lines) (omega (arith, within))) (below-closed lines)) in
    omega (arith, low)

pub cone-below :
    (lines : List Line) (last : ℕ) (numbers : List ℕ) → last < length lines → IsCone lines last numbers
    → AllByRecursion (λ n. n < length lines) numbers
cone-below lines last numbers within cone =
    all-from (λ n. n < length lines) numbers (λ n has. needed-below lines last n within ((cone.exact n).0 has))

-- ---- the numbers of all lines

above-from : (low first n : ℕ) → low < first → IsAbove low (numbers_from first n)
above-from low first zero h = tt
above-from low first (suc n) h = (h, above-from low (suc first) n (omega (arith, h)))

rising-from : (first n : ℕ) → IsRising (numbers_from first n)
rising-from first zero = tt
rising-from first (suc n) = (above-from first (suc first) n (omega arith), rising-from (suc first) n)

has-below : (first n k : ℕ) → IsTrue (has_number (numbers_from first n) k) → k < first + n
has-below first zero k has = absurd (false≢true has)
has-below first (suc n) k has =
    ⊎_elim (λ same. let is : first ≡ k = eqb-true first k same in omega (arith, is))
    (λ later. let low : k < suc first + n = has-below (suc first) n k later in omega (arith, low))
    (or_cases (first == k) (has_number (numbers_from (suc first) n) k) has)

has-from : (first n k : ℕ) → first ≤ k → k < first + n → IsTrue (has_number (numbers_from first n) k)
has-from first zero k low high = absurd (omega (arith, low, high))
has-from first (suc n) k low high =
    ⊎_elim
    (λ less. or_right (first == k) (has_number (numbers_from (suc first) n) k) (has-from (suc first) n k (omega (arith, less)) (omega (arith, high))))
    (λ most. or_left (first == k) (has_number (numbers_from (suc first) n) k) (eq-eqb first k (omega (arith, low, most))))
    (cases_lt first k)

pub all-below_length : (lines : List Line) → AllByRecursion (λ n. n < length lines) (numbers_from 0 (length lines))
all-below_length lines =
    all-from (λ n. n < length lines) (numbers_from 0 (length lines))
    (λ n has. let low : n < 0 + length lines = has-below 0 (length lines) n has in omega (arith, low))

-- where the last line needs all others, they are its cone
pub all-cone : (lines : List Line) → AreAllNeeded lines → IsCone lines (length lines - 1) (numbers_from 0 (length lines))
all-cone lines all = record {
  rising = rising-from 0 (length lines);
  exact = λ n. (
    (λ has. let low : n < 0 + length lines = has-below 0 (length lines) n has in all.needed n (omega (arith, low))),
    (λ need.
        let last : length lines - 1 < length lines = omega (arith, all.some) in
        let low : n < length lines = needed-below lines (length lines - 1) n last need in
        has-from 0 (length lines) n (omega arith) (omega (arith, low))),
  );
}
