-- Numbers in rising lists: which stand in a front, and that their places rise with them.
use Rattle.std.proofs.Common.{◌≡◌, ℕ, ◌+◌, ◌<◌, ◌≤◌, true, false, not, cond, ◌==◌, List, [], ◌∷◌, ◌++◌, refl, ap, sym, ◌∙◌, arith, ⊎_elim}
use Rattle.std.specs.Prelude.{nat_lt}
use Rattle.std.proofs.lemmas.Bool.{or_cases, or_left, or_right, or_from, eqb-true, eq-eqb, ne_eqb, lt-ltb, ltb-true, false≢true, false_from_ne_true, cases_Bool, cases_order}
use Rattle.tstp_writer.specs.Cone.{has_number, IsRising}
use Rattle.tstp_writer.specs.LineTrees.{place_in}
use Rattle.tstp_writer.proofs.AboutPrinted.PlaceLemmas.{above-has, place-later}

-- ---- fronts

pub has-middle : (before : List ℕ) (n : ℕ) (after : List ℕ) → has_number (before ++ n ∷ after) n ≡ true
has-middle [] n after = or_left (n == n) (has_number after n) (eq-eqb n n refl)
has-middle (b ∷ bs) n after = or_right (b == n) (has_number (bs ++ n ∷ after) n) (has-middle bs n after)

pub has-front : (ns ms : List ℕ) (n : ℕ) → has_number ns n ≡ true → has_number (ns ++ ms) n ≡ true
has-front [] ms n has = absurd (false≢true has)
has-front (k ∷ ks) ms n has =
    ⊎_elim (λ same. or_left (k == n) (has_number (ks ++ ms) n) same) (λ later. or_right (k == n) (has_number (ks ++ ms) n) (has-front ks ms n later))
    (or_cases (k == n) (has_number ks n) has)

pub has-behind : (ns ms : List ℕ) (n : ℕ) → has_number ms n ≡ true → has_number (ns ++ ms) n ≡ true
has-behind [] ms n has = has
has-behind (k ∷ ks) ms n has = or_right (k == n) (has_number (ks ++ ms) n) (has-behind ks ms n has)

-- the next of a rising list isn't among those before it
pub rising-apart : (before : List ℕ) (n : ℕ) (after : List ℕ) → IsRising (before ++ n ∷ after) → has_number before n ≡ false
rising-apart [] n after h = refl
rising-apart (b ∷ bs) n after h =
    let low : b < n = above-has b (bs ++ n ∷ after) n h.0 (has-middle bs n after) in
    or_from (b == n) (has_number bs n) (ne_eqb b n (λ same. let none : ⊥ = omega (arith, low, same) in none)) (rising-apart bs n after h.1)

-- ---- places

pub place-order :
    (ns : List ℕ) (n m : ℕ) → IsRising ns → has_number ns n ≡ true → has_number ns m ≡ true → n < m → place_in n ns < place_in m ns
place-order [] n m h has_n has_m less = absurd (false≢true has_n)
place-order (k ∷ ks) n m h has_n has_m less =
    let low : k ≤ n =
    ⊎_elim (λ (same : (k == n) ≡ true). let e : k ≡ n = eqb-true k n same in let it : k ≤ n = omega (arith, e) in it)
    (λ later. let above : k < n = above-has k ks n h.0 later in let it : k ≤ n = omega (arith, above) in it) (or_cases (k == n) (has_number ks n) has_n) in
    let m_later : has_number ks m ≡ true =
    ⊎_elim (λ (same : (k == m) ≡ true). let e : k ≡ m = eqb-true k m same in let none : ⊥ = omega (arith, e, low, less) in absurd none) (λ later. later)
    (or_cases (k == m) (has_number ks m) has_m) in
    let m_place : place_in m (k ∷ ks) ≡ 1 + place_in m ks =
    place-later k m ks (λ same. let none : ⊥ = omega (arith, same, low, less) in none) in
    ⊎_elim
    (λ (same : (k == n) ≡ true).
    let n_place : place_in n (k ∷ ks) ≡ 0 = ap (λ t. cond (not t) (1 + place_in n ks) 0) same in
    let it : place_in n (k ∷ ks) < place_in m (k ∷ ks) = omega (arith, n_place, m_place) in it)
    (λ (other : (k == n) ≡ false).
    let n_later : has_number ks n ≡ true =
    ⊎_elim (λ (same : (k == n) ≡ true). absurd (false≢true (sym other ∙ same))) (λ later. later) (or_cases (k == n) (has_number ks n) has_n) in
    let n_place : place_in n (k ∷ ks) ≡ 1 + place_in n ks = ap (λ t. cond (not t) (1 + place_in n ks) 0) other in
    let rest : place_in n ks < place_in m ks = place-order ks n m h.1 n_later m_later less in
    let it : place_in n (k ∷ ks) < place_in m (k ∷ ks) = omega (arith, n_place, m_place, rest) in it)
    (cases_Bool (k == n))

not-less : (a b : ℕ) → b ≤ a → nat_lt a b ≡ false
not-less a b most =
    false_from_ne_true (nat_lt a b) (λ less. let low : a < b = ltb-true a b less in let none : ⊥ = omega (arith, low, most) in none)

-- of numbers in a rising list the places are in the same order
pub places-ordered :
    (ns : List ℕ) → IsRising ns → (n m : ℕ) → has_number ns n ≡ true → has_number ns m ≡ true
    → (nat_lt (place_in n ns) (place_in m ns) ≡ nat_lt n m) × ((place_in n ns == place_in m ns) ≡ (n == m))
places-ordered ns h n m has_n has_m =
    ⊎_elim
    (λ (same : n ≡ m). (
      not-less (place_in n ns) (place_in m ns) (let e : place_in n ns ≡ place_in m ns = ap (λ k. place_in k ns) same in omega (arith, e))
          ∙ sym (not-less n m (omega (arith, same))),
      eq-eqb (place_in n ns) (place_in m ns) (ap (λ k. place_in k ns) same) ∙ sym (eq-eqb n m same),
    ))
    (λ other.
    ⊎_elim
    (λ (less : n < m).
    let low : place_in n ns < place_in m ns = place-order ns n m h has_n has_m less in (
      lt-ltb (place_in n ns) (place_in m ns) low ∙ sym (lt-ltb n m less),
      ne_eqb (place_in n ns) (place_in m ns) (λ e. let none : ⊥ = omega (arith, low, e) in none)
          ∙ sym (ne_eqb n m (λ e. let none : ⊥ = omega (arith, less, e) in none)),
    ))
    (λ (more : m < n).
    let low : place_in m ns < place_in n ns = place-order ns m n h has_m has_n more in (
      not-less (place_in n ns) (place_in m ns) (omega (arith, low)) ∙ sym (not-less n m (omega (arith, more))),
      ne_eqb (place_in n ns) (place_in m ns) (λ e. let none : ⊥ = omega (arith, low, e) in none)
          ∙ sym (ne_eqb n m (λ e. let none : ⊥ = omega (arith, more, e) in none)),
    ))
    other)
    (cases_order n m)
