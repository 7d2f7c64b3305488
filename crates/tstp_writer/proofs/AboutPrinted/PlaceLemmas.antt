-- Places in lists: of items that pass a test, of numbers in rising lists, and of lines by their names.
use Rattle.std.proofs.Common.{◌≡◌, ℕ, zero, suc, ◌+◌, ◌<◌, ◌≤◌, ◌^◌, ◌⊎◌, inl, inr, Bool, true, false, cond, not, ◌||◌, ◌==◌, List, [], ◌∷◌, ◌++◌, length, None, Some, refl, ap, sym, ◌∙◌, subst, arith, ⊎_elim}
use Rattle.std.specs.Prelude.{⊤, slice_get, filter, position, bytes_eq}
use Rattle.std.specs.List.{list_any, position_or_len, AllByRecursion}
use Rattle.std.proofs.lemmas.Bool.{or_cases, or_left, or_right, or_from, eqb-true, eq-eqb, ne_eqb, lt-ltb, false≢true, false_from_ne_true, cases_order}
use Rattle.std.proofs.lemmas.Option.{none-some, same_Some}
use Rattle.std.proofs.lemmas.Fmt.{decimal_injective}
use Rattle.fol_base.specs.Canonical.{numbers_from}
use Rattle.clausal_form.specs.DerivationLine.{NamedLine}
use Rattle.tstp_writer.specs.Cone.{has_number, IsAbove, IsRising}
use Rattle.tstp_writer.specs.LineTrees.{line_name, place_in}
use Rattle.tstp_writer.proofs.ReadAgain.SameLemmas.{bytes-same, bytes-self}

-- ---- items by their places

pub there-below : {X : Type 0} (xs : List X) (i : ℕ) → i < length xs → (x : X) × (slice_get xs i ≡ Some x)
there-below [] i low = let none : ⊥ = omega (arith, low) in absurd none
there-below (x ∷ xs) zero low = (x, refl)
there-below (x ∷ xs) (suc i) low = there-below xs i (omega (arith, low))

pub kept-there : {X : Type 0} (xs ys : List X) (i : ℕ) (x : X) → slice_get xs i ≡ Some x → slice_get (xs ++ ys) i ≡ Some x
kept-there [] ys i x at = absurd (none-some x at)
kept-there (z ∷ zs) ys zero x at = at
kept-there (z ∷ zs) ys (suc i) x at = kept-there zs ys i x at

-- behind a list, the items of the next one
pub there-behind : {X : Type 0} (xs ys : List X) (i k : ℕ) → k ≡ length xs + i → slice_get (xs ++ ys) k ≡ slice_get ys i
there-behind [] ys i k k_is = let e : k ≡ i = omega (arith, k_is) in ap (slice_get ys) e
there-behind (x ∷ xs) ys i zero k_is = let none : ⊥ = omega (arith, k_is) in absurd none
there-behind (x ∷ xs) ys i (suc k) k_is = there-behind xs ys i k (omega (arith, k_is))

pub all-there : {X : Type 0} (P : X → Type 0) (xs : List X) (i : ℕ) (x : X) → AllByRecursion P xs → slice_get xs i ≡ Some x → P x
all-there P [] i x all at = absurd (none-some x at)
all-there P (z ∷ zs) zero x all at = subst P (same_Some z x at) all.0
all-there P (z ∷ zs) (suc i) x all at = all-there P zs i x all.1 at

-- ---- the first item that passes a test

pub record IsFirst {X : Type 0} (test : X → Bool) (xs : List X) (place : ℕ) : Type 0 where
  pub item : X
  pub below : place < length xs
  pub there : slice_get xs place ≡ Some item
  pub passes : test item ≡ true

next-first : {X : Type 0} (test : X → Bool) (z : X) (zs : List X) (place : ℕ) → IsFirst test zs place → IsFirst test (z ∷ zs) (1 + place)
next-first test z zs place first =
    let e : 1 + place ≡ suc place = omega arith in
    record {
      item = first.item;
      below = omega (arith, first.below);
      there = ap (slice_get (z ∷ zs)) e ∙ first.there;
      passes = first.passes;
    }

pub first-there :
    {X : Type 0} (test : X → Bool) (xs : List X) (i : ℕ) (x : X) → slice_get xs i ≡ Some x → test x ≡ true
    → IsFirst test xs (position_or_len test xs)
first-there test [] i x at passes = absurd (none-some x at)
first-there test (z ∷ zs) zero x at passes =
    let here : test z ≡ true = ap test (same_Some z x at) ∙ passes in
    subst (λ t. IsFirst test (z ∷ zs) (cond (not t) (1 + position_or_len test zs) 0)) (sym here)
    (record { item = z; below = omega arith; there = refl; passes = here })
first-there test (z ∷ zs) (suc i) x at passes = by (test z) refl (first-there test zs i x at passes)
  where
    by :
        (t : Bool) → test z ≡ t → IsFirst test zs (position_or_len test zs)
        → IsFirst test (z ∷ zs) (cond (not t) (1 + position_or_len test zs) 0)
    by true e later = record { item = z; below = omega arith; there = refl; passes = e }
    by false e later = next-first test z zs (position_or_len test zs) later

pub position-there :
    {X : Type 0} (test : X → Bool) (xs : List X) → position_or_len test xs < length xs → position test xs ≡ Some (position_or_len test xs)
position-there test xs low =
    ap (λ t. cond t (Some (position_or_len test xs)) None) (lt-ltb (position_or_len test xs) (length xs) low)

-- ---- numbers of a list

pub number-there : (ns : List ℕ) (n : ℕ) → has_number ns n ≡ true → (place_in n ns < length ns) × (slice_get ns (place_in n ns) ≡ Some n)
number-there [] n has = absurd (false≢true has)
number-there (m ∷ ms) n has = by (m == n) refl (λ e. number-there ms n e) has
  where
    by :
        (t : Bool) → (m == n) ≡ t → (has_number ms n ≡ true → (place_in n ms < length ms) × (slice_get ms (place_in n ms) ≡ Some n))
        → (t || has_number ms n) ≡ true
        → (cond (not t) (1 + place_in n ms) 0 < length (m ∷ ms)) × (slice_get (m ∷ ms) (cond (not t) (1 + place_in n ms) 0) ≡ Some n)
    by true e later h = (omega arith, ap Some (eqb-true m n e))
    by false e later h =
        let found = later h in
        let next : 1 + place_in n ms ≡ suc (place_in n ms) = omega arith in
        (omega (arith, found.0), ap (slice_get (m ∷ ms)) next ∙ found.1)

pub has-passing : (test : ℕ → Bool) (ns : List ℕ) (n : ℕ) → has_number ns n ≡ true → test n ≡ true → has_number (filter test ns) n ≡ true
has-passing test [] n has passes = absurd (false≢true has)
has-passing test (m ∷ ms) n has passes =
    by (test m) refl (or_cases (m == n) (has_number ms n) has) (λ e. has-passing test ms n e passes)
  where
    by :
        (t : Bool) → test m ≡ t → ((m == n) ≡ true) ⊎ (has_number ms n ≡ true)
        → (has_number ms n ≡ true → has_number (filter test ms) n ≡ true)
        → has_number (cond t (m ∷ filter test ms) (filter test ms)) n ≡ true
    by true e (inl here) later = or_left (m == n) (has_number (filter test ms) n) here
    by true e (inr there) later = or_right (m == n) (has_number (filter test ms) n) (later there)
    by false e (inl here) later =
        absurd (false≢true (sym e ∙ ap test (eqb-true m n here) ∙ passes))
    by false e (inr there) later = later there

cases_le : (k p : ℕ) → k ≤ p → (k ≡ p) ⊎ (suc k ≤ p)
cases_le k p low =
    ⊎_elim (λ same. inl same) (λ other. ⊎_elim (λ less. inr (omega (arith, less))) (λ more. let none : ⊥ = omega (arith, more, low) in absurd none) other)
    (cases_order k p)

pub has-between : (k n p : ℕ) → k ≤ p → p < k + n → has_number (numbers_from k n) p ≡ true
has-between k zero p low high = let none : ⊥ = omega (arith, low, high) in absurd none
has-between k (suc n) p low high = by (k == p) refl (λ low_next high_next. has-between (suc k) n p low_next high_next)
  where
    by :
        (t : Bool) → (k == p) ≡ t → (suc k ≤ p → p < suc k + n → has_number (numbers_from (suc k) n) p ≡ true)
        → (t || has_number (numbers_from (suc k) n) p) ≡ true
    by true e later = refl
    by false e later =
        let apart : k ≡ p → ⊥ = λ same. false≢true (sym e ∙ eq-eqb k p same) in
        later (⊎_elim (λ same. absurd (apart same)) (λ less. less) (cases_le k p low)) (omega (arith, high))

pub all-passing : (P : ℕ → Type 0) (test : ℕ → Bool) (ns : List ℕ) → AllByRecursion P ns → AllByRecursion P (filter test ns)
all-passing P test [] all = tt
all-passing P test (n ∷ ns) all = by (test n) (all-passing P test ns all.1)
  where
    by : (t : Bool) → AllByRecursion P (filter test ns) → AllByRecursion P (cond t (n ∷ filter test ns) (filter test ns))
    by true rest = (all.0, rest)
    by false rest = rest

pub passing-pass : (test : ℕ → Bool) (ns : List ℕ) → AllByRecursion (λ n. test n ≡ true) (filter test ns)
passing-pass test [] = tt
passing-pass test (n ∷ ns) = by (test n) refl (passing-pass test ns)
  where
    by :
        (t : Bool) → test n ≡ t → AllByRecursion (λ m. test m ≡ true) (filter test ns)
        → AllByRecursion (λ m. test m ≡ true) (cond t (n ∷ filter test ns) (filter test ns))
    by true e rest = (e, rest)
    by false e rest = rest

pub all-from : (P : ℕ → Type 0) (ns : List ℕ) → ((n : ℕ) → has_number ns n ≡ true → P n) → AllByRecursion P ns
all-from P [] each = tt
all-from P (n ∷ ns) each = (
  each n (or_left (n == n) (has_number ns n) (eq-eqb n n refl)),
  all-from P ns (λ m has. each m (or_right (n == m) (has_number ns m) has)),
)

pub all-below : (k n bound : ℕ) → k + n ≤ bound → AllByRecursion (λ p. p < bound) (numbers_from k n)
all-below k zero bound low = tt
all-below k (suc n) bound low = (omega (arith, low), all-below (suc k) n bound (omega (arith, low)))

-- ---- rising lists

above-passing : (test : ℕ → Bool) (n : ℕ) (ms : List ℕ) → IsAbove n ms → IsAbove n (filter test ms)
above-passing test n [] h = tt
above-passing test n (m ∷ ms) h = by (test m) (above-passing test n ms h.1)
  where
    by : (t : Bool) → IsAbove n (filter test ms) → IsAbove n (cond t (m ∷ filter test ms) (filter test ms))
    by true rest = (h.0, rest)
    by false rest = rest

pub rising-passing : (test : ℕ → Bool) (ns : List ℕ) → IsRising ns → IsRising (filter test ns)
rising-passing test [] h = tt
rising-passing test (n ∷ ns) h = by (test n) (rising-passing test ns h.1)
  where
    by : (t : Bool) → IsRising (filter test ns) → IsRising (cond t (n ∷ filter test ns) (filter test ns))
    by true rest = (above-passing test n ns h.0, rest)
    by false rest = rest

above-numbers : (j k n : ℕ) → j < k → IsAbove j (numbers_from k n)
above-numbers j k zero low = tt
above-numbers j k (suc n) low = (low, above-numbers j (suc k) n (omega (arith, low)))

pub rising-numbers : (k n : ℕ) → IsRising (numbers_from k n)
rising-numbers k zero = tt
rising-numbers k (suc n) = (above-numbers k (suc k) n (omega arith), rising-numbers (suc k) n)

-- each number stands first at its own place, from a place on
abbrev pub AllPlaced : List ℕ → ℕ → List ℕ → Type 0
AllPlaced all k [] = ⊤
AllPlaced all k (p ∷ ps) = (place_in p all ≡ k) × AllPlaced all (k + 1) ps

pub place-first : (p : ℕ) (ps : List ℕ) → place_in p (p ∷ ps) ≡ 0
place-first p ps = ap (λ t. cond (not t) (1 + place_in p ps) 0) (eq-eqb p p refl)

pub place-later : (n p : ℕ) (ps : List ℕ) → (n ≡ p → ⊥) → place_in p (n ∷ ps) ≡ 1 + place_in p ps
place-later n p ps apart = ap (λ t. cond (not t) (1 + place_in p ps) 0) (ne_eqb n p apart)

placed-later : (n : ℕ) (all : List ℕ) (k : ℕ) (ps : List ℕ) → IsAbove n ps → AllPlaced all k ps → AllPlaced (n ∷ all) (k + 1) ps
placed-later n all k [] above h = tt
placed-later n all k (p ∷ ps) above h =
    let next : 1 + place_in p all ≡ k + 1 = omega (arith, h.0) in
    let low : n < p = above.0 in
    (place-later n p all (λ same. let none : ⊥ = omega (arith, same, low) in none) ∙ next, placed-later n all (k + 1) ps above.1 h.1)

pub rising-placed : (ns : List ℕ) → IsRising ns → AllPlaced ns 0 ns
rising-placed [] h = tt
rising-placed (n ∷ ns) h = (place-first n ns, placed-later n ns 0 ns h.0 (rising-placed ns h.1))

pub above-has : (n : ℕ) (ms : List ℕ) (m : ℕ) → IsAbove n ms → has_number ms m ≡ true → n < m
above-has n [] m h has = absurd (false≢true has)
above-has n (k ∷ ks) m h has =
    let low : n < k = h.0 in
    ⊎_elim (λ same. let e : k ≡ m = eqb-true k m same in omega (arith, e, low)) (λ later. above-has n ks m h.1 later)
    (or_cases (k == m) (has_number ks m) has)

-- what is less than a number of a rising list stands before it
pub stands-before :
    (before : List ℕ) (n : ℕ) (after : List ℕ) (m : ℕ) → IsRising (before ++ n ∷ after) → has_number (before ++ n ∷ after) m ≡ true → m < n
    → has_number before m ≡ true
stands-before [] n after m h has low =
    ⊎_elim (λ same. let e : n ≡ m = eqb-true n m same in let none : ⊥ = omega (arith, e, low) in absurd none)
    (λ later. let high : n < m = above-has n after m h.0 later in let none : ⊥ = omega (arith, high, low) in absurd none)
    (or_cases (n == m) (has_number after m) has)
stands-before (b ∷ bs) n after m h has low =
    ⊎_elim (λ same. or_left (b == m) (has_number bs m) same)
    (λ later. or_right (b == m) (has_number bs m) (stands-before bs n after m h.1 later low))
    (or_cases (b == m) (has_number (bs ++ n ∷ after) m) has)

-- a number of a rising list that none is greater than stands last
pub stands-last :
    (ns : List ℕ) (n : ℕ) → IsRising ns → has_number ns n ≡ true → ((m : ℕ) → has_number ns m ≡ true → m ≤ n)
    → (front : List ℕ) × (ns ≡ front ++ n ∷ [])
stands-last [] n h has most = absurd (false≢true has)
stands-last (m ∷ []) n h has most =
    ⊎_elim (λ same. ([], ap (λ k. k ∷ []) (eqb-true m n same))) (λ none. absurd (false≢true none)) (or_cases (m == n) false has)
stands-last (m ∷ k ∷ ks) n h has most =
    let low : m < k = (h.0).0 in
    let high : k ≤ n = most k (or_right (m == k) (has_number (k ∷ ks) k) (or_left (k == k) (has_number ks k) (eq-eqb k k refl))) in
    ⊎_elim (λ same. let e : m ≡ n = eqb-true m n same in let none : ⊥ = omega (arith, e, low, high) in absurd none)
    (λ later.
    let rest = stands-last (k ∷ ks) n h.1 later (λ j e. most j (or_right (m == j) (has_number (k ∷ ks) j) e)) in
    (m ∷ rest.0, ap (λ js. m ∷ js) rest.1))
    (or_cases (m == n) (has_number (k ∷ ks) n) has)

-- ---- names of lines

abbrev behind : List ℕ → List ℕ
behind [] = []
behind (b ∷ bs) = bs

name-injective : (n m : ℕ) → n < 2 ^ 64 → m < 2 ^ 64 → line_name n ≡ line_name m → n ≡ m
name-injective n m n_small m_small same = decimal_injective n m n_small m_small (ap behind same)

names-differ : (n m : ℕ) → n < 2 ^ 64 → m < 2 ^ 64 → (n ≡ m → ⊥) → bytes_eq (line_name n) (line_name m) ≡ false
names-differ n m n_small m_small apart =
    false_from_ne_true (bytes_eq (line_name n) (line_name m)) λ same.
    apart (name-injective n m n_small m_small (bytes-same (line_name n) (line_name m) same))

-- lines that have the names in order, from a number on
abbrev pub AreNamed : ℕ → List NamedLine → Type 0
AreNamed k [] = ⊤
AreNamed k (l ∷ ls) = (l.name ≡ line_name k) × AreNamed (k + 1) ls

pub named-joined : (k j : ℕ) (xs ys : List NamedLine) → j ≡ k + length xs → AreNamed k xs → AreNamed j ys → AreNamed k (xs ++ ys)
named-joined k j [] ys j_is h g = let e : j ≡ k = omega (arith, j_is) in subst (λ i. AreNamed i ys) e g
named-joined k j (x ∷ xs) ys j_is h g = (h.0, named-joined (k + 1) j xs ys (omega (arith, j_is)) h.1 g)

-- the next name is new
pub name-new :
    (n k : ℕ) (ls : List NamedLine) → n < 2 ^ 64 → k + length ls ≤ n → AreNamed k ls
    → list_any (λ (l : NamedLine). bytes_eq (line_name n) l.name) ls ≡ false
name-new n k [] small low h = refl
name-new n k (l ∷ ls) small low h =
    or_from (bytes_eq (line_name n) l.name) (list_any (λ (m : NamedLine). bytes_eq (line_name n) m.name) ls)
    (ap (bytes_eq (line_name n)) h.0
    ∙ names-differ n k small (omega (arith, small, low)) (λ same. let none : ⊥ = omega (arith, same, low) in none))
    (name-new n (k + 1) ls small (omega (arith, low)) h.1)

-- and the others are found at their places
pub name-there :
    (n k i : ℕ) (ls : List NamedLine) → n ≡ k + i → i < length ls → k + length ls ≤ 2 ^ 64 → AreNamed k ls
    → position_or_len (λ (l : NamedLine). bytes_eq (line_name n) l.name) ls ≡ i
name-there n k i [] n_is low small h = let none : ⊥ = omega (arith, low) in absurd none
name-there n k zero (l ∷ ls) n_is low small h =
    let e : k ≡ n = omega (arith, n_is) in
    ap (λ t. cond (not t) (1 + position_or_len (λ (m : NamedLine). bytes_eq (line_name n) m.name) ls) 0)
    (ap (bytes_eq (line_name n)) (h.0 ∙ ap line_name e) ∙ bytes-self (line_name n))
name-there n k (suc i) (l ∷ ls) n_is low small h =
    let later = name-there n (k + 1) i ls (omega (arith, n_is)) (omega (arith, low)) (omega (arith, small)) h.1 in
    let next : 1 + position_or_len (λ (m : NamedLine). bytes_eq (line_name n) m.name) ls ≡ suc i = omega (arith, later) in
    let other : bytes_eq (line_name n) l.name ≡ false =
    ap (bytes_eq (line_name n)) h.0
    ∙ names-differ n k (omega (arith, n_is, low, small)) (omega (arith, low, small)) (λ same. let none : ⊥ = omega (arith, same, n_is) in none) in
    ap (λ t. cond (not t) (1 + position_or_len (λ (m : NamedLine). bytes_eq (line_name n) m.name) ls) 0) other ∙ next
