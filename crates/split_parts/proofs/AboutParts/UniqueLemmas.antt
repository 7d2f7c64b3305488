-- That two lists of components of the same literals are equal.
use mathlib.Core.Bool.{beq}
use Rattle.std.proofs.Common.{◌≡◌, ℕ, zero, suc, ◌+◌, ◌<◌, ◌≤◌, Bool, true, false, ◌||◌, ◌==◌, List, [], ◌∷◌, length, map, refl, ap, ap₂, sym, ◌∙◌, ◌⊎◌, inl, inr, ⊎_elim, arith}
use Rattle.std.specs.Prelude.{not, slice_index, slice_index_or, nat_lt, flat_map, if◌then◌else◌}
use Rattle.std.specs.List.{list_all}
use Rattle.std.proofs.lemmas.Bool.{and_parts, ltb-true, eq-eqb, eqb-true, true≢false, or_left, or_right, or_cases, not-true, cond-true, cond-false, cases_eq, cases_lt, cases_order, cases_Bool, ne_eqb}
use Rattle.std.proofs.lemmas.List.{length-map}
use Rattle.std.proofs.lemmas.List.Folds.{list_all-map, list_any-append}
use Rattle.std.proofs.lemmas.Map.Steps.{le-length_from_below}
use Rattle.fol_base.specs.Clause.{TreeLiteral, literal_variables}
use Rattle.kernel_steps.specs.Split.{has_number, has_all_below, is_part, rises_from, literals_at, share_variable, share_no_variables, is_rising}
use Rattle.split_parts.specs.Components.{IsComponents, FollowsVariables, first_places, is_constant_on}
use Rattle.split_parts.specs.Forest.{variables_at}
use Rattle.split_parts.proofs.AboutParts.PlaceLemmas.{passing, some-passes, has-in_places, variables_at-within}
use Rattle.split_parts.proofs.AboutParts.GroupLemmas.{first-in}
use Rattle.split_parts.proofs.AboutParts.ComponentLemmas.{has-in_parts}

-- ---- numbers that rise

pub above : (k : ℕ) (ks : List ℕ) (i : ℕ) → rises_from k ks ≡ true → has_number i ks ≡ true → k < i
above k [] i rises h = absurd (true≢false (sym h))
above k (j ∷ ks) i rises h =
    let parts = and_parts (nat_lt k j) (rises_from j ks) rises in
    let first : k < j = ltb-true k j parts.0 in
    ⊎_elim
    (λ here. omega (arith, first, eqb-true i j here))
    (λ later. omega (arith, first, above j ks i parts.1 later))
    (or_cases (i == j) (has_number i ks) h)

pub rise-tail : (k : ℕ) (ks : List ℕ) → rises_from k ks ≡ true → is_rising ks ≡ true
rise-tail k [] h = refl
rise-tail k (j ∷ ks) h = (and_parts (nat_lt k j) (rises_from j ks) h).1

least : (k : ℕ) (ks : List ℕ) (i : ℕ) → rises_from k ks ≡ true → has_number i (k ∷ ks) ≡ true → k ≤ i
least k ks i rises h =
    ⊎_elim (λ here. omega (arith, eqb-true i k here)) (λ later. omega (arith, above k ks i rises later)) (or_cases (i == k) (has_number i ks) h)

has-first : (k : ℕ) (ks : List ℕ) → has_number k (k ∷ ks) ≡ true
has-first k ks = or_left (k == k) (has_number k ks) (eq-eqb k k refl)

absent : (k : ℕ) (ks : List ℕ) → rises_from k ks ≡ true → has_number k ks ≡ false
absent k ks rises = ⊎_elim (λ h. absurd (omega (arith, above k ks k rises h))) (λ h. h) (cases_Bool (has_number k ks))

-- lists that rise are equal where they have the same numbers
rise-equal : (ks js : List ℕ) → is_rising ks ≡ true → is_rising js ≡ true → ((i : ℕ) → has_number i ks ≡ has_number i js) → ks ≡ js
rise-equal [] [] one other same = refl
rise-equal [] (j ∷ js) one other same = absurd (true≢false (sym (has-first j js) ∙ sym (same j)))
rise-equal (k ∷ ks) [] one other same = absurd (true≢false (sym (has-first k ks) ∙ same k))
rise-equal (k ∷ ks) (j ∷ js) one other same =
    let low : j ≤ k = least j js k other (sym (same k) ∙ has-first k ks) in
    let high : k ≤ j = least k ks j one (same j ∙ has-first j js) in
    let first : k ≡ j = omega (arith, low, high) in
    ap₂ ◌∷◌ first
    (rise-equal ks js (rise-tail k ks one) (rise-tail j js other)
    (λ i.
    ⊎_elim
    (λ e. ap (λ n. has_number n ks) e ∙ absent k ks one ∙ sym (absent j js other) ∙ ap (λ n. has_number n js) (sym (e ∙ first)))
    (λ differ.
    ap (λ b. b || has_number i ks) (sym (ne_eqb i k differ))
    ∙ same i
    ∙ ap (λ b. b || has_number i js) (ne_eqb i j (λ e. differ (e ∙ sym first))))
    (cases_eq i k)))

pub part-rises : (part : List ℕ) → is_part part ≡ true → is_rising part ≡ true
part-rises [] h = absurd (true≢false (sym h))
part-rises (k ∷ ks) h = h

-- ---- parts in the order of their first places

first-later :
    (k : ℕ) (parts : List (List ℕ)) (a : ℕ)
    → list_all is_part parts ≡ true → rises_from k (first_places parts) ≡ true → a < length parts → k < slice_index (slice_index_or parts a []) 0
first-later k [] a each rises within = absurd (omega (arith, within))
first-later k ([] ∷ parts) a each rises within = absurd (true≢false (sym (and_parts false (list_all is_part parts) each).0))
first-later k ((j ∷ js) ∷ parts) zero each rises within = ltb-true k j (and_parts (nat_lt k j) (rises_from j (first_places parts)) rises).0
first-later k ((j ∷ js) ∷ parts) (suc a) each rises within =
    let pair = and_parts (nat_lt k j) (rises_from j (first_places parts)) rises in
    let later : j < slice_index (slice_index_or parts a []) 0 =
    first-later j parts a (and_parts (is_part (j ∷ js)) (list_all is_part parts) each).1 pair.1 (omega (arith, within)) in
    omega (arith, ltb-true k j pair.0, later)

-- each part of the first list is one of the second
abbrev AreAmong : List (List ℕ) → List (List ℕ) → Type 0
AreAmong parts others = (a : ℕ) → a < length parts → (b : ℕ) × ((b < length others) × (slice_index_or parts a [] ≡ slice_index_or others b []))

among-tail :
    (k j : ℕ) (ks js : List ℕ) (parts others : List (List ℕ))
    → k ≡ j → list_all is_part parts ≡ true → rises_from k (first_places parts) ≡ true
    → AreAmong ((k ∷ ks) ∷ parts) ((j ∷ js) ∷ others) → AreAmong parts others
among-tail k j ks js parts others same each rises among a within =
    let found = among (suc a) (omega (arith, within)) in
    by found.0 found.1.0 found.1.1
  where
    by :
        (b : ℕ) → b < length ((j ∷ js) ∷ others) → slice_index_or parts a [] ≡ slice_index_or ((j ∷ js) ∷ others) b []
        → (b' : ℕ) × ((b' < length others) × (slice_index_or parts a [] ≡ slice_index_or others b' []))
    by zero h e =
        let first : slice_index (slice_index_or parts a []) 0 ≡ j = ap (λ part. slice_index part 0) e in
        absurd (omega (arith, first, same, first-later k parts a each rises within))
    by (suc b) h e = (b, (omega (arith, h), e))

first-least :
    (k j : ℕ) (ks js : List ℕ) (parts others : List (List ℕ))
    → list_all is_part others ≡ true → rises_from j (first_places others) ≡ true → AreAmong ((k ∷ ks) ∷ parts) ((j ∷ js) ∷ others)
    → (j < k) ⊎ (k ∷ ks ≡ j ∷ js)
first-least k j ks js parts others each rises among = let found = among 0 (omega arith) in by found.0 found.1.0 found.1.1
  where
    by : (b : ℕ) → b < length ((j ∷ js) ∷ others) → k ∷ ks ≡ slice_index_or ((j ∷ js) ∷ others) b [] → (j < k) ⊎ (k ∷ ks ≡ j ∷ js)
    by zero h e = inr e
    by (suc b) h e =
        let first : k ≡ slice_index (slice_index_or others b []) 0 = ap (λ part. slice_index part 0) e in
        inl (omega (arith, first, first-later j others b each rises (omega (arith, h))))

parts-equal :
    (parts others : List (List ℕ))
    → list_all is_part parts ≡ true → list_all is_part others ≡ true
    → is_rising (first_places parts) ≡ true → is_rising (first_places others) ≡ true
    → AreAmong parts others → AreAmong others parts → parts ≡ others
parts-equal [] [] each each' order order' among among' = refl
parts-equal [] (part ∷ others) each each' order order' among among' = absurd (let found = among' 0 (omega arith) in omega (arith, found.1.0))
parts-equal (part ∷ parts) [] each each' order order' among among' = absurd (let found = among 0 (omega arith) in omega (arith, found.1.0))
parts-equal ([] ∷ parts) (other ∷ others) each each' order order' among among' = absurd (true≢false (sym (and_parts false (list_all is_part parts) each).0))
parts-equal ((k ∷ ks) ∷ parts) ([] ∷ others) each each' order order' among among' = absurd (true≢false (sym (and_parts false (list_all is_part others) each').0))
parts-equal ((k ∷ ks) ∷ parts) ((j ∷ js) ∷ others) each each' order order' among among' =
    let one = (and_parts (is_part (k ∷ ks)) (list_all is_part parts) each).1 in
    let other = (and_parts (is_part (j ∷ js)) (list_all is_part others) each').1 in
    let first : k ∷ ks ≡ j ∷ js =
    ⊎_elim
    (λ (low : j < k).
    ⊎_elim (λ (high : k < j). absurd (omega (arith, low, high))) (λ e. sym e)
    (first-least j k js ks others parts one order among'))
    (λ e. e)
    (first-least k j ks js parts others other order' among) in
    let same : k ≡ j = ap (λ part. slice_index part 0) first in
    ap₂ ◌∷◌ first
    (parts-equal parts others one other (rise-tail k (first_places parts) order) (rise-tail j (first_places others) order')
    (among-tail k j ks js parts others same one order among)
    (among-tail j k js ks others parts (sym same) other order' among'))

-- ---- parts that share out the literals

pub passes-at : {X : Type 0} (p : X → Bool) (xs : List X) (d : X) (i : ℕ) → list_all p xs ≡ true → i < length xs → p (slice_index_or xs i d) ≡ true
passes-at p [] d i each within = absurd (omega (arith, within))
passes-at p (x ∷ xs) d zero each within = (and_parts (p x) (list_all p xs) each).0
passes-at p (x ∷ xs) d (suc i) each within = passes-at p xs d i (and_parts (p x) (list_all p xs) each).1 (omega (arith, within))

has-part :
    (j : ℕ) (parts : List (List ℕ))
    → has_number j (flat_map (λ ks. ks) parts) ≡ true → (p : ℕ) × ((p < length parts) × (has_number j (slice_index_or parts p []) ≡ true))
has-part j [] h = absurd (true≢false (sym h))
has-part j (part ∷ parts) h =
    ⊎_elim
    (λ here. (0, (omega arith, here)))
    (λ there. let later = has-part j parts there in (suc later.0, (omega (arith, later.1.0), later.1.1)))
    (or_cases (has_number j part) (has_number j (flat_map (λ ks. ks) parts)) (sym (list_any-append (λ w. j == w) part (flat_map (λ ks. ks) parts)) ∙ h))

each-below : (n : ℕ) (ks : List ℕ) (j : ℕ) → has_all_below n ks ≡ true → j < n → has_number j ks ≡ true
each-below zero ks j all below = absurd (omega (arith, below))
each-below (suc n) ks j all below =
    let pair = and_parts (has_number n ks) (has_all_below n ks) all in
    ⊎_elim
    (λ (e : j ≡ n). ap (λ i. has_number i ks) e ∙ pair.0)
    (λ differ. each-below n ks j pair.1 (omega (arith, below, differ)))
    (cases_eq j n)

mapped-has : (f : ℕ → ℕ) (ks : List ℕ) (i : ℕ) → has_number i ks ≡ true → has_number (f i) (map f ks) ≡ true
mapped-has f [] i h = absurd (true≢false (sym h))
mapped-has f (k ∷ ks) i h =
    ⊎_elim
    (λ here. or_left (f i == f k) (has_number (f i) (map f ks)) (eq-eqb (f i) (f k) (ap f (eqb-true i k here))))
    (λ later. or_right (f i == f k) (has_number (f i) (map f ks)) (mapped-has f ks i later))
    (or_cases (i == k) (has_number i ks) h)

-- as many numbers as there are below a bound, with each of these among them: there are no others
pub none-past :
    (n : ℕ) (ks : List ℕ) (j : ℕ) → length ks ≡ n → has_all_below n ks ≡ true → has_number j ks ≡ true → j < n
none-past n ks j count all h = ⊎_elim (λ below. below) past (cases_lt j n)
  where
    past : n ≤ j → j < n
    past over =
        let many : n + 1 ≤ length (map (λ i. if i == j then n else i) ks) =
        le-length_from_below (map (λ i. if i == j then n else i) ks) (n + 1) (λ q below.
        ⊎_elim
        (λ (e : q ≡ n).
        ap (λ m. has_number m (map (λ i. if i == j then n else i) ks)) (e ∙ sym (cond-true (j == j) n j (eq-eqb j j refl)))
        ∙ mapped-has (λ i. if i == j then n else i) ks j h)
        (λ differ.
        let low : q < n = omega (arith, below, differ) in
        let other : (q == j) ≡ false = ne_eqb q j (λ e. omega (arith, e, low, over)) in
        ap (λ m. has_number m (map (λ i. if i == j then n else i) ks)) (sym (cond-false (q == j) n q other))
        ∙ mapped-has (λ i. if i == j then n else i) ks q (each-below n ks q all low))
        (cases_eq q n)) in
        absurd (omega (arith, many, length-map ks (λ i. if i == j then n else i), count))

apart-at :
    (ls : List TreeLiteral) (parts : List (List ℕ)) (a b : ℕ)
    → share_no_variables (map (literals_at ls) parts) ≡ true → a < b → b < length parts
    → share_variable (literals_at ls (slice_index_or parts a [])) (literals_at ls (slice_index_or parts b [])) ≡ false
apart-at ls [] a b apart less within = absurd (omega (arith, within))
apart-at ls (part ∷ parts) a zero apart less within = absurd (omega (arith, less))
apart-at ls (part ∷ parts) zero (suc b) apart less within =
    let pair = and_parts (list_all (λ ks. not (share_variable (literals_at ls part) ks)) (map (literals_at ls) parts)) (share_no_variables (map (literals_at ls) parts)) apart in
    not-true (share_variable (literals_at ls part) (literals_at ls (slice_index_or parts b [])))
    (passes-at (λ ks. not (share_variable (literals_at ls part) (literals_at ls ks))) parts [] b
    (sym (list_all-map (λ ks. not (share_variable (literals_at ls part) ks)) (literals_at ls) parts) ∙ pair.0) (omega (arith, within)))
apart-at ls (part ∷ parts) (suc a) (suc b) apart less within =
    let pair = and_parts (list_all (λ ks. not (share_variable (literals_at ls part) ks)) (map (literals_at ls) parts)) (share_no_variables (map (literals_at ls) parts)) apart in
    apart-at ls parts a b pair.1 (omega (arith, less)) (omega (arith, within))

same-from : (a b : Bool) → beq a b ≡ true → a ≡ b
same-from true true e = refl
same-from true false e = absurd (true≢false (sym e))
same-from false true e = absurd (true≢false (sym e))
same-from false false e = refl

pub constant-first : (f : ℕ → Bool) (part : List ℕ) (j : ℕ) → is_constant_on f part ≡ true → has_number j part ≡ true → f j ≡ f (slice_index part 0)
constant-first f [] j constant h = absurd (true≢false (sym h))
constant-first f (k ∷ ks) j constant h =
    ⊎_elim
    (λ here. ap f (eqb-true j k here))
    (λ later. same-from (f j) (f k) (all-at ks constant later))
    (or_cases (j == k) (has_number j ks) h)
  where
    all-at : (is : List ℕ) → list_all (λ i. beq (f i) (f k)) is ≡ true → has_number j is ≡ true → beq (f j) (f k) ≡ true
    all-at [] all there = absurd (true≢false (sym there))
    all-at (i ∷ is) all there =
        let pair = and_parts (beq (f i) (f k)) (list_all (λ m. beq (f m) (f k)) is) all in
        ⊎_elim
        (λ first. ap (λ m. beq (f m) (f k)) (eqb-true j i first) ∙ pair.0)
        (λ later. all-at is pair.1 later)
        (or_cases (j == i) (has_number j is) there)

iff-same : (a b : Bool) → (a ≡ true → b ≡ true) → (b ≡ true → a ≡ true) → a ≡ b
iff-same true b f g = sym (f refl)
iff-same false true f g = g refl
iff-same false false f g = refl

-- ---- components

module _ (ls : List TreeLiteral) (parts : List (List ℕ)) (is : IsComponents ls parts) where
  pub shared : (length (flat_map (λ ks. ks) parts) ≡ length ls) × (has_all_below (length ls) (flat_map (λ ks. ks) parts) ≡ true)
  shared =
      let pair = and_parts (length (flat_map (λ ks. ks) parts) == length ls) (has_all_below (length ls) (flat_map (λ ks. ks) parts)) is.shared_out in
      (eqb-true (length (flat_map (λ ks. ks) parts)) (length ls) pair.0, pair.1)

  -- each place below the literals' count is in a part
  place-part : (j : ℕ) → j < length ls → (p : ℕ) × ((p < length parts) × (has_number j (slice_index_or parts p []) ≡ true))
  place-part j below = has-part j parts (each-below (length ls) (flat_map (λ ks. ks) parts) j shared.1 below)

  -- two places whose literals share a variable are in the same part
  joined-part :
      (a : ℕ) (i j v : ℕ)
      → a < length parts → has_number v (variables_at ls i) ≡ true → has_number v (variables_at ls j) ≡ true
      → has_number i (slice_index_or parts a []) ≡ true → has_number j (slice_index_or parts a []) ≡ true
  joined-part a i j v within one other here =
      let found = place-part j (variables_at-within ls v j other) in
      let b : ℕ = found.0 in
      let left : has_number v (flat_map literal_variables (literals_at ls (slice_index_or parts a []))) ≡ true =
      has-in_places ls v i (slice_index_or parts a []) here one in
      let right : has_number v (flat_map literal_variables (literals_at ls (slice_index_or parts b []))) ≡ true =
      has-in_places ls v j (slice_index_or parts b []) found.1.1 other in
      ⊎_elim
      (λ (e : a ≡ b). ap (λ p. has_number j (slice_index_or parts p [])) e ∙ found.1.1)
      (λ differ.
      ⊎_elim
      (λ (less : a < b). absurd (true≢false
      (sym (some-passes (λ w. has_number w (flat_map literal_variables (literals_at ls (slice_index_or parts b [])))) v
      (flat_map literal_variables (literals_at ls (slice_index_or parts a []))) left right)
      ∙ apart-at ls parts a b is.apart less found.1.0)))
      (λ (less : b < a). absurd (true≢false
      (sym (some-passes (λ w. has_number w (flat_map literal_variables (literals_at ls (slice_index_or parts a [])))) v
      (flat_map literal_variables (literals_at ls (slice_index_or parts b []))) right left)
      ∙ apart-at ls parts b a is.apart less within)))
      differ)
      (cases_order a b)

  -- to be in a part follows variables
  pub part-follows : (a : ℕ) → a < length parts → FollowsVariables ls (λ j. has_number j (slice_index_or parts a []))
  part-follows a within i j share =
      let found = passing (λ v. has_number v (variables_at ls j)) (variables_at ls i) share in
      iff-same (has_number i (slice_index_or parts a [])) (has_number j (slice_index_or parts a []))
      (joined-part a i j found.0 within found.1.0 found.1.1)
      (joined-part a j i found.0 within found.1.1 found.1.0)

  -- the first place of a part is one of the literals'
  first-below : (a : ℕ) → a < length parts → slice_index (slice_index_or parts a []) 0 < length ls
  first-below a within =
      none-past (length ls) (flat_map (λ ks. ks) parts) (slice_index (slice_index_or parts a []) 0) shared.0 shared.1
      (has-in_parts (slice_index (slice_index_or parts a []) 0) parts a within
      (first-in (slice_index_or parts a []) (passes-at is_part parts [] a is.are_parts within)))

-- each part is one of the others
among-others : (ls : List TreeLiteral) (parts others : List (List ℕ)) → IsComponents ls parts → IsComponents ls others → AreAmong parts others
among-others ls parts others is other a within =
    let part : List ℕ = slice_index_or parts a [] in
    let k : ℕ = slice_index part 0 in
    let found = place-part ls others other k (first-below ls parts is a within) in
    let b : ℕ = found.0 in
    let its : List ℕ = slice_index_or others b [] in
    let rises : is_part part ≡ true = passes-at is_part parts [] a is.are_parts within in
    let rises' : is_part its ≡ true = passes-at is_part others [] b other.are_parts found.1.0 in
    let one : is_constant_on (λ j. has_number j its) part ≡ true =
    passes-at (is_constant_on (λ j. has_number j its)) parts [] a
    (is.whole (λ j. has_number j its) (part-follows ls others other b found.1.0)) within in
    let two : is_constant_on (λ j. has_number j part) its ≡ true =
    passes-at (is_constant_on (λ j. has_number j part)) others [] b
    (other.whole (λ j. has_number j part) (part-follows ls parts is a within)) found.1.0 in (
      b,
      (
        found.1.0,
        rise-equal part its (part-rises part rises) (part-rises its rises')
            (λ i.
            iff-same (has_number i part) (has_number i its)
            (λ here. constant-first (λ j. has_number j its) part i one here ∙ found.1.1)
            (λ here.
            constant-first (λ j. has_number j part) its i two here
            ∙ sym (constant-first (λ j. has_number j part) its k two found.1.1)
            ∙ first-in part rises)),
      ),
    )

pub components-unique : (ls : List TreeLiteral) (parts others : List (List ℕ)) → IsComponents ls parts → IsComponents ls others → parts ≡ others
components-unique ls parts others is other =
    parts-equal parts others is.are_parts other.are_parts is.in_order other.in_order
    (among-others ls parts others is other) (among-others ls others parts other is)
