-- The components that are computed are the finest parts that share no variables.
use mathlib.Core.Bool.{beq}
use Rattle.std.proofs.Common.{◌≡◌, ℕ, zero, suc, ◌+◌, ◌<◌, ◌≤◌, Bool, true, false, not, ◌==◌, List, [], ◌∷◌, length, map, cond, refl, ap, ap₂, sym, ◌∙◌, ⊎_elim, arith}
use Rattle.std.specs.Prelude.{filter, flat_map, slice_index, nat_lt, if◌then◌else◌}
use Rattle.std.specs.List.{list_all, range_with_len}
use Rattle.std.proofs.lemmas.Bool.{or_cases, or_left, or_right, and_from, and_parts, eq-eqb, eqb-true, ne_eqb, true≢false, ltb-true}
use Rattle.std.proofs.lemmas.List.Folds.{list_any-append}
use lib.ListN.{length-append}
use Rattle.fol_base.specs.Clause.{TreeLiteral, literal_variables}
use Rattle.kernel_steps.specs.Split.{has_number, has_all_below, is_part, rises_from, literals_at, share_variable, share_no_variables, is_rising}
use Rattle.split_parts.specs.Components.{IsComponents, first_places, is_constant_on}
use Rattle.split_parts.proofs.AboutParts.PlaceLemmas.{all-pass, has-more, passing, has-at_places, follows-variable}
use Rattle.split_parts.proofs.AboutParts.ComponentLemmas.{same-says}
use Rattle.pool_history.specs.Components.{places, component_of, begins_at, components_of}
use Rattle.pool_history.proofs.AboutRecords.FilterLemmas.{in-filter, filter-in, filter-part, filter-rise, length-range, total}
use Rattle.pool_history.proofs.AboutLines.ReachedLemmas.{has-own, component-within, component-follows, same-on_component, component-filtered, same-component}

module _ (ls : List TreeLiteral) where
  -- the first places of the components
  abbrev begins : ℕ → Bool
  begins k = begins_at k (component_of ls k)

  abbrev firsts : List ℕ
  firsts = filter begins (places ls)

  first-says : (k : ℕ) → has_number k firsts ≡ true → (k < length ls) × (begins k ≡ true)
  first-says k h = let is = in-filter begins 0 (length ls) k h in (omega (arith, is.1.0), is.1.1)

  -- ---- the parts, by their first places

  part-of : (k : ℕ) → k < length ls → is_part (component_of ls k) ≡ true
  part-of k below =
      ap is_part (component-filtered ls k below)
      ∙ filter-part (λ j. has_number j (component_of ls k)) 0 (length ls) k
      (filter-in (λ j. has_number j (component_of ls k)) 0 (length ls) k (omega arith) (omega (arith, below)) (has-own ls k below))

  begins-first : (k : ℕ) (ks : List ℕ) → begins_at k ks ≡ true → (rest : List ℕ) × (ks ≡ k ∷ rest)
  begins-first k [] h = absurd (true≢false (sym h))
  begins-first k (j ∷ js) h = (js, ap (λ i. i ∷ js) (sym (eqb-true k j h)))

  -- ---- first places

  first-places : (ks : List ℕ) → ((k : ℕ) → has_number k ks ≡ true → begins k ≡ true) → first_places (map (component_of ls) ks) ≡ ks
  first-places [] each = refl
  first-places (k ∷ ks) each =
      let first = begins-first k (component_of ls k) (each k (or_left (k == k) (has_number k ks) (eq-eqb k k refl))) in
      ap (λ part. first_places (part ∷ map (component_of ls) ks)) first.1
      ∙ ap (λ js. k ∷ js) (first-places ks (λ j h. each j (or_right (j == k) (has_number j ks) h)))

  -- ---- constant properties

  all-parts : (p : List ℕ → Bool) (ks : List ℕ) → ((k : ℕ) → has_number k ks ≡ true → p (component_of ls k) ≡ true) → list_all p (map (component_of ls) ks) ≡ true
  all-parts p [] each = refl
  all-parts p (k ∷ ks) each =
      and_from (p (component_of ls k)) (list_all p (map (component_of ls) ks))
      (each k (or_left (k == k) (has_number k ks) (eq-eqb k k refl)))
      (all-parts p ks (λ j h. each j (or_right (j == k) (has_number j ks) h)))

  constant : (f : ℕ → Bool) (b : Bool) (part : List ℕ) → ((j : ℕ) → has_number j part ≡ true → f j ≡ b) → is_constant_on f part ≡ true
  constant f b [] same = refl
  constant f b (k ∷ ks) same =
      all-pass (λ j. beq (f j) (f k)) ks
      (λ j h. same-says (f j) (f k) (same j (or_right (j == k) (has_number j ks) h) ∙ sym (same k (or_left (k == k) (has_number k ks) (eq-eqb k k refl)))))

  -- ---- no shared variables

  -- a place in two components makes them one
  one-component : (k m j : ℕ) → k < length ls → m < length ls → begins k ≡ true → begins m ≡ true → has_number j (component_of ls k) ≡ true → has_number j (component_of ls m) ≡ true → k ≡ m
  one-component k m j k_below m_below k_first m_first in_k in_m =
      let same : component_of ls k ≡ component_of ls m = sym (same-component ls k j k_below in_k) ∙ same-component ls m j m_below in_m in
      let first = begins-first k (component_of ls k) k_first in
      let other = begins-first m (component_of ls m) m_first in
      let heads : k ∷ first.0 ≡ m ∷ other.0 = sym first.1 ∙ same ∙ other.1 in
      ap (λ ks. slice_index ks 0) heads

  shares-none : (k m : ℕ) → k < length ls → m < length ls → begins k ≡ true → begins m ≡ true → share_variable (literals_at ls (component_of ls k)) (literals_at ls (component_of ls m)) ≡ true → k ≡ m
  shares-none k m k_below m_below k_first m_first shared =
      let found = passing (λ v. has_number v (flat_map literal_variables (literals_at ls (component_of ls m)))) (flat_map literal_variables (literals_at ls (component_of ls k))) shared in
      let one = has-at_places ls found.0 (component_of ls k) found.1.0 in
      let other = has-at_places ls found.0 (component_of ls m) found.1.1 in
      one-component k m one.0 k_below m_below k_first m_first one.1.0
      (follows-variable ls (λ j. has_number j (component_of ls m)) found.0 one.0 other.0 (component-follows ls m m_below) one.1.1 other.1.1 ∙ other.1.0)

  apart : (ks : List ℕ) → is_rising ks ≡ true → ((k : ℕ) → has_number k ks ≡ true → (k < length ls) × (begins k ≡ true)) → share_no_variables (map (literals_at ls) (map (component_of ls) ks)) ≡ true
  apart [] rises each = refl
  apart (k ∷ ks) rises each =
      and_from (list_all (λ js. not (share_variable (literals_at ls (component_of ls k)) js)) (map (literals_at ls) (map (component_of ls) ks)))
      (share_no_variables (map (literals_at ls) (map (component_of ls) ks)))
      (none ks (λ m h. each m (or_right (m == k) (has_number m ks) h)) (λ m h. above k ks rises m h))
      (apart ks (rise-rest k ks rises) (λ m h. each m (or_right (m == k) (has_number m ks) h)))
    where
      own : (k < length ls) × (begins k ≡ true)
      own = each k (or_left (k == k) (has_number k ks) (eq-eqb k k refl))

      above : (k : ℕ) (ks : List ℕ) → rises_from k ks ≡ true → (m : ℕ) → has_number m ks ≡ true → k < m
      above k [] rises m h = absurd (true≢false (sym h))
      above k (j ∷ js) rises m h =
          let parts = and_parts (nat_lt k j) (rises_from j js) rises in
          ⊎_elim
          (λ here. omega (arith, ltb-true k j parts.0, eqb-true m j here))
          (λ later. omega (arith, ltb-true k j parts.0, above j js parts.1 m later))
          (or_cases (m == j) (has_number m js) h)

      rise-rest : (k : ℕ) (ks : List ℕ) → rises_from k ks ≡ true → is_rising ks ≡ true
      rise-rest k [] rises = refl
      rise-rest k (j ∷ js) rises = (and_parts (nat_lt k j) (rises_from j js) rises).1

      negated : (b : Bool) → (b ≡ true → ⊥) → not b ≡ true
      negated true h = absurd (h refl)
      negated false h = refl

      none : (ms : List ℕ) → ((m : ℕ) → has_number m ms ≡ true → (m < length ls) × (begins m ≡ true)) → ((m : ℕ) → has_number m ms ≡ true → k < m) → list_all (λ js. not (share_variable (literals_at ls (component_of ls k)) js)) (map (literals_at ls) (map (component_of ls) ms)) ≡ true
      none [] is higher = refl
      none (m ∷ ms) is higher =
          let this = is m (or_left (m == m) (has_number m ms) (eq-eqb m m refl)) in
          let higher_m : k < m = higher m (or_left (m == m) (has_number m ms) (eq-eqb m m refl)) in
          and_from (not (share_variable (literals_at ls (component_of ls k)) (literals_at ls (component_of ls m))))
          (list_all (λ js. not (share_variable (literals_at ls (component_of ls k)) js)) (map (literals_at ls) (map (component_of ls) ms)))
          (negated (share_variable (literals_at ls (component_of ls k)) (literals_at ls (component_of ls m))) (λ shared. omega (arith, higher_m, shares-none k m own.0 this.0 own.1 this.1 shared)))
          (none ms (λ n h. is n (or_right (n == m) (has_number n ms) h)) (λ n h. higher n (or_right (n == m) (has_number n ms) h)))

  -- ---- all literals

  -- the first place of a place's component
  first-of : (j : ℕ) → j < length ls → (k : ℕ) × ((has_number k firsts ≡ true) × (has_number j (component_of ls k) ≡ true))
  first-of j below = by-head (component_of ls j) refl (part-of j below)
    where
      by-head : (ks : List ℕ) → component_of ls j ≡ ks → is_part ks ≡ true → (k : ℕ) × ((has_number k firsts ≡ true) × (has_number j (component_of ls k) ≡ true))
      by-head [] is part = absurd (true≢false (sym part))
      by-head (k ∷ ks) is part =
          let there : has_number k (component_of ls j) ≡ true = ap (has_number k) is ∙ or_left (k == k) (has_number k ks) (eq-eqb k k refl) in
          let same : component_of ls k ≡ component_of ls j = same-component ls j k below there in
          let k_below : k < length ls = component-within ls j k below there in (
            k,
            (
              filter-in begins 0 (length ls) k (omega arith) (omega (arith, k_below)) (ap (begins_at k) (same ∙ is) ∙ eq-eqb k k refl),
              ap (has_number j) same ∙ has-own ls j below,
            ),
          )

  in-parts : (j k : ℕ) (ks : List ℕ) → has_number k ks ≡ true → has_number j (component_of ls k) ≡ true → has_number j (flat_map (λ part. part) (map (component_of ls) ks)) ≡ true
  in-parts j k [] h there = absurd (true≢false (sym h))
  in-parts j k (m ∷ ms) h there =
      ⊎_elim
      (λ here. has-more j (component_of ls m) (flat_map (λ part. part) (map (component_of ls) ms)) (ap (λ n. has_number j (component_of ls n)) (sym (eqb-true k m here)) ∙ there))
      (λ later.
      list_any-append (λ w. j == w) (component_of ls m) (flat_map (λ part. part) (map (component_of ls) ms))
      ∙ or_right (has_number j (component_of ls m)) (has_number j (flat_map (λ part. part) (map (component_of ls) ms))) (in-parts j k ms later there))
      (or_cases (k == m) (has_number k ms) h)

  all-below : (n : ℕ) → n ≤ length ls → has_all_below n (flat_map (λ part. part) (components_of ls)) ≡ true
  all-below zero within = refl
  all-below (suc n) within =
      let first = first-of n (omega (arith, within)) in
      and_from (has_number n (flat_map (λ part. part) (components_of ls))) (has_all_below n (flat_map (λ part. part) (components_of ls)))
      (in-parts n first.0 firsts first.1.0 first.1.1)
      (all-below n (omega (arith, within)))

  -- ---- as many places as literals

  abbrev one_if : Bool → ℕ
  one_if b = if b then 1 else 0

  count-parts : (ks : List ℕ) → length (flat_map (λ part. part) (map (component_of ls) ks)) ≡ total (λ k. length (component_of ls k)) ks
  count-parts [] = refl
  count-parts (k ∷ ks) = omega (arith, length-append (component_of ls k) (flat_map (λ part. part) (map (component_of ls) ks)), count-parts ks)

  total-alike : (h g : ℕ → ℕ) (ks : List ℕ) → ((k : ℕ) → has_number k ks ≡ true → h k ≡ g k) → total h ks ≡ total g ks
  total-alike h g [] same = refl
  total-alike h g (k ∷ ks) same =
      omega (arith, same k (or_left (k == k) (has_number k ks) (eq-eqb k k refl)), total-alike h g ks (λ j there. same j (or_right (j == k) (has_number j ks) there)))

  total-sum : (h g : ℕ → ℕ) (ks : List ℕ) → total (λ k. h k + g k) ks ≡ total h ks + total g ks
  total-sum h g [] = refl
  total-sum h g (k ∷ ks) = omega (arith, total-sum h g ks)

  total-none : (ks : List ℕ) → total (λ k. 0) ks ≡ 0
  total-none [] = refl
  total-none (k ∷ ks) = omega (arith, total-none ks)

  -- a number stands once in a list that rises
  total-one : (f : ℕ) (ks : List ℕ) → is_rising ks ≡ true → has_number f ks ≡ true → total (λ k. one_if (k == f)) ks ≡ 1
  total-one f [] rises h = absurd (true≢false (sym h))
  total-one f (k ∷ ks) rises h =
      ⊎_elim
      (λ here.
      let same : f ≡ k = eqb-true f k here in
      let this : one_if (k == f) ≡ 1 = ap one_if (eq-eqb k f (sym same)) in
      omega (arith, this, no-more k ks rises same))
      (λ later.
      let lower : k < f = above k ks rises f later in
      let this : one_if (k == f) ≡ 0 = ap one_if (ne_eqb k f (λ (e : k ≡ f). omega (arith, e, lower))) in
      omega (arith, this, total-one f ks (rise-rest k ks rises) later))
      (or_cases (f == k) (has_number f ks) h)
    where
      above : (k : ℕ) (ks : List ℕ) → rises_from k ks ≡ true → (m : ℕ) → has_number m ks ≡ true → k < m
      above k [] rises m h = absurd (true≢false (sym h))
      above k (j ∷ js) rises m h =
          let parts = and_parts (nat_lt k j) (rises_from j js) rises in
          ⊎_elim
          (λ here. omega (arith, ltb-true k j parts.0, eqb-true m j here))
          (λ later. omega (arith, ltb-true k j parts.0, above j js parts.1 m later))
          (or_cases (m == j) (has_number m js) h)

      rise-rest : (k : ℕ) (ks : List ℕ) → rises_from k ks ≡ true → is_rising ks ≡ true
      rise-rest k [] rises = refl
      rise-rest k (j ∷ js) rises = (and_parts (nat_lt k j) (rises_from j js) rises).1

      no-more : (k : ℕ) (ks : List ℕ) → rises_from k ks ≡ true → f ≡ k → total (λ m. one_if (m == f)) ks ≡ 0
      no-more k ks rises same =
          total-alike (λ m. one_if (m == f)) (λ m. 0) ks
          (λ m there.
          let higher : k < m = above k ks rises m there in
          ap one_if (ne_eqb m f (λ (e : m ≡ f). omega (arith, e, same, higher))))
          ∙ total-none ks

  -- each place of a list of places stands in one component
  count-in : (xs : List ℕ) → ((j : ℕ) → has_number j xs ≡ true → j < length ls) → total (λ k. length (filter (λ j. has_number j (component_of ls k)) xs)) firsts ≡ length xs
  count-in [] within = total-none firsts
  count-in (x ∷ xs) within =
      total-alike (λ k. length (filter (λ j. has_number j (component_of ls k)) (x ∷ xs))) (λ k. one_if (has_number x (component_of ls k)) + length (filter (λ j. has_number j (component_of ls k)) xs)) firsts (λ k there. one-more (has_number x (component_of ls k)) (filter (λ j. has_number j (component_of ls k)) xs))
      ∙ total-sum (λ k. one_if (has_number x (component_of ls k))) (λ k. length (filter (λ j. has_number j (component_of ls k)) xs)) firsts
      ∙ ap₂ (λ n m. n + m) here (count-in xs (λ j h. within j (or_right (j == x) (has_number j xs) h)))
      ∙ next
    where
      next : 1 + length xs ≡ length (x ∷ xs)
      next = omega arith

      one-more : (b : Bool) (ys : List ℕ) → length (cond b (x ∷ ys) ys) ≡ one_if b + length ys
      one-more true ys = omega arith
      one-more false ys = omega arith

      x_below : x < length ls
      x_below = within x (or_left (x == x) (has_number x xs) (eq-eqb x x refl))

      first : (k : ℕ) × ((has_number k firsts ≡ true) × (has_number x (component_of ls k) ≡ true))
      first = first-of x x_below

      agree : (b c : Bool) → (b ≡ true → c ≡ true) → (c ≡ true → b ≡ true) → b ≡ c
      agree true c there back = sym (there refl)
      agree false true there back = back refl
      agree false false there back = refl

      only : (k : ℕ) → has_number k firsts ≡ true → has_number x (component_of ls k) ≡ (k == first.0)
      only k there =
          let own = first-says k there in
          let that = first-says first.0 first.1.0 in
          agree (has_number x (component_of ls k)) (k == first.0)
          (λ inside. eq-eqb k first.0 (one-component k first.0 x own.0 that.0 own.1 that.1 inside first.1.1))
          (λ same. ap (λ m. has_number x (component_of ls m)) (eqb-true k first.0 same) ∙ first.1.1)

      here : total (λ k. one_if (has_number x (component_of ls k))) firsts ≡ 1
      here =
          total-alike (λ k. one_if (has_number x (component_of ls k))) (λ k. one_if (k == first.0)) firsts (λ k there. ap one_if (only k there))
          ∙ total-one first.0 firsts (filter-rise begins 0 (length ls)) first.1.0

  range-below : (a n j : ℕ) → has_number j (range_with_len a n) ≡ true → j < a + n
  range-below a zero j h = absurd (true≢false (sym h))
  range-below a (suc n) j h =
      ⊎_elim
      (λ here. omega (arith, eqb-true j a here))
      (λ later. omega (arith, range-below (a + 1) n j later))
      (or_cases (j == a) (has_number j (range_with_len (a + 1) n)) h)

  count-all : length (flat_map (λ part. part) (components_of ls)) ≡ length ls
  count-all =
      count-parts firsts
      ∙ total-alike (λ k. length (component_of ls k)) (λ k. length (filter (λ j. has_number j (component_of ls k)) (places ls))) firsts (λ k there. ap length (component-filtered ls k (first-says k there).0))
      ∙ count-in (places ls) (λ j h. omega (arith, range-below 0 (length ls) j h))
      ∙ length-range 0 (length ls)

  pub computed-finest : IsComponents ls (components_of ls)
  computed-finest = record {
    are_parts = all-parts is_part firsts (λ k h. part-of k (first-says k h).0);
    shared_out =
        and_from (length (flat_map (λ part. part) (components_of ls)) == length ls) (has_all_below (length ls) (flat_map (λ part. part) (components_of ls)))
        (eq-eqb (length (flat_map (λ part. part) (components_of ls))) (length ls) count-all)
        (all-below (length ls) (omega arith));
    apart = apart firsts (filter-rise begins 0 (length ls)) first-says;
    in_order = ap is_rising (first-places firsts (λ k h. (first-says k h).1)) ∙ filter-rise begins 0 (length ls);
    whole = λ f follows. all-parts (is_constant_on f) firsts (λ k h. constant f (f k) (component_of ls k) (λ j there. same-on_component ls f follows k j there));
  }
