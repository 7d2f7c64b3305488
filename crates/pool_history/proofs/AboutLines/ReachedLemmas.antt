-- The components that are computed: closed under shared variables, and no larger than that asks.
use Rattle.std.proofs.Common.{◌≡◌, ℕ, zero, suc, ◌+◌, ◌<◌, ◌≤◌, Bool, true, false, ◌||◌, ◌==◌, ◌⊎◌, List, [], ◌∷◌, length, refl, ap, sym, ◌∙◌, inl, inr, ⊎_elim, arith}
use Rattle.std.specs.Prelude.{filter, flat_map}
use Rattle.std.specs.List.{list_all, range_with_len}
use Rattle.std.proofs.lemmas.Bool.{cases_Bool, or_cases, or_left, or_right, true≢false, and_parts, and_cases, eqb-true, eqb-false, eq-eqb}
use Rattle.fol_base.specs.Clause.{TreeLiteral, literal_variables}
use Rattle.kernel_steps.specs.Split.{has_number, literals_at, share_variable}
use Rattle.split_parts.specs.Components.{FollowsVariables}
use Rattle.split_parts.specs.Forest.{variables_at}
use Rattle.split_parts.proofs.AboutParts.PlaceLemmas.{has-one, one-says, passing, some-passes, follows-variable, has-at_places, has-in_places, variables_at-within}
use Rattle.pool_history.specs.Components.{places, reached, reached_in, component_of}
use Rattle.pool_history.proofs.AboutRecords.FilterLemmas.{in-filter, filter-in, filter-alike, filter-grows, filter-length, length-range}

module _ (ls : List TreeLiteral) where
  -- the literal at a place shares a variable with one at a place of the list
  abbrev linked : ℕ → List ℕ → Bool
  linked j ks = share_variable (literals_at ls (j ∷ [])) (literals_at ls ks)

  -- so there is a place in the list, and a variable at both
  linked-by : (j : ℕ) (ks : List ℕ) → linked j ks ≡ true → (i : ℕ) × ((v : ℕ) × ((has_number i ks ≡ true) × ((has_number v (variables_at ls j) ≡ true) × (has_number v (variables_at ls i) ≡ true))))
  linked-by j ks h =
      let found = passing (λ v. has_number v (flat_map literal_variables (literals_at ls ks))) (variables_at ls j) h in
      let at = has-at_places ls found.0 ks found.1.1 in
      (at.0, (found.0, (at.1.0, (found.1.0, at.1.1))))

  linked-from : (i j v : ℕ) (ks : List ℕ) → has_number i ks ≡ true → has_number v (variables_at ls j) ≡ true → has_number v (variables_at ls i) ≡ true → linked j ks ≡ true
  linked-from i j v ks there one other =
      some-passes (λ w. has_number w (flat_map literal_variables (literals_at ls ks))) v (variables_at ls j) one (has-in_places ls v i ks there other)

  -- ---- one step

  pub reached-says : (ks : List ℕ) (j : ℕ) → has_number j (reached ls ks) ≡ true → (j < length ls) × ((has_number j ks ≡ true) ⊎ (linked j ks ≡ true))
  reached-says ks j h =
      let is = in-filter (λ i. has_number i ks || linked i ks) 0 (length ls) j h in
      (omega (arith, is.1.0), or_cases (has_number j ks) (linked j ks) is.1.1)

  reached-from : (ks : List ℕ) (j : ℕ) → j < length ls → (has_number j ks || linked j ks) ≡ true → has_number j (reached ls ks) ≡ true
  reached-from ks j within h = filter-in (λ i. has_number i ks || linked i ks) 0 (length ls) j (omega arith) (omega (arith, within)) h

  -- all places of a list are those of literals
  abbrev AreWithin : List ℕ → Type 0
  AreWithin ks = (j : ℕ) → has_number j ks ≡ true → j < length ls

  reached-within : (ks : List ℕ) → AreWithin (reached ls ks)
  reached-within ks j h = (reached-says ks j h).0

  keeps : (ks : List ℕ) (j : ℕ) → AreWithin ks → has_number j ks ≡ true → has_number j (reached ls ks) ≡ true
  keeps ks j within h = reached-from ks j (within j h) (or_left (has_number j ks) (linked j ks) h)

  pub keeps-in : (m : ℕ) (ks : List ℕ) (j : ℕ) → AreWithin ks → has_number j ks ≡ true → has_number j (reached_in m ls ks) ≡ true
  keeps-in zero ks j within h = h
  keeps-in (suc m) ks j within h = keeps-in m (reached ls ks) j (reached-within ks) (keeps ks j within h)

  within-in : (m : ℕ) (ks : List ℕ) → AreWithin ks → AreWithin (reached_in m ls ks)
  within-in zero ks within = within
  within-in (suc m) ks within = within-in m (reached ls ks) (reached-within ks)

  -- ---- no larger: what follows variables is the same on what is reached

  same-on : (f : ℕ → Bool) (b : Bool) → FollowsVariables ls f → (m : ℕ) (ks : List ℕ) → ((j : ℕ) → has_number j ks ≡ true → f j ≡ b) → (j : ℕ) → has_number j (reached_in m ls ks) ≡ true → f j ≡ b
  same-on f b follows zero ks same j h = same j h
  same-on f b follows (suc m) ks same j h = same-on f b follows m (reached ls ks) next j h
    where
      next : (i : ℕ) → has_number i (reached ls ks) ≡ true → f i ≡ b
      next i there =
          ⊎_elim
          (λ old. same i old)
          (λ link.
          let by = linked-by i ks link in
          follows-variable ls f by.1.0 i by.0 follows by.1.1.1.0 by.1.1.1.1 ∙ same by.0 by.1.1.0)
          (reached-says ks i there).1

  pub same-on_component : (f : ℕ → Bool) → FollowsVariables ls f → (k j : ℕ) → has_number j (component_of ls k) ≡ true → f j ≡ f k
  same-on_component f follows k j h = same-on f (f k) follows (length ls) (k ∷ []) (λ i there. ap f (one-says i k there)) j h

  -- ---- closed

  abbrev IsClosed : List ℕ → Type 0
  IsClosed ks = (j : ℕ) → has_number j (reached ls ks) ≡ true → has_number j ks ≡ true

  closed-next : (ks : List ℕ) → IsClosed ks → IsClosed (reached ls ks)
  closed-next ks closed j h =
      let is = reached-says (reached ls ks) j h in
      ⊎_elim
      (λ old. old)
      (λ link.
      let by = linked-by j (reached ls ks) link in
      reached-from ks j is.0
      (or_right (has_number j ks) (linked j ks) (linked-from by.0 j by.1.0 ks (closed by.0 by.1.1.0) by.1.1.1.0 by.1.1.1.1)))
      is.1

  closed-stays : (m : ℕ) (ks : List ℕ) → IsClosed ks → IsClosed (reached_in m ls ks)
  closed-stays zero ks closed = closed
  closed-stays (suc m) ks closed = closed-stays m (reached ls ks) (closed-next ks closed)

  -- how many places of literals stand in a list
  abbrev size : List ℕ → ℕ
  size ks = length (filter (λ j. has_number j ks) (places ls))

  above : (i a : ℕ) → a ≤ i → (i == a) ≡ false → a + 1 ≤ i
  above i a low other = omega (arith, low, eqb-false i a other)

  grows : (ks : List ℕ) (j : ℕ) → AreWithin ks → has_number j (reached ls ks) ≡ true → has_number j ks ≡ false → size ks < size (reached ls ks)
  grows ks j within there missing =
      filter-grows (λ i. has_number i ks) (λ i. has_number i (reached ls ks)) (places ls) j (λ i h. keeps ks i within h)
      (everywhere j (reached-within ks j there)) there missing
    where
      everywhere : (i : ℕ) → i < length ls → has_number i (places ls) ≡ true
      everywhere i below = in-range i 0 (length ls) (omega arith) (omega (arith, below))
        where
          in-range : (i a n : ℕ) → a ≤ i → i < a + n → has_number i (range_with_len a n) ≡ true
          in-range i a zero low high = absurd (omega (arith, low, high))
          in-range i a (suc n) low high =
              ⊎_elim
              (λ here. or_left (i == a) (has_number i (range_with_len (a + 1) n)) here)
              (λ other. or_right (i == a) (has_number i (range_with_len (a + 1) n)) (in-range i (a + 1) n (above i a low other) (omega (arith, high))))
              (cases_Bool (i == a))

  -- a list is closed, or something new is reached
  closed-or_grows : (ks : List ℕ) → AreWithin ks → IsClosed ks ⊎ (size ks < size (reached ls ks))
  closed-or_grows ks within =
      ⊎_elim
      (λ all. inl (λ j h. each (reached ls ks) all j h))
      (λ some. inr (let found = new (reached ls ks) some in grows ks found.0 within found.1.0 found.1.1))
      (cases_Bool (list_all (λ j. has_number j ks) (reached ls ks)))
    where
      each : (js : List ℕ) → list_all (λ j. has_number j ks) js ≡ true → (j : ℕ) → has_number j js ≡ true → has_number j ks ≡ true
      each [] all j h = absurd (true≢false (sym h))
      each (i ∷ js) all j h =
          let parts = and_parts (has_number i ks) (list_all (λ k. has_number k ks) js) all in
          ⊎_elim
          (λ here. ap (λ k. has_number k ks) (eqb-true j i here) ∙ parts.0)
          (λ later. each js parts.1 j later)
          (or_cases (j == i) (has_number j js) h)

      new : (js : List ℕ) → list_all (λ j. has_number j ks) js ≡ false → (j : ℕ) × ((has_number j js ≡ true) × (has_number j ks ≡ false))
      new [] some = absurd (true≢false some)
      new (i ∷ js) some =
          ⊎_elim
          (λ here. (i, (or_left (i == i) (has_number i js) (eq-eqb i i refl), here)))
          (λ later. let rest = new js later in (rest.0, (or_right (rest.0 == i) (has_number rest.0 js) rest.1.0, rest.1.1)))
          (and_cases (has_number i ks) (list_all (λ k. has_number k ks) js) some)

  size-bound : (ks : List ℕ) → size ks ≤ length ls
  size-bound ks = omega (arith, filter-length (λ j. has_number j ks) (places ls), length-range 0 (length ls))

  -- after as many steps as there are literals nothing new is reached
  closed-in : (m : ℕ) (ks : List ℕ) → AreWithin ks → length ls < size ks + m → IsClosed (reached_in m ls ks)
  closed-in zero ks within enough = absurd (omega (arith, enough, size-bound ks))
  closed-in (suc m) ks within enough =
      ⊎_elim
      (λ closed. closed-stays m (reached ls ks) (closed-next ks closed))
      (λ more. closed-in m (reached ls ks) (reached-within ks) (omega (arith, more, enough)))
      (closed-or_grows ks within)

  one-within : (k : ℕ) → k < length ls → AreWithin (k ∷ [])
  one-within k below j h = omega (arith, one-says j k h, below)

  pub has-own : (k : ℕ) → k < length ls → has_number k (component_of ls k) ≡ true
  has-own k below = keeps-in (length ls) (k ∷ []) k (one-within k below) (has-one k)

  pub component-within : (k j : ℕ) → k < length ls → has_number j (component_of ls k) ≡ true → j < length ls
  component-within k j below h = within-in (length ls) (k ∷ []) (one-within k below) j h

  pub component-closed : (k : ℕ) → k < length ls → IsClosed (component_of ls k)
  component-closed k below = closed-in (length ls) (k ∷ []) (one-within k below) (omega (arith, one-there))
    where
      one-there : 0 < size (k ∷ [])
      one-there = has-some (filter (λ j. has_number j (k ∷ [])) (places ls)) k (filter-in (λ j. has_number j (k ∷ [])) 0 (length ls) k (omega arith) (omega (arith, below)) (has-one k))
        where
          has-some : (xs : List ℕ) (j : ℕ) → has_number j xs ≡ true → 0 < length xs
          has-some [] j h = absurd (true≢false (sym h))
          has-some (x ∷ xs) j h = omega arith

  -- ---- places in a component

  -- being in a component follows variables
  pub component-follows : (k : ℕ) → k < length ls → FollowsVariables ls (λ j. has_number j (component_of ls k))
  component-follows k below i j shared = agree (has_number i (component_of ls k)) (has_number j (component_of ls k)) forth back
    where
      agree : (b c : Bool) → (b ≡ true → c ≡ true) → (c ≡ true → b ≡ true) → b ≡ c
      agree true c there back = sym (there refl)
      agree false true there back = back refl
      agree false false there back = refl

      by : (i' : ℕ) × ((v : ℕ) × ((has_number i' (j ∷ []) ≡ true) × ((has_number v (variables_at ls i) ≡ true) × (has_number v (variables_at ls i') ≡ true))))
      by = linked-by i (j ∷ []) shared

      at_j : has_number by.1.0 (variables_at ls j) ≡ true
      at_j = ap (λ n. has_number by.1.0 (variables_at ls n)) (sym (one-says by.0 j by.1.1.0)) ∙ by.1.1.1.1

      step : (from to v : ℕ) → has_number v (variables_at ls from) ≡ true → has_number v (variables_at ls to) ≡ true → has_number from (component_of ls k) ≡ true → has_number to (component_of ls k) ≡ true
      step from to v one other there =
          component-closed k below to
          (reached-from (component_of ls k) to (variables_at-within ls v to other)
          (or_right (has_number to (component_of ls k)) (linked to (component_of ls k)) (linked-from from to v (component_of ls k) there other one)))

      forth : has_number i (component_of ls k) ≡ true → has_number j (component_of ls k) ≡ true
      forth there = step i j by.1.0 by.1.1.1.0 at_j there

      back : has_number j (component_of ls k) ≡ true → has_number i (component_of ls k) ≡ true
      back there = step j i by.1.0 at_j by.1.1.1.0 there

  -- the component of a place in a component has the same places
  pub same-places : (k j : ℕ) → k < length ls → has_number j (component_of ls k) ≡ true → (i : ℕ) → has_number i (component_of ls j) ≡ has_number i (component_of ls k)
  same-places k j below there i = agree (has_number i (component_of ls j)) (has_number i (component_of ls k)) forth back
    where
      agree : (b c : Bool) → (b ≡ true → c ≡ true) → (c ≡ true → b ≡ true) → b ≡ c
      agree true c there back = sym (there refl)
      agree false true there back = back refl
      agree false false there back = refl

      j_below : j < length ls
      j_below = component-within k j below there

      forth : has_number i (component_of ls j) ≡ true → has_number i (component_of ls k) ≡ true
      forth h = same-on_component (λ n. has_number n (component_of ls k)) (component-follows k below) j i h ∙ there

      k_there : has_number k (component_of ls j) ≡ true
      k_there = sym (same-on_component (λ n. has_number n (component_of ls j)) (component-follows j j_below) k j there) ∙ has-own j j_below

      back : has_number i (component_of ls k) ≡ true → has_number i (component_of ls j) ≡ true
      back h = same-on_component (λ n. has_number n (component_of ls j)) (component-follows j j_below) k i h ∙ k_there

  -- ---- a component as a filtered range

  is-filtered : (m : ℕ) (ks : List ℕ) → (p : ℕ → Bool) × (reached_in (suc m) ls ks ≡ filter p (places ls))
  is-filtered zero ks = ((λ j. has_number j ks || linked j ks), refl)
  is-filtered (suc m) ks = is-filtered m (reached ls ks)

  filtered : (xs : List ℕ) (p : ℕ → Bool) → xs ≡ filter p (places ls) → xs ≡ filter (λ j. has_number j xs) (places ls)
  filtered xs p is =
      is ∙ filter-alike p (λ j. has_number j xs) 0 (length ls) (λ j low high. agree (p j) (has_number j xs)
      (λ passes. ap (has_number j) is ∙ filter-in p 0 (length ls) j low high passes)
      (λ there. (in-filter p 0 (length ls) j (ap (has_number j) (sym is) ∙ there)).1.1))
    where
      agree : (b c : Bool) → (b ≡ true → c ≡ true) → (c ≡ true → b ≡ true) → b ≡ c
      agree true c there back = sym (there refl)
      agree false true there back = back refl
      agree false false there back = refl

  pub component-filtered : (k : ℕ) → k < length ls → component_of ls k ≡ filter (λ j. has_number j (component_of ls k)) (places ls)
  component-filtered k below = by_length (length ls) below refl
    where
      by_length : (n : ℕ) → k < n → n ≡ length ls → component_of ls k ≡ filter (λ j. has_number j (component_of ls k)) (places ls)
      by_length zero low same = absurd (omega (arith, low))
      by_length (suc m) low same =
          let shape = is-filtered m (k ∷ []) in
          filtered (component_of ls k) shape.0 (ap (λ n. reached_in n ls (k ∷ [])) (sym same) ∙ shape.1)

  pub same-component : (k j : ℕ) → k < length ls → has_number j (component_of ls k) ≡ true → component_of ls j ≡ component_of ls k
  same-component k j below there =
      component-filtered j (component-within k j below there)
      ∙ filter-alike (λ i. has_number i (component_of ls j)) (λ i. has_number i (component_of ls k)) 0 (length ls) (λ i low high. same-places k j below there i)
      ∙ sym (component-filtered k below)
