-- Names that are sorted by their ranks and then left once each.
use Rattle.std.proofs.Common.{◌≡◌, ℕ, zero, suc, ◌+◌, ◌-◌, ◌<◌, ◌≤◌, Bool, true, false, ◌&&◌, ◌||◌, cond, List, [], ◌∷◌, length, drop, get_or, refl, ap, sym, ◌∙◌, subst, ⊎_elim, arith}
use Rattle.std.specs.List.{dedup, dedup_from}
use Rattle.std.specs.List.Sorted.{IsPermutation, IsNonDecreasingBy}
use Rattle.std.proofs.lemmas.Bool.{or_cases, true≢false, le-ltb, lt-ltb}
use Rattle.std.proofs.lemmas.List.{drop_more, length-drop}
use Rattle.std.proofs.lemmas.List.Sorted.{list_any-IsPermutation}
use Rattle.plain_types.specs.declared.sequence.NameLit.{NameLit}
use Rattle.plain_types.specs.Names.{same_name, has_name}
use Rattle.plain_types.proofs.NameLemmas.{same_name-refl, same_name-true}
use Rattle.kernel_steps.specs.Names.{name_before, sorted_names, are_sorted, name_rank}
use Rattle.kernel_steps.proofs.AboutNames.NameRanks.{before-rank, rank-same, sorted-cons, are-sorted_names}

-- ---- each once

abbrev Rises : List NameLit → Type 0
Rises ns = IsNonDecreasingBy name_rank ns

rises-tail : (n : NameLit) (ns : List NameLit) → Rises (n ∷ ns) → Rises ns
rises-tail n ns h i j d before within = h (suc i) (suc j) d (omega (arith, before)) (omega (arith, within))

rises-next : (n m : NameLit) (ns : List NameLit) → Rises (n ∷ m ∷ ns) → name_rank n ≤ name_rank m
rises-next n m ns h = h zero (suc zero) n (omega arith) (omega arith)

-- the second of a list that rises may be left out
rises-without : (n m : NameLit) (ms : List NameLit) → Rises (n ∷ m ∷ ms) → Rises (n ∷ ms)
rises-without n m ms r zero zero d before within = omega arith
rises-without n m ms r zero (suc j) d before within = r zero (suc (suc j)) d (omega arith) (omega (arith, within))
rises-without n m ms r (suc i) zero d before within = absurd (omega (arith, before))
rises-without n m ms r (suc i) (suc j) d before within =
    r (suc (suc i)) (suc (suc j)) d (omega (arith, before)) (omega (arith, within))

-- no name of a list that rises is lower than the first
first-lowest : (n k : NameLit) (ns : List NameLit) → Rises (n ∷ ns) → has_name k (n ∷ ns) ≡ true → name_rank n ≤ name_rank k
first-lowest n k ns h there =
    ⊎_elim (λ here. omega (arith, ap name_rank (same_name-true k n here))) (λ later. behind ns h later) (or_cases (same_name k n) (has_name k ns) there)
  where
    behind : (ms : List NameLit) → Rises (n ∷ ms) → has_name k ms ≡ true → name_rank n ≤ name_rank k
    behind [] r later = absurd (true≢false (sym later))
    behind (m ∷ ms) r later =
        ⊎_elim
        (λ here. omega (arith, rises-next n m ms r, ap name_rank (same_name-true k m here)))
        (λ more. behind ms (rises-without n m ms r) more)
        (or_cases (same_name k m) (has_name k ms) later)

module _ (E : NameLit → NameLit → Bool) (same : (x y : NameLit) → E x y ≡ same_name x y) where
  -- the same names stay
  dedup_from-has : (k n : NameLit) (ns : List NameLit) → has_name k (dedup_from E n ns) ≡ has_name k (n ∷ ns)
  dedup_from-has k n [] = refl
  dedup_from-has k n (m ∷ ms) =
      by (E m n) (λ e. same_name-true m n (sym (same m n) ∙ e)) (dedup_from-has k n ms) (dedup_from-has k m ms)
    where
      or-twice : (a b : Bool) → (a || b) ≡ (a || (a || b))
      or-twice true b = refl
      or-twice false b = refl

      by :
          (b : Bool) → (b ≡ true → m ≡ n)
          → has_name k (dedup_from E n ms) ≡ has_name k (n ∷ ms) → has_name k (dedup_from E m ms) ≡ has_name k (m ∷ ms)
          → has_name k (cond b (dedup_from E n ms) (n ∷ dedup_from E m ms)) ≡ has_name k (n ∷ m ∷ ms)
      by true is rest later =
          rest ∙ or-twice (same_name k n) (has_name k ms) ∙ ap (λ j. same_name k n || (same_name k j || has_name k ms)) (sym (is refl))
      by false is rest later = ap (λ b. same_name k n || b) later

  dedup_from-sorted : (n : NameLit) (ns : List NameLit) → Rises (n ∷ ns) → are_sorted (dedup_from E n ns) ≡ true
  dedup_from-sorted n [] h = refl
  dedup_from-sorted n (m ∷ ms) h =
      by (E m n) (sym (same m n)) (λ r. dedup_from-sorted n ms r) (dedup_from-sorted m ms (rises-tail n (m ∷ ms) h))
    where
      by :
          (b : Bool) → same_name m n ≡ b
          → (Rises (n ∷ ms) → are_sorted (dedup_from E n ms) ≡ true) → are_sorted (dedup_from E m ms) ≡ true
          → are_sorted (cond b (dedup_from E n ms) (n ∷ dedup_from E m ms)) ≡ true
      by true is rest later = rest (subst (λ k. Rises (k ∷ ms)) (same_name-true m n is) (rises-tail n (m ∷ ms) h))
      by false is rest later =
          sorted-cons n (dedup_from E m ms) later
          (λ k there.
          let low : name_rank m ≤ name_rank k = first-lowest m k ms (rises-tail n (m ∷ ms) h) (sym (dedup_from-has k m ms) ∙ there) in
          let next : name_rank n ≤ name_rank m = rises-next n m ms h in
          let other : name_rank m ≡ name_rank n → ⊥ =
          λ e. true≢false (sym (ap (λ j. same_name j n) (rank-same m n e) ∙ same_name-refl n) ∙ is) in
          omega (arith, low, next, other))

  -- sorted by rank, and then each once
  pub sorted-deduped :
      (ns ms made : List NameLit)
      → IsPermutation ns ms → Rises ms → made ≡ dedup E ms → made ≡ sorted_names ns
  sorted-deduped ns ms made moved rises is =
      is
      ∙ are-sorted_names ns (dedup E ms) (sorted ms rises)
      (λ k. has k ms ∙ sym (list_any-IsPermutation (same_name k) ns ms moved))
    where
      sorted : (ks : List NameLit) → Rises ks → are_sorted (dedup E ks) ≡ true
      sorted [] h = refl
      sorted (k ∷ ks) h = dedup_from-sorted k ks h

      has : (k : NameLit) (ks : List NameLit) → has_name k (dedup E ks) ≡ has_name k ks
      has k [] = refl
      has k (j ∷ js) = dedup_from-has k j js

-- ---- whether names are sorted

module _
    (ns : List NameLit) (i before here : ℕ) (d e : NameLit) (low : 1 ≤ i) (within : i < length ns)
    (first : before ≡ name_rank (get_or ns (i - 1) d)) (second : here ≡ name_rank (get_or ns i e)) where
  two : are_sorted (drop (i - 1) ns) ≡ (name_before (get_or ns (i - 1) d) (get_or ns i e) && are_sorted (drop i ns))
  two =
      let next : i - 1 + 1 ≡ i = omega arith in
      ap are_sorted
      (drop_more ns (i - 1) d (omega arith)
      ∙ ap (λ j. get_or ns (i - 1) d ∷ drop j ns) next
      ∙ ap (λ ks. get_or ns (i - 1) d ∷ ks) (drop_more ns i e within))
      ∙ ap (λ ks. name_before (get_or ns (i - 1) d) (get_or ns i e) && are_sorted ks) (sym (drop_more ns i e within))

  -- a name that isn't after the one before it
  pub unsorted-here : here ≤ before → are_sorted (drop (i - 1) ns) ≡ false
  unsorted-here h =
      two
      ∙ ap (λ b. b && are_sorted (drop i ns))
      (before-rank (get_or ns (i - 1) d) (get_or ns i e)
      ∙ le-ltb (name_rank (get_or ns (i - 1) d)) (name_rank (get_or ns i e)) (omega (arith, first, second, h)))

  -- one that is
  pub sorted-here : before < here → are_sorted (drop i ns) ≡ are_sorted (drop (i - 1) ns)
  sorted-here h =
      sym
      (two
      ∙ ap (λ b. b && are_sorted (drop i ns))
      (before-rank (get_or ns (i - 1) d) (get_or ns i e)
      ∙ lt-ltb (name_rank (get_or ns (i - 1) d)) (name_rank (get_or ns i e)) (omega (arith, first, second, h))))

-- the last one alone
pub are_sorted-last : (ns : List NameLit) (i : ℕ) → length ns ≤ i → are_sorted (drop (i - 1) ns) ≡ true
are_sorted-last ns i end = short (drop (i - 1) ns) (omega (arith, length-drop (i - 1) ns, end))
  where
    short : (ms : List NameLit) → length ms ≤ 1 → are_sorted ms ≡ true
    short [] h = refl
    short (m ∷ []) h = refl
    short (m ∷ k ∷ ms) h = absurd (omega arith)
