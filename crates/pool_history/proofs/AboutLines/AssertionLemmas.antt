-- Names that are assertions, and the names that stand for them on lines: these depend on the set of assertions alone.
use Rattle.std.proofs.Common.{◌≡◌, ℕ, zero, suc, ◌+◌, ◌<◌, Bool, true, false, not, ◌&&◌, ◌||◌, ◌==◌, List, [], ◌∷◌, ◌++◌, map, length, refl, ap, ap₂, sym, ◌∙◌, subst, ⊎_elim, arith}
use Rattle.std.specs.Prelude.{nat_lt, All, slice_index_or, get_or, if◌then◌else◌}
use Rattle.std.specs.List.{list_any, list_all}
use Rattle.std.specs.List.Sorted.{IsStrictlyIncreasing}
use Rattle.std.proofs.lemmas.Bool.{true≢false, and_parts, and_from, or_cases, or_left, or_right, not-true, not_from_false, lt-ltb, ltb-true}
use Rattle.std.proofs.lemmas.List.{get_or_append_left}
use Rattle.std.proofs.lemmas.List.Elements.{All-nil, All-cons, All-head, All-tail}
use Rattle.std.proofs.lemmas.List.Folds.{list_any-append}
use Rattle.plain_types.specs.declared.sequence.NameLit.{NameLit}
use Rattle.plain_types.specs.Names.{same_name, has_name, opposite}
use Rattle.fol_base.specs.Clause.{TreeLiteral, literals_eq}
use Rattle.fol_base.specs.Subsumption.{assertions}
use Rattle.kernel_steps.specs.Names.{name_before, sorted_names, are_sorted}
use Rattle.kernel_steps.proofs.AboutNames.NameTruth.{list_any-sorted_names, has_name-sorted_names}
use Rattle.kernel_steps.proofs.AboutNames.NameRanks.{sorted_names-sorted, sorted_names-same, sorted-same}
use Rattle.bank_clause.specs.Clause.{AreAssertions}
use Rattle.split_parts.specs.PartKeys.{literals_eq-refl}
use Rattle.split_parts.specs.Tags.{has_part, with_part}
use Rattle.split_parts.proofs.AboutTags.SignedLawLemmas.{signed_names_stay}
use Rattle.split_parts.specs.SignedNames.{signed_name}
use Rattle.pool_history.specs.Tags.{name_of_tag, line_names}

-- ---- assertions of parts that were met

-- a negative name whose number is below the bound
abbrev pub is_assertion_below : ℕ → NameLit → Bool
is_assertion_below count n = not n.positive && nat_lt n.name count

-- a sorted list passes a test where the list does
pub all-sorted : (p : NameLit → Bool) (ns : List NameLit) → list_all p (sorted_names ns) ≡ list_all p ns
all-sorted p ns =
    none-fails p (sorted_names ns) ∙ ap not (list_any-sorted_names (λ n. not (p n)) ns) ∙ sym (none-fails p ns)
  where
    none-fails : (p : NameLit → Bool) (ns : List NameLit) → list_all p ns ≡ not (list_any (λ n. not (p n)) ns)
    none-fails p [] = refl
    none-fails p (n ∷ ns) = by (p n) (none-fails p ns)
      where
        by : (b : Bool) → list_all p ns ≡ not (list_any (λ m. not (p m)) ns) → (b && list_all p ns) ≡ not (not b || list_any (λ m. not (p m)) ns)
        by true rest = rest
        by false rest = refl

-- sorted negative names rise
rising : (ns : List NameLit) → list_all (λ n. not n.positive) ns ≡ true → are_sorted ns ≡ true → IsStrictlyIncreasing (map (λ n. n.name) ns)
rising [] negative sorted k within = absurd (omega (arith, within))
rising (n ∷ []) negative sorted k within = absurd (omega (arith, within))
rising (n ∷ m ∷ ms) negative sorted zero within =
    let before = and_parts (name_before n m) (are_sorted (m ∷ ms)) sorted in
    let later = and_parts (not n.positive) (not m.positive && list_all (λ k. not k.positive) ms) negative in
    let second = and_parts (not m.positive) (list_all (λ k. not k.positive) ms) later.1 in
    ⊎_elim
    (λ (less : nat_lt n.name m.name ≡ true). ltb-true n.name m.name less)
    (λ (same : ((n.name == m.name) && (not n.positive && m.positive)) ≡ true).
    let signs = and_parts (not n.positive) m.positive (and_parts (n.name == m.name) (not n.positive && m.positive) same).1 in
    absurd (true≢false (sym signs.1 ∙ not-true m.positive second.0)))
    (or_cases (nat_lt n.name m.name) ((n.name == m.name) && (not n.positive && m.positive)) before.0)
rising (n ∷ m ∷ ms) negative sorted (suc k) within =
    let later = and_parts (not n.positive) (not m.positive && list_all (λ k. not k.positive) ms) negative in
    let rest = rising (m ∷ ms) later.1 (and_parts (name_before n m) (are_sorted (m ∷ ms)) sorted).1 k (omega (arith, within)) in
    let same : suc (k + 1) ≡ suc k + 1 = omega arith in
    subst
    (λ i. get_or (map (λ (l : NameLit). l.name) (m ∷ ms)) k 0 < get_or (map (λ (l : NameLit). l.name) (n ∷ m ∷ ms)) i 0)
    same rest

pub assertions-from :
    (count : ℕ) (ns : List NameLit) → list_all (is_assertion_below count) ns ≡ true → are_sorted ns ≡ true → AreAssertions ns
assertions-from count ns below sorted = record { negative = each ns below; rise = rising ns (signs ns below) sorted }
  where
    each : (ns : List NameLit) → list_all (is_assertion_below count) ns ≡ true → All (λ n. n.positive ≡ false) ns
    each [] below = All-nil (λ n. n.positive ≡ false)
    each (n ∷ ns) below =
        let both = and_parts (is_assertion_below count n) (list_all (is_assertion_below count) ns) below in
        All-cons (λ m. m.positive ≡ false) n ns (not-true n.positive (and_parts (not n.positive) (nat_lt n.name count) both.0).0) (each ns both.1)

    signs : (ns : List NameLit) → list_all (is_assertion_below count) ns ≡ true → list_all (λ n. not n.positive) ns ≡ true
    signs [] below = refl
    signs (n ∷ ns) below =
        let both = and_parts (is_assertion_below count n) (list_all (is_assertion_below count) ns) below in
        and_from (not n.positive) (list_all (λ m. not m.positive) ns) (and_parts (not n.positive) (nat_lt n.name count) both.0).0 (signs ns both.1)

pub all-met : (count : ℕ) (ns : List NameLit) → list_all (is_assertion_below count) ns ≡ true → All (λ n. n.name < count) ns
all-met count [] below = All-nil (λ n. n.name < count)
all-met count (n ∷ ns) below =
    let both = and_parts (is_assertion_below count n) (list_all (is_assertion_below count) ns) below in
    All-cons (λ m. m.name < count) n ns (ltb-true n.name count (and_parts (not n.positive) (nat_lt n.name count) both.0).1) (all-met count ns both.1)

pub below-from :
    (count : ℕ) (ns : List NameLit) → All (λ n. n.positive ≡ false) ns → All (λ n. n.name < count) ns
    → list_all (is_assertion_below count) ns ≡ true
below-from count [] negative met = refl
below-from count (n ∷ ns) negative met =
    and_from (is_assertion_below count n) (list_all (is_assertion_below count) ns)
    (and_from (not n.positive) (nat_lt n.name count)
    (not_from_false n.positive (All-head (λ m. m.positive ≡ false) n ns negative))
    (lt-ltb n.name count (All-head (λ m. m.name < count) n ns met)))
    (below-from count ns (All-tail (λ m. m.positive ≡ false) n ns negative) (All-tail (λ m. m.name < count) n ns met))

-- a higher bound
pub below-more : (count more : ℕ) (ns : List NameLit) → list_all (is_assertion_below count) ns ≡ true → list_all (is_assertion_below (count + more)) ns ≡ true
below-more count more [] below = refl
below-more count more (n ∷ ns) below =
    let both = and_parts (is_assertion_below count n) (list_all (is_assertion_below count) ns) below in
    let one = and_parts (not n.positive) (nat_lt n.name count) both.0 in
    let less : n.name < count = ltb-true n.name count one.1 in
    and_from (is_assertion_below (count + more) n) (list_all (is_assertion_below (count + more)) ns)
    (and_from (not n.positive) (nat_lt n.name (count + more)) one.0 (lt-ltb n.name (count + more) (omega (arith, less))))
    (below-more count more ns both.1)

-- ---- the names that stand for assertions

any-assertion :
    (p : NameLit → Bool) (g : ℕ → NameLit) (ns : List NameLit)
    → list_any p (map g (assertions ns)) ≡ list_any (λ n. not n.positive && p (g n.name)) ns
any-assertion p g [] = refl
any-assertion p g (n ∷ ns) = by n.positive (any-assertion p g ns)
  where
    by :
        (b : Bool) → list_any p (map g (assertions ns)) ≡ list_any (λ m. not m.positive && p (g m.name)) ns
        → list_any p (map g (if b then assertions ns else (n.name ∷ assertions ns)))
        ≡ ((not b && p (g n.name)) || list_any (λ m. not m.positive && p (g m.name)) ns)
    by true rest = rest
    by false rest = ap (λ c. p (g n.name) || c) rest

module _ (parts : List (List TreeLiteral)) where
  abbrev standing : ℕ → NameLit
  standing tag = opposite (name_of_tag parts tag)

  abbrev stands_for : NameLit → NameLit → Bool
  stands_for k n = not n.positive && same_name k (standing n.name)

  listed : (k : NameLit) (ns : List NameLit) → has_name k (map standing (assertions ns)) ≡ list_any (stands_for k) ns
  listed k ns = any-assertion (same_name k) standing ns

  -- sorting changes nothing
  pub line_names-sorted : (ns : List NameLit) → line_names parts (sorted_names ns) ≡ sorted_names (line_names parts ns)
  line_names-sorted ns =
      sorted_names-same (map standing (assertions (sorted_names ns))) (line_names parts ns)
      (λ k.
      listed k (sorted_names ns) ∙ list_any-sorted_names (stands_for k) ns ∙ sym (listed k ns)
      ∙ sym (has_name-sorted_names k (map standing (assertions ns))))

  pub line_names-joined :
      (ns ms : List NameLit) → line_names parts (sorted_names (ns ++ ms)) ≡ sorted_names (line_names parts ns ++ line_names parts ms)
  line_names-joined ns ms =
      sorted_names-same (map standing (assertions (sorted_names (ns ++ ms)))) (line_names parts ns ++ line_names parts ms)
      (λ k.
      listed k (sorted_names (ns ++ ms)) ∙ list_any-sorted_names (stands_for k) (ns ++ ms) ∙ list_any-append (stands_for k) ns ms
      ∙ sym (ap₂ (λ a b. a || b) (has-line_name k ns) (has-line_name k ms))
      ∙ sym (list_any-append (same_name k) (line_names parts ns) (line_names parts ms)))
    where
      has-line_name : (k : NameLit) (ns : List NameLit) → has_name k (line_names parts ns) ≡ list_any (stands_for k) ns
      has-line_name k ns = has_name-sorted_names k (map standing (assertions ns)) ∙ listed k ns

  pub line_names-stay : (ns : List NameLit) → sorted_names (line_names parts ns) ≡ line_names parts ns
  line_names-stay ns = sym (sorted-same (line_names parts ns) (sorted_names-sorted (map standing (assertions ns))))

-- ---- a further part

pub part-there : (parts : List (List TreeLiteral)) (tag : ℕ) → tag < length parts → has_part (slice_index_or parts tag []) parts ≡ true
part-there [] tag within = absurd (omega (arith, within))
part-there (p ∷ parts) zero within = or_left (literals_eq p p) (has_part p parts) (literals_eq-refl p)
part-there (p ∷ parts) (suc tag) within =
    let part : List TreeLiteral = slice_index_or parts tag [] in
    or_right (literals_eq part p) (has_part part parts) (part-there parts tag (omega (arith, within)))

module _ (parts : List (List TreeLiteral)) (part : List TreeLiteral) where
  abbrev grown : List (List TreeLiteral)
  grown = with_part parts part

  part-stays : (tag : ℕ) → tag < length parts → slice_index_or grown tag [] ≡ slice_index_or parts tag []
  part-stays tag within = by (has_part part parts)
    where
      by : (b : Bool) → slice_index_or (if b then parts else parts ++ part ∷ []) tag [] ≡ slice_index_or parts tag []
      by true = refl
      by false = get_or_append_left parts (part ∷ []) [] tag within

  pub tag_name-stays : (tag : ℕ) → tag < length parts → name_of_tag grown tag ≡ name_of_tag parts tag
  tag_name-stays tag within =
      ap (signed_name grown) (part-stays tag within)
      ∙ signed_names_stay parts (slice_index_or parts tag []) part (part-there parts tag within)

  pub line_names-grown : (ns : List NameLit) → list_all (is_assertion_below (length parts)) ns ≡ true → line_names grown ns ≡ line_names parts ns
  line_names-grown ns below = ap sorted_names (all-stay ns below)
    where
      all-stay :
          (ns : List NameLit) → list_all (is_assertion_below (length parts)) ns ≡ true
          → map (standing grown) (assertions ns) ≡ map (standing parts) (assertions ns)
      all-stay [] below = refl
      all-stay (n ∷ ns) below =
          let both = and_parts (is_assertion_below (length parts) n) (list_all (is_assertion_below (length parts)) ns) below in
          let met : n.name < length parts = ltb-true n.name (length parts) (and_parts (not n.positive) (nat_lt n.name (length parts)) both.0).1 in
          by n.positive (ap opposite (tag_name-stays n.name met)) (all-stay ns both.1)
        where
          by :
              (b : Bool) → standing grown n.name ≡ standing parts n.name
              → map (standing grown) (assertions ns) ≡ map (standing parts) (assertions ns)
              → map (standing grown) (if b then assertions ns else (n.name ∷ assertions ns))
              ≡ map (standing parts) (if b then assertions ns else (n.name ∷ assertions ns))
          by true here rest = rest
          by false here rest = ap₂ (λ m ms. m ∷ ms) here rest
