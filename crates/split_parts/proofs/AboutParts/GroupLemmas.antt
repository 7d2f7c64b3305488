-- Steps of the grouping of places by their classes.
use Rattle.std.proofs.Common.{◌≡◌, ℕ, ◌+◌, ◌<◌, ◌≤◌, true, ◌==◌, List, [], ◌∷◌, ◌++◌, length, refl, ap, sym, ◌∙◌, ⊎_elim, arith, subst}
use Rattle.std.specs.Prelude.{slice_index, slice_index_or, slice_set, nat_lt}
use Rattle.std.proofs.lemmas.Bool.{cases_eq, cases_lt, and_parts, and_from, lt-ltb, eq-eqb, true≢false, or_left, or_right}
use Rattle.std.proofs.lemmas.List.{length_push, length-set, get_or_append_left, get_or_push, get_or-set_same, get_or-set_other}
use Rattle.std.proofs.lemmas.List.Sums.{sum_by-append, sum_by-set}
use Rattle.kernel_steps.specs.Split.{has_number, is_part, rises_from}
use Rattle.split_parts.specs.Forest.{IsClass, IsGrouped}
use Rattle.split_parts.proofs.AboutParts.PlaceLemmas.{has-one, one-says, has-end, has-end-cases, has-more}

-- ---- parts

-- the first place of a part
pub first-in : (part : List ℕ) → is_part part ≡ true → has_number (slice_index part 0) part ≡ true
first-in [] h = absurd (true≢false (sym h))
first-in (k ∷ ks) h = or_left (k == k) (has_number k ks) (eq-eqb k k refl)

first-stays : (part more : List ℕ) → is_part part ≡ true → slice_index (part ++ more) 0 ≡ slice_index part 0
first-stays [] more h = absurd (true≢false (sym h))
first-stays (k ∷ ks) more h = refl

rises-end :
    (k : ℕ) (ks : List ℕ) (last : ℕ)
    → rises_from k ks ≡ true → k < last → ((j : ℕ) → has_number j ks ≡ true → j < last) → rises_from k (ks ++ last ∷ []) ≡ true
rises-end k [] last rises first below = and_from (nat_lt k last) true (lt-ltb k last first) refl
rises-end k (j ∷ ks) last rises first below =
    let parts = and_parts (nat_lt k j) (rises_from j ks) rises in
    and_from (nat_lt k j) (rises_from j (ks ++ last ∷ [])) parts.0
    (rises-end j ks last parts.1
    (below j (or_left (j == j) (has_number j ks) (eq-eqb j j refl)))
    (λ i h. below i (or_right (i == j) (has_number i ks) h)))

part-end :
    (part : List ℕ) (last : ℕ)
    → is_part part ≡ true → ((j : ℕ) → has_number j part ≡ true → j < last) → is_part (part ++ last ∷ []) ≡ true
part-end [] last rises below = absurd (true≢false (sym rises))
part-end (k ∷ ks) last rises below =
    rises-end k ks last rises
    (below k (or_left (k == k) (has_number k ks) (eq-eqb k k refl)))
    (λ j h. below j (or_right (j == k) (has_number j ks) h))

-- ---- classes

class-wider : (colour : ℕ → ℕ) (bound : ℕ) (part : List ℕ) → IsClass colour bound part → IsClass colour (bound + 1) part
class-wider colour bound part is = record { rises = is.rises; below = λ j h. omega (arith, is.below j h); same = is.same }

class-own : (colour : ℕ → ℕ) (place : ℕ) → colour place ≡ place → IsClass colour (place + 1) (place ∷ [])
class-own colour place own =
    record {
      rises = refl;
      below = λ j h. omega (arith, one-says j place h);
      same = λ j h. ap colour (one-says j place h) ∙ own;
    }

class-more :
    (colour : ℕ → ℕ) (place : ℕ) (part : List ℕ)
    → IsClass colour place part → colour place ≡ slice_index part 0 → IsClass colour (place + 1) (part ++ place ∷ [])
class-more colour place part is its =
    record {
      rises = part-end part place is.rises is.below;
      below = λ j h. ⊎_elim (λ before. omega (arith, is.below j before)) (λ (e : j ≡ place). omega (arith, e)) (has-end-cases j place part h);
      same = λ j h.
          ⊎_elim (λ before. is.same j before) (λ e. ap colour e ∙ its) (has-end-cases j place part h)
          ∙ sym (first-stays part (place ∷ []) is.rises);
    }

-- ---- groups

pub grouped-none : (colour : ℕ → ℕ) → IsGrouped colour 0 [] []
grouped-none colour =
    record {
      classes = λ p h. absurd (omega (arith, h));
      in_order = λ p q h k. absurd (omega (arith, k));
      count = refl;
      each = λ j h. absurd (omega (arith, h));
    }

module _ (colour : ℕ → ℕ) (place : ℕ) (slots : List ℕ) (parts : List (List ℕ)) (is : IsGrouped colour place slots parts) (filled : length slots ≡ place) where
  slot-before : (slot j : ℕ) → j < place → slice_index (slots ++ slot ∷ []) j ≡ slice_index slots j
  slot-before slot j h = get_or_append_left slots (slot ∷ []) 0 j (omega (arith, h, filled))

  slot-last : (slot j : ℕ) → j ≡ place → slice_index (slots ++ slot ∷ []) j ≡ slot
  slot-last slot j e = get_or_push slots slot 0 j (filled ∙ sym e)

  -- a root begins a part
  pub grouped-root : colour place ≡ place → IsGrouped colour (place + 1) (slots ++ length parts ∷ []) (parts ++ (place ∷ []) ∷ [])
  grouped-root own =
      record {
        classes = λ p h.
            ⊎_elim
            (λ below. subst (IsClass colour (place + 1)) (sym (before p below)) (class-wider colour place (slice_index_or parts p []) (is.classes p below)))
            (λ (past : length parts ≤ p).
            subst (IsClass colour (place + 1)) (sym (last p (omega (arith, past, h, length_push parts (place ∷ []))))) (class-own colour place own))
            (cases_lt p (length parts));
        in_order = λ p q less h.
            let first : slice_index (slice_index_or (parts ++ (place ∷ []) ∷ []) p []) 0 ≡ slice_index (slice_index_or parts p []) 0 =
            ap (λ ks. slice_index ks 0) (before p (omega (arith, less, h, length_push parts (place ∷ [])))) in
            ⊎_elim
            (λ below.
            let second : slice_index (slice_index_or (parts ++ (place ∷ []) ∷ []) q []) 0 ≡ slice_index (slice_index_or parts q []) 0 =
            ap (λ ks. slice_index ks 0) (before q below) in
            omega (arith, first, second, is.in_order p q less below))
            (λ (past : length parts ≤ q).
            let second : slice_index (slice_index_or (parts ++ (place ∷ []) ∷ []) q []) 0 ≡ place =
            ap (λ ks. slice_index ks 0) (last q (omega (arith, past, h, length_push parts (place ∷ [])))) in
            let class = is.classes p (omega (arith, less, h, length_push parts (place ∷ []))) in
            omega (arith, first, second, class.below (slice_index (slice_index_or parts p []) 0) (first-in (slice_index_or parts p []) class.rises)))
            (cases_lt q (length parts));
        count = sum_by-append length parts ((place ∷ []) ∷ []) ∙ ap (λ n. n + 1) is.count;
        each = λ j h.
            ⊎_elim
            (λ below.
            let slot : slice_index (slots ++ length parts ∷ []) j ≡ slice_index slots j = slot-before (length parts) j below in
            let there = is.each j below in (
              omega (arith, slot, there.0, length_push parts (place ∷ [])),
              ap (λ p. has_number j (slice_index_or (parts ++ (place ∷ []) ∷ []) p [])) slot
                  ∙ ap (has_number j) (before (slice_index slots j) there.0)
                  ∙ there.1,
            ))
            (λ (past : place ≤ j).
            let same : j ≡ place = omega (arith, past, h) in
            let slot : slice_index (slots ++ length parts ∷ []) j ≡ length parts = slot-last (length parts) j same in (
              omega (arith, slot, length_push parts (place ∷ [])),
              ap (λ p. has_number j (slice_index_or (parts ++ (place ∷ []) ∷ []) p [])) slot
                  ∙ ap (has_number j) (last (length parts) refl)
                  ∙ ap (λ k. has_number k (place ∷ [])) same
                  ∙ has-one place,
            ))
            (cases_lt j place);
      }
    where
      before : (p : ℕ) → p < length parts → slice_index_or (parts ++ (place ∷ []) ∷ []) p [] ≡ slice_index_or parts p []
      before p h = get_or_append_left parts ((place ∷ []) ∷ []) [] p h

      last : (p : ℕ) → p ≡ length parts → slice_index_or (parts ++ (place ∷ []) ∷ []) p [] ≡ place ∷ []
      last p e = get_or_push parts (place ∷ []) [] p (sym e)

  -- another place joins the part of the place to which it is linked
  pub grouped-more :
      (root slot : ℕ)
      → root < place → colour root ≡ colour place → slot ≡ slice_index slots root
      → IsGrouped colour (place + 1) (slots ++ slot ∷ []) (slice_set parts slot (slice_index_or parts slot [] ++ place ∷ []))
  grouped-more root slot lower linked its =
      record {
        classes = λ p h.
            ⊎_elim
            (λ e. subst (IsClass colour (place + 1)) (sym (changed p e)) (class-more colour place part class colour_is))
            (λ other.
            subst (IsClass colour (place + 1)) (sym (others p other))
            (class-wider colour place (slice_index_or parts p []) (is.classes p (omega (arith, h, length-set parts slot (part ++ place ∷ []))))))
            (cases_eq p slot);
        in_order = λ p q less h.
            omega (arith, firsts p, firsts q, is.in_order p q less (omega (arith, h, length-set parts slot (part ++ place ∷ []))));
        count = omega (arith, sum_by-set length parts slot (part ++ place ∷ []) [] within, length_push part place, is.count);
        each = λ j h.
            ⊎_elim
            (λ below.
            let slot_is : slice_index (slots ++ slot ∷ []) j ≡ slice_index slots j = slot-before slot j below in
            let there = is.each j below in (
              omega (arith, slot_is, there.0, length-set parts slot (part ++ place ∷ [])),
              ap (λ p. has_number j (slice_index_or (slice_set parts slot (part ++ place ∷ [])) p [])) slot_is
                  ∙ still j (slice_index slots j) there.1,
            ))
            (λ (past : place ≤ j).
            let same : j ≡ place = omega (arith, past, h) in
            let slot_is : slice_index (slots ++ slot ∷ []) j ≡ slot = slot-last slot j same in (
              omega (arith, slot_is, within, length-set parts slot (part ++ place ∷ [])),
              ap (λ p. has_number j (slice_index_or (slice_set parts slot (part ++ place ∷ [])) p [])) slot_is
                  ∙ ap (has_number j) (changed slot refl)
                  ∙ ap (λ k. has_number k (part ++ place ∷ [])) same
                  ∙ has-end place part,
            ))
            (cases_lt j place);
      }
    where
      part : List ℕ
      part = slice_index_or parts slot []

      within : slot < length parts
      within = omega (arith, (is.each root lower).0, its)

      class : IsClass colour place part
      class = is.classes slot within

      colour_is : colour place ≡ slice_index part 0
      colour_is = sym linked ∙ class.same root (ap (λ p. has_number root (slice_index_or parts p [])) its ∙ (is.each root lower).1)

      changed : (p : ℕ) → p ≡ slot → slice_index_or (slice_set parts slot (part ++ place ∷ [])) p [] ≡ part ++ place ∷ []
      changed p e =
          ap (λ q. slice_index_or (slice_set parts slot (part ++ place ∷ [])) q []) e ∙ get_or-set_same parts slot (part ++ place ∷ []) [] within

      others : (p : ℕ) → (p ≡ slot → ⊥) → slice_index_or (slice_set parts slot (part ++ place ∷ [])) p [] ≡ slice_index_or parts p []
      others p other = get_or-set_other parts slot p (part ++ place ∷ []) [] other

      firsts : (p : ℕ) → slice_index (slice_index_or (slice_set parts slot (part ++ place ∷ [])) p []) 0 ≡ slice_index (slice_index_or parts p []) 0
      firsts p =
          ⊎_elim
          (λ e.
          ap (λ ks. slice_index ks 0) (changed p e)
          ∙ first-stays part (place ∷ []) class.rises
          ∙ ap (λ q. slice_index (slice_index_or parts q []) 0) (sym e))
          (λ other. ap (λ ks. slice_index ks 0) (others p other))
          (cases_eq p slot)

      still : (j p : ℕ) → has_number j (slice_index_or parts p []) ≡ true → has_number j (slice_index_or (slice_set parts slot (part ++ place ∷ [])) p []) ≡ true
      still j p h =
          ⊎_elim
          (λ e. ap (has_number j) (changed p e) ∙ has-more j part (place ∷ []) (ap (λ q. has_number j (slice_index_or parts q [])) (sym e) ∙ h))
          (λ other. ap (has_number j) (others p other) ∙ h)
          (cases_eq p slot)

-- one more place has its slot
pub slots-within :
    (slots : List ℕ) (slot place before now : ℕ)
    → length slots ≡ place → ((j : ℕ) → j < place → slice_index slots j < before) → before ≤ now → slot < now
    → (j : ℕ) → j < place + 1 → slice_index (slots ++ slot ∷ []) j < now
slots-within slots slot place before now filled within more last j h =
    ⊎_elim
    (λ below. omega (arith, get_or_append_left slots (slot ∷ []) 0 j (omega (arith, below, filled)), within j below))
    (λ (past : place ≤ j).
    let same : length slots ≡ j = omega (arith, past, h, filled) in
    omega (arith, get_or_push slots slot 0 j same, last))
    (cases_lt j place)
