-- That the literals of a component are one component.
use Rattle.std.proofs.Common.{◌≡◌, ℕ, zero, suc, ◌+◌, ◌<◌, Bool, true, false, ◌==◌, List, [], ◌∷◌, ◌++◌, length, get_or, append-nil, Option, Some, refl, ap, sym, ◌∙◌, ⊎_elim, arith}
use Rattle.std.specs.Prelude.{slice_index_or, slice_get, nat_lt, flat_map, if◌then◌else◌}
use Rattle.std.specs.List.{range_with_len, cons_option}
use Rattle.std.proofs.lemmas.Bool.{and_from, lt-ltb, eq-eqb, eqb-true, ne_eqb, true≢false, or_right, or_cases, cond-true, cond-false, cases_eq, cases_Bool}
use Rattle.std.proofs.lemmas.List.FromFn.{length-range_with_len, get_or-range_with_len}
use Rattle.fol_base.specs.Clause.{TreeLiteral, literal_variables}
use Rattle.kernel_steps.specs.Split.{has_number, has_all_below, is_part, rises_from, literals_at, is_rising}
use Rattle.split_parts.specs.Components.{IsComponents, FollowsVariables, is_constant_on}
use Rattle.split_parts.specs.Forest.{variables_at}
use Rattle.split_parts.proofs.AboutParts.PlaceLemmas.{passing, has-at, has-more, follows-variable}
use Rattle.split_parts.proofs.AboutParts.ComponentLemmas.{all-below, constant, firsts-rise, has-in_parts}
use Rattle.split_parts.proofs.AboutParts.UniqueLemmas.{above, rise-tail, part-rises, passes-at, none-past, constant-first, shared, part-follows}

-- ---- all indices of a part

range-rises : (k n : ℕ) → rises_from k (range_with_len (k + 1) n) ≡ true
range-rises k zero = refl
range-rises k (suc n) =
    and_from (nat_lt k (k + 1)) (rises_from (k + 1) (range_with_len (k + 1 + 1) n)) (lt-ltb k (k + 1) (omega arith)) (range-rises (k + 1) n)

range-part : (n : ℕ) → 0 < n → is_part (range_with_len 0 n) ≡ true
range-part zero some = absurd (omega (arith, some))
range-part (suc n) some = range-rises 0 n

range-has : (n j : ℕ) → j < n → has_number j (range_with_len 0 n) ≡ true
range-has n j within =
    ap (λ i. has_number i (range_with_len 0 n)) (sym (get_or-range_with_len 0 n j 0 within ∙ omega arith))
    ∙ has-at (range_with_len 0 n) j (omega (arith, within, length-range_with_len 0 n))

range-below : (n j : ℕ) → has_number j (range_with_len 0 n) ≡ true → j < n
range-below n j h = none-past n (range_with_len 0 n) j (length-range_with_len 0 n) (all-below n (range_with_len 0 n) (range-has n)) h

-- ---- a place's index in its part

abbrev index_of : ℕ → List ℕ → ℕ
index_of i [] = 0
index_of i (k ∷ ks) = if i == k then 0 else suc (index_of i ks)

index-here : (i k : ℕ) (ks : List ℕ) → i ≡ k → index_of i (k ∷ ks) ≡ 0
index-here i k ks e = cond-true (i == k) 0 (suc (index_of i ks)) (eq-eqb i k e)

index-later : (i k : ℕ) (ks : List ℕ) → ¬ (i ≡ k) → index_of i (k ∷ ks) ≡ suc (index_of i ks)
index-later i k ks differ = cond-false (i == k) 0 (suc (index_of i ks)) (ne_eqb i k differ)

index-at : (ks : List ℕ) (t : ℕ) → is_rising ks ≡ true → t < length ks → index_of (get_or ks t 0) ks ≡ t
index-at [] t rises within = absurd (omega (arith, within))
index-at (k ∷ ks) zero rises within = index-here k k ks refl
index-at (k ∷ ks) (suc t) rises within =
    index-later (get_or ks t 0) k ks
    (λ e. omega (arith, e, above k ks (get_or ks t 0) rises (has-at ks t (omega (arith, within)))))
    ∙ ap suc (index-at ks t (rise-tail k ks rises) (omega (arith, within)))

-- ---- the literals of a part

there : (ls : List TreeLiteral) (i : ℕ) → i < length ls → (l : TreeLiteral) × (slice_get ls i ≡ Some l)
there [] i within = absurd (omega (arith, within))
there (l ∷ ls) zero within = (l, refl)
there (l ∷ ls) (suc i) within = there ls i (omega (arith, within))

literals-first : (ls : List TreeLiteral) (k : ℕ) (ks : List ℕ) (l : TreeLiteral) → slice_get ls k ≡ Some l → literals_at ls (k ∷ ks) ≡ l ∷ literals_at ls ks
literals-first ls k ks l is = ap (λ (o : Option TreeLiteral). cons_option o (literals_at ls ks)) is

tail-below : (n k : ℕ) (ks : List ℕ) → ((j : ℕ) → has_number j (k ∷ ks) ≡ true → j < n) → (j : ℕ) → has_number j ks ≡ true → j < n
tail-below n k ks below j h = below j (or_right (j == k) (has_number j ks) h)

length-literals_at : (ls : List TreeLiteral) (ks : List ℕ) → ((j : ℕ) → has_number j ks ≡ true → j < length ls) → length (literals_at ls ks) ≡ length ks
length-literals_at ls [] below = refl
length-literals_at ls (k ∷ ks) below =
    let at = there ls k (below k (has-at (k ∷ ks) 0 (omega arith))) in
    ap length (literals-first ls k ks at.0 at.1) ∙ ap suc (length-literals_at ls ks (tail-below (length ls) k ks below))

-- the literal at a place's index in the part is that at the place
get-literals_at :
    (ls : List TreeLiteral) (ks : List ℕ) (i : ℕ)
    → ((j : ℕ) → has_number j ks ≡ true → j < length ls) → has_number i ks ≡ true → slice_get (literals_at ls ks) (index_of i ks) ≡ slice_get ls i
get-literals_at ls [] i below h = absurd (true≢false (sym h))
get-literals_at ls (k ∷ ks) i below h =
    let at = there ls k (below k (has-at (k ∷ ks) 0 (omega arith))) in
    let first = literals-first ls k ks at.0 at.1 in
    ⊎_elim
    (λ (e : i ≡ k).
    ap (λ (ms : List TreeLiteral). slice_get ms (index_of i (k ∷ ks))) first
    ∙ ap (slice_get (at.0 ∷ literals_at ls ks)) (index-here i k ks e)
    ∙ sym at.1
    ∙ ap (slice_get ls) (sym e))
    (λ differ.
    ap (λ (ms : List TreeLiteral). slice_get ms (index_of i (k ∷ ks))) first
    ∙ ap (slice_get (at.0 ∷ literals_at ls ks)) (index-later i k ks differ)
    ∙ get-literals_at ls ks i (tail-below (length ls) k ks below)
    (⊎_elim (λ e. absurd (differ (eqb-true i k e))) (λ later. later) (or_cases (i == k) (has_number i ks) h)))
    (cases_eq i k)

variables-of_literals_at :
    (ls : List TreeLiteral) (ks : List ℕ) (i : ℕ)
    → ((j : ℕ) → has_number j ks ≡ true → j < length ls) → has_number i ks ≡ true → variables_at (literals_at ls ks) (index_of i ks) ≡ variables_at ls i
variables-of_literals_at ls ks i below h = ap (λ (o : Option TreeLiteral). flat_map literal_variables (cons_option o [])) (get-literals_at ls ks i below h)

-- ---- a property of the indices, as one of the places

abbrev of_places : (ℕ → Bool) → List ℕ → ℕ → Bool
of_places f ks i = if has_number i ks then f (index_of i ks) else false

module _ (ls : List TreeLiteral) (parts : List (List ℕ)) (is : IsComponents ls parts) (a : ℕ) (within : a < length parts) where
  abbrev part : List ℕ
  part = slice_index_or parts a []

  abbrev own : List TreeLiteral
  own = literals_at ls part

  rises : is_part part ≡ true
  rises = passes-at is_part parts [] a is.are_parts within

  part-below : (j : ℕ) → has_number j part ≡ true → j < length ls
  part-below j h =
      let all = shared ls parts is in
      none-past (length ls) (flat_map (λ ks. ks) parts) j all.0 all.1 (has-in_parts j parts a within h)

  places-follow : (f : ℕ → Bool) → FollowsVariables own f → FollowsVariables ls (of_places f part)
  places-follow f follows i j share =
      let v = passing (λ w. has_number w (variables_at ls j)) (variables_at ls i) share in
      let same : has_number i part ≡ has_number j part = part-follows ls parts is a within i j share in
      ⊎_elim
      (λ here.
      let here' = sym same ∙ here in
      cond-true (has_number i part) (f (index_of i part)) false here
      ∙ follows-variable own f v.0 (index_of i part) (index_of j part) follows
      (ap (has_number v.0) (variables-of_literals_at ls part i part-below here) ∙ v.1.0)
      (ap (has_number v.0) (variables-of_literals_at ls part j part-below here') ∙ v.1.1)
      ∙ sym (cond-true (has_number j part) (f (index_of j part)) false here'))
      (λ none. cond-false (has_number i part) (f (index_of i part)) false none ∙ sym (cond-false (has_number j part) (f (index_of j part)) false (sym same ∙ none)))
      (cases_Bool (has_number i part))

  at-index : (f : ℕ → Bool) (t : ℕ) → t < length part → of_places f part (get_or part t 0) ≡ f t
  at-index f t less =
      cond-true (has_number (get_or part t 0) part) (f (index_of (get_or part t 0) part)) false (has-at part t less)
      ∙ ap f (index-at part t (part-rises part rises) less)

  some : 0 < length part
  some = nonempty part rises
    where
      nonempty : (ks : List ℕ) → is_part ks ≡ true → 0 < length ks
      nonempty [] h = absurd (true≢false (sym h))
      nonempty (k ∷ ks) h = omega arith

  indices-same : (f : ℕ → Bool) → FollowsVariables own f → (t : ℕ) → t < length part → f t ≡ f 0
  indices-same f follows t less =
      let g = of_places f part in
      let constant : is_constant_on g part ≡ true = passes-at (is_constant_on g) parts [] a (is.whole g (places-follow f follows)) within in
      sym (at-index f t less) ∙ constant-first g part (get_or part t 0) constant (has-at part t less) ∙ at-index f 0 some

  pub whole-part : IsComponents own (range_with_len 0 (length part) ∷ [])
  whole-part =
      let n : ℕ = length part in let range : List ℕ = range_with_len 0 n in let rising : is_part range ≡ true = range-part n some in
      let count : length own ≡ n = length-literals_at ls part part-below in record {
        are_parts = and_from (is_part range) true rising refl;
        shared_out =
            and_from (length (range ++ []) == length own) (has_all_below (length own) (range ++ []))
            (eq-eqb (length (range ++ [])) (length own) (ap length (append-nil range) ∙ length-range_with_len 0 n ∙ sym count))
            (all-below (length own) (range ++ []) (λ j h. has-more j range [] (range-has n j (omega (arith, h, count)))));
        apart = refl;
        in_order = firsts-rise (range ∷ []) (λ p h. only p h rising) (λ p q l h. absurd (omega (arith, l, h)));
        whole = λ f follows. and_from (is_constant_on f range) true
            (constant f range (λ j h. indices-same f follows j (range-below n j h) ∙ ap f (sym (get_or-range_with_len 0 n 0 0 some)))) refl;
      }
    where
      only : (p : ℕ) → p < 1 → is_part (range_with_len 0 (length part)) ≡ true → is_part (slice_index_or (range_with_len 0 (length part) ∷ []) p []) ≡ true
      only zero h rising = rising
      only (suc p) h rising = absurd (omega (arith, h))

pub components-whole :
    (ls : List TreeLiteral) (parts : List (List ℕ)) (a : ℕ)
    → IsComponents ls parts → a < length parts
    → IsComponents (literals_at ls (slice_index_or parts a [])) (range_with_len 0 (length (slice_index_or parts a [])) ∷ [])
components-whole ls parts a is within = whole-part ls parts is a within
