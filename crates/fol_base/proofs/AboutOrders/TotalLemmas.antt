-- The extension of a total order to multisets is total: of two multisets the one is greater that has the greatest element in which
-- they differ more often.
use Rattle.std.proofs.Common.{◌≡◌, ◌<◌, ◌≤◌, Bool, true, false, not, ◌==◌, ◌⊎◌, List, [], ◌∷◌, ◌++◌, get_or, ap, ap₂, sym, ◌∙◌, inl, inr, ⊎_elim, arith}
use Rattle.std.specs.Prelude.{All, Contains}
use Rattle.std.specs.List.{list_any}
use Rattle.std.proofs.lemmas.Bool.{cases_Bool, cases_order, cases_lt, eq-eqb, eqb-true, false_from_ne_true, true≢false, not-false}
use Rattle.std.proofs.lemmas.List.Folds.{Any-from_list_any}
use Rattle.std.proofs.lemmas.List.Sums.{list_all-from_AllPass}
use Rattle.std.proofs.lemmas.List.Elements.{All-nil, All-cons, All-head, All-tail, All-append, All-contains, All-weaker, Contains-append_left, Contains-append_right}
use Rattle.fol_base.specs.Multiset.{times, same_multiset, multiset_greater, Outdoing, MultisetGreater, IsTotalOrderOn}
use Rattle.fol_base.proofs.AboutClauses.CountLemmas.{times-same, times-none, same_multiset-counts, same_multiset-equivalence, multiset_greater-itself, multiset_greater-decided}

-- ---- what the proofs speak of

-- an element that passes a test, and none above it in the list does
record Best {X : Type 0} (exceeds : X → X → Bool) (Within : X → Type 0) (p : X → Bool) (xs : List X) : Type 0 where
  best : X
  within : Within best
  passes : p best ≡ true
  none_above : All (λ x. p x ≡ true → exceeds x best ≡ false) xs

-- xs has top more often than ys, and everything above it equally often
record Top {X : Type 0} (same : X → X → Bool) (exceeds : X → X → Bool) (Within : X → Type 0) (xs : List X) (ys : List X) : Type 0 where
  top : X
  within : Within top
  more : times same top ys < times same top xs
  level_above : (x : X) → Within x → exceeds x top ≡ true → times same x xs ≡ times same x ys

-- a member of the list that is the same as z
record Member {X : Type 0} (same : X → X → Bool) (Within : X → Type 0) (xs : List X) (z : X) : Type 0 where
  member : X
  there : Contains xs member
  within : Within member
  is_same : same z member ≡ true

-- whether something stands in both equally often
abbrev level : {X : Type 0} → (X → X → Bool) → List X → List X → X → Bool
level same xs ys z = times same z xs == times same z ys

module _ {X : Type 0} (same exceeds : X → X → Bool) (Within : X → Type 0) (laws : IsTotalOrderOn same exceeds Within) where
  find_best : (p : X → Bool) (xs : List X) → All Within xs → Best exceeds Within p xs ⊎ All (λ x. p x ≡ false) xs
  find_best p [] within = inr (All-nil (λ x. p x ≡ false))
  find_best p (x ∷ xs) within =
      let here : Within x = All-head Within x xs within in
      let rest : All Within xs = All-tail Within x xs within in
      let Below : X → X → Type 0 = λ b y. p y ≡ true → exceeds y b ≡ false in
      ⊎_elim
      (λ yes.
      ⊎_elim
      (λ b.
      ⊎_elim
      (λ above. inl (record {
        best = x;
        within = here;
        passes = yes;
        none_above = All-cons (Below x) x xs (λ e. laws.is_irreflexive x) (λ k d in_range e.
            false_from_ne_true (exceeds (get_or xs k d) x) (λ over.
            true≢false
            (sym (laws.is_transitive (get_or xs k d) x b.best (rest k d in_range) here b.within over above)
            ∙ b.none_above k d in_range e)));
      }))
      (λ not_above. inl (record {
        best = b.best;
        within = b.within;
        passes = b.passes;
        none_above = All-cons (Below b.best) x xs (λ e. not_above) b.none_above;
      }))
      (cases_Bool (exceeds x b.best)))
      (λ none. inl (record {
        best = x;
        within = here;
        passes = yes;
        none_above = All-cons (Below x) x xs (λ e. laws.is_irreflexive x)
            (λ k d in_range e. absurd (true≢false (sym e ∙ none k d in_range)));
      }))
      (find_best p xs rest))
      (λ no.
      ⊎_elim
      (λ b. inl (record {
        best = b.best;
        within = b.within;
        passes = b.passes;
        none_above = All-cons (Below b.best) x xs (λ e. absurd (true≢false (sym e ∙ no))) b.none_above;
      }))
      (λ none. inr (All-cons (λ y. p y ≡ false) x xs no none))
      (find_best p xs rest))
      (cases_Bool (p x))

  find_member : (xs : List X) (z : X) → All Within xs → 0 < times same z xs → Member same Within xs z
  find_member xs z within h =
      ⊎_elim
      (λ some.
      let found = Any-from_list_any (same z) xs some in
      record {
        member = found.1;
        there = (found.0, found.2, found.3);
        within = All-contains Within xs found.1 within (found.0, found.2, found.3);
        is_same = found.4;
      })
      (λ none. let e : times same z xs ≡ 0 = times-none same z xs none in absurd (omega arith))
      (cases_Bool (list_any (same z) xs))

  same-back : (z w : X) → same z w ≡ true → same w z ≡ true
  same-back z w e = laws.is_equivalence.symm w z ∙ e

  level-same : (xs ys : List X) (z w : X) → same z w ≡ true → level same xs ys z ≡ level same xs ys w
  level-same xs ys z w e = ap₂ ◌==◌ (times-same same laws.is_equivalence z w e xs) (times-same same laws.is_equivalence z w e ys)

  -- above the best element in which two lists differ they are level, also at what isn't listed
  level_above_best :
      (xs ys : List X) → All Within xs → All Within ys
      → (b : Best exceeds Within (λ z. not (level same xs ys z)) (xs ++ ys))
      → (x : X) → Within x → exceeds x b.best ≡ true → times same x xs ≡ times same x ys
  level_above_best xs ys xs_within ys_within b x x_within above =
      let differs : X → Bool = λ z. not (level same xs ys z) in
      let clash : level same xs ys x ≡ false → (m : X) → Contains (xs ++ ys) m → Within m → same x m ≡ true → ⊥ = λ e m there within is_same.
      true≢false
      (sym (laws.same_left x m b.best x_within within b.within is_same above)
      ∙ All-contains (λ y. differs y ≡ true → exceeds y b.best ≡ false) (xs ++ ys) m b.none_above there
      (ap not (sym (level-same xs ys x m is_same) ∙ e))) in
      ⊎_elim
      (λ e. eqb-true (times same x xs) (times same x ys) e)
      (λ e.
      ⊎_elim
      (λ some.
      let m = find_member xs x xs_within some in
      absurd (clash e m.member (Contains-append_left xs ys m.member m.there) m.within m.is_same))
      (λ none.
      ⊎_elim
      (λ some.
      let m = find_member ys x ys_within some in
      absurd (clash e m.member (Contains-append_right xs ys m.member m.there) m.within m.is_same))
      (λ none'. omega arith)
      (cases_lt 0 (times same x ys)))
      (cases_lt 0 (times same x xs)))
      (cases_Bool (level same xs ys x))

  -- two multisets are the same, or one has a greatest element in which they differ more often
  compare_tops :
      (xs ys : List X) → All Within xs → All Within ys
      → (same_multiset same xs ys ≡ true) ⊎ (Top same exceeds Within xs ys ⊎ Top same exceeds Within ys xs)
  compare_tops xs ys xs_within ys_within =
      let differs : X → Bool = λ z. not (level same xs ys z) in
      ⊎_elim
      (λ b.
      let level_above = level_above_best xs ys xs_within ys_within b in
      ⊎_elim
      (λ e. absurd (true≢false (sym b.passes ∙ ap not (eq-eqb (times same b.best xs) (times same b.best ys) e))))
      (λ e.
      ⊎_elim
      (λ fewer. inr (inr (record {
        top = b.best;
        within = b.within;
        more = fewer;
        level_above = λ x w above. sym (level_above x w above);
      })))
      (λ more. inr (inl (record { top = b.best; within = b.within; more = more; level_above = level_above })))
      e)
      (cases_order (times same b.best xs) (times same b.best ys)))
      (λ none. inl (list_all-from_AllPass (level same xs ys) (xs ++ ys)
      (All-weaker (λ z. differs z ≡ false) (λ z. level same xs ys z ≡ true) (λ z e. not-false (level same xs ys z) e) (xs ++ ys) none)))
      (find_best differs (xs ++ ys) (All-append Within xs ys xs_within ys_within))

  greater-from_top : (xs ys : List X) → All Within xs → All Within ys → Top same exceeds Within xs ys → multiset_greater same exceeds xs ys ≡ true
  greater-from_top xs ys xs_within ys_within t =
      (multiset_greater-decided same exceeds xs ys).1 (record {
        differ = false_from_ne_true (same_multiset same xs ys) (λ e.
            let counts : times same t.top xs ≡ times same t.top ys = same_multiset-counts same laws.is_equivalence xs ys e t.top in
            let more : times same t.top ys < times same t.top xs = t.more in
            absurd (omega arith));
        each_outdone = λ k d in_range.
            let y : X = get_or ys k d in
            let more : times same t.top ys < times same t.top xs = t.more in
            let m = find_member xs t.top xs_within (omega arith) in
            ⊎_elim
            (λ fewer.
            ⊎_elim
            (λ e.
            let a : times same t.top xs ≡ times same y xs = times-same same laws.is_equivalence t.top y e xs in
            let b : times same t.top ys ≡ times same y ys = times-same same laws.is_equivalence t.top y e ys in
            absurd (omega arith))
            (λ e.
            ⊎_elim
            (λ above.
            let a : times same t.top xs ≡ times same m.member xs = times-same same laws.is_equivalence t.top m.member m.is_same xs in
            let b : times same t.top ys ≡ times same m.member ys = times-same same laws.is_equivalence t.top m.member m.is_same ys in
            inr (record {
              by = m.member;
              there = m.there;
              more = omega arith;
              exceeds_it = laws.same_left t.top m.member y t.within m.within (ys_within k d in_range) m.is_same above;
            }))
            (λ below.
            let a : times same y xs ≡ times same y ys = t.level_above y (ys_within k d in_range) below in
            absurd (omega arith))
            e)
            (laws.is_total t.top y t.within (ys_within k d in_range)))
            (λ enough. inl enough)
            (cases_lt (times same y xs) (times same y ys));
      })

  top-from_greater : (xs ys : List X) → All Within xs → All Within ys → multiset_greater same exceeds xs ys ≡ true → Top same exceeds Within xs ys
  top-from_greater xs ys xs_within ys_within h =
      let greater : MultisetGreater same exceeds xs ys = (multiset_greater-decided same exceeds xs ys).0 h in
      ⊎_elim
      (λ e. absurd (true≢false (sym e ∙ greater.differ)))
      (λ tops.
      ⊎_elim
      (λ t. t)
      (λ t.
      let more : times same t.top xs < times same t.top ys = t.more in
      let m = find_member ys t.top ys_within (omega arith) in
      let a : times same t.top xs ≡ times same m.member xs = times-same same laws.is_equivalence t.top m.member m.is_same xs in
      let b : times same t.top ys ≡ times same m.member ys = times-same same laws.is_equivalence t.top m.member m.is_same ys in
      ⊎_elim
      (λ enough. absurd (omega arith))
      (λ o.
      let o_within : Within o.by = All-contains Within xs o.by xs_within o.there in
      let back : same m.member t.top ≡ true = same-back t.top m.member m.is_same in
      let above : exceeds o.by t.top ≡ true =
      laws.same_right m.member t.top o.by m.within t.within o_within back o.exceeds_it in
      let even : times same o.by ys ≡ times same o.by xs = t.level_above o.by o_within above in
      let o_more : times same o.by ys < times same o.by xs = o.more in
      absurd (omega arith))
      (All-contains (λ y. (times same y ys ≤ times same y xs) ⊎ Outdoing same exceeds xs ys y) ys m.member greater.each_outdone m.there))
      tops)
      (compare_tops xs ys xs_within ys_within)

  top-trans : (xs ys zs : List X) → Top same exceeds Within xs ys → Top same exceeds Within ys zs → Top same exceeds Within xs zs
  top-trans xs ys zs s t =
      let s_more : times same s.top ys < times same s.top xs = s.more in
      let t_more : times same t.top zs < times same t.top ys = t.more in
      ⊎_elim
      (λ e.
      let a : times same s.top zs ≡ times same t.top zs = times-same same laws.is_equivalence s.top t.top e zs in
      let b : times same s.top ys ≡ times same t.top ys = times-same same laws.is_equivalence s.top t.top e ys in
      record {
        top = s.top;
        within = s.within;
        more = omega arith;
        level_above = λ x w above.
            s.level_above x w above ∙ t.level_above x w (laws.same_right s.top t.top x s.within t.within w e above);
      })
      (λ e.
      ⊎_elim
      (λ above.
      let even : times same s.top ys ≡ times same s.top zs = t.level_above s.top s.within above in
      record {
        top = s.top;
        within = s.within;
        more = omega arith;
        level_above = λ x w over.
            s.level_above x w over ∙ t.level_above x w (laws.is_transitive x s.top t.top w s.within t.within over above);
      })
      (λ below.
      let even : times same t.top xs ≡ times same t.top ys = s.level_above t.top t.within below in
      record {
        top = t.top;
        within = t.within;
        more = omega arith;
        level_above = λ x w over.
            s.level_above x w (laws.is_transitive x t.top s.top w t.within s.within over below) ∙ t.level_above x w over;
      })
      e)
      (laws.is_total s.top t.top s.within t.within)

  -- only counts matter
  top-left :
      (xs ys zs : List X) → same_multiset same xs ys ≡ true → Top same exceeds Within xs zs → Top same exceeds Within ys zs
  top-left xs ys zs h t =
      let counts : (z : X) → times same z xs ≡ times same z ys = same_multiset-counts same laws.is_equivalence xs ys h in
      let a : times same t.top xs ≡ times same t.top ys = counts t.top in
      let more : times same t.top zs < times same t.top xs = t.more in
      record { top = t.top; within = t.within; more = omega arith; level_above = λ x w above. sym (counts x) ∙ t.level_above x w above }

  top-right :
      (xs ys zs : List X) → same_multiset same xs ys ≡ true → Top same exceeds Within zs xs → Top same exceeds Within zs ys
  top-right xs ys zs h t =
      let counts : (z : X) → times same z xs ≡ times same z ys = same_multiset-counts same laws.is_equivalence xs ys h in
      let a : times same t.top xs ≡ times same t.top ys = counts t.top in
      let more : times same t.top xs < times same t.top zs = t.more in
      record { top = t.top; within = t.within; more = omega arith; level_above = λ x w above. t.level_above x w above ∙ counts x }

  pub multisets_totally_ordered : IsTotalOrderOn (same_multiset same) (multiset_greater same exceeds) (All Within)
  multisets_totally_ordered = record {
    is_equivalence = same_multiset-equivalence same laws.is_equivalence;
    same_left = λ xs ys zs xs_within ys_within zs_within e h.
        greater-from_top ys zs ys_within zs_within (top-left xs ys zs e (top-from_greater xs zs xs_within zs_within h));
    same_right = λ xs ys zs xs_within ys_within zs_within e h.
        greater-from_top zs ys zs_within ys_within (top-right xs ys zs e (top-from_greater zs xs zs_within xs_within h));
    is_irreflexive = λ xs. multiset_greater-itself same exceeds xs;
    is_transitive = λ xs ys zs xs_within ys_within zs_within h k.
        greater-from_top xs zs xs_within zs_within
        (top-trans xs ys zs (top-from_greater xs ys xs_within ys_within h) (top-from_greater ys zs ys_within zs_within k));
    is_total = λ xs ys xs_within ys_within.
        ⊎_elim
        (λ e. inl e)
        (λ tops.
        ⊎_elim
        (λ t. inr (inl (greater-from_top xs ys xs_within ys_within t)))
        (λ t. inr (inr (greater-from_top ys xs ys_within xs_within t)))
        tops)
        (compare_tops xs ys xs_within ys_within);
  }
