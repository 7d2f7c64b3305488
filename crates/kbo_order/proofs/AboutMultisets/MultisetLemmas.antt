-- The extension of a strict order to multisets is a strict order, and is kept by maps that keep the order (Dershowitz and Manna 1979).
use Rattle.std.proofs.Common.{◌≡◌, ℕ, zero, suc, ◌+◌, ◌<◌, ◌≤◌, ◌⊎◌, Bool, true, List, [], ◌∷◌, ◌++◌, get_or, map, refl, ap, sym, ◌∙◌, inl, inr, ⊎_elim, arith}
use Rattle.std.specs.Prelude.{sum_by}
use Rattle.std.specs.List.{list_any}
use Rattle.std.proofs.lemmas.Bool.{cases_Bool, cases_lt, lt-ltb, ltb-true, false_from_ne_true, true≢false}
use Rattle.std.proofs.lemmas.List.Sums.{sum_by-cons}
use Rattle.std.proofs.lemmas.List.Elements.{All-contains}
use Rattle.fol_base.specs.Multiset.{times, same_multiset, more_often, multiset_greater, Outdoing, MultisetGreater}
use Rattle.fol_base.proofs.AboutClauses.CountLemmas.{times-cons, times-same, same_multiset-counts, same_multiset-from, same_multiset-equivalence, multiset_greater-itself, multiset_greater-decided}
use Rattle.kbo_order.specs.StrictOrder.{IsStrictOrder}
use Rattle.kbo_order.proofs.AboutReading.BitLemmas.{bit}
use Rattle.kbo_order.proofs.AboutMultisets.MemberLemmas.{In, In-contains, contains-In, In-left, In-right, In-map, map-In, any-In, none-In, sum_by-map}

-- a function of what is the same up to sameness
abbrev pub Fits : {X : Type 0} → (X → X → Bool) → (X → ℕ) → Type 0
Fits {X} same h = (x y : X) → same x y ≡ true → h x ≡ h y

-- two lists as what they have in common and what each has besides
pub record Split {X : Type 0} (same : X → X → Bool) (xs ys : List X) : Type 0 where
  pub common : List X
  pub left : List X
  pub right : List X
  pub left_sums : (h : X → ℕ) → Fits same h → sum_by h xs ≡ sum_by h common + sum_by h left
  pub right_sums : (h : X → ℕ) → Fits same h → sum_by h ys ≡ sum_by h common + sum_by h right
  pub apart : (z : X) → (times same z left ≡ 0) ⊎ (times same z right ≡ 0)

-- xs has z more often than ys
abbrev pub Over : {X : Type 0} → (X → X → Bool) → List X → List X → X → Type 0
Over same xs ys z = times same z ys < times same z xs

-- each of ys has something above it in xs
abbrev pub Dominates : {X : Type 0} → (X → X → Bool) → List X → List X → Type 0
Dominates {X} exceeds xs ys = (y : X) → In y ys → (x : X) × In x xs × (exceeds x y ≡ true)

module _ {X : Type 0} (same exceeds : X → X → Bool) (laws : IsStrictOrder same exceeds) where
  pub same-back : (x y : X) → same x y ≡ true → same y x ≡ true
  same-back x y e = laws.is_equivalence.symm y x ∙ e

  -- ---- counts

  pub times-in : (z x : X) (xs : List X) → In x xs → same z x ≡ true → 0 < times same z xs
  times-in z x [] there e = absurd there
  times-in z x (y ∷ ys) there e =
      ⊎_elim
      (λ here.
      let one : bit (same z y) ≡ 1 = ap bit (ap (same z) (sym here) ∙ e) in
      omega (arith, times-cons same z y ys, one))
      (λ later. omega (arith, times-cons same z y ys, times-in z x ys later e))
      there

  times-found : (z : X) (xs : List X) → 0 < times same z xs → (x : X) × In x xs × (same z x ≡ true)
  times-found z [] h = absurd (omega arith)
  times-found z (y ∷ ys) h =
      ⊎_elim
      (λ here. (y, inl refl, here))
      (λ elsewhere.
      let none : bit (same z y) ≡ 0 = ap bit elsewhere in
      let found = times-found z ys (omega (arith, times-cons same z y ys, none)) in
      (found.0, inr found.1, found.2))
      (cases_Bool (same z y))

  -- a member that stands for z
  pub listed : (xs ys : List X) (z : X) → Over same xs ys z → (x : X) × In x xs × (same z x ≡ true) × Over same xs ys x
  listed xs ys z over =
      let found = times-found z xs (omega arith) in
      let a : times same z xs ≡ times same found.0 xs = times-same same laws.is_equivalence z found.0 found.2 xs in
      let b : times same z ys ≡ times same found.0 ys = times-same same laws.is_equivalence z found.0 found.2 ys in
      (found.0, found.1, found.2, omega arith)

  pub outdoing : (xs ys : List X) (y x : X) → Over same xs ys x → exceeds x y ≡ true → Outdoing same exceeds xs ys y
  outdoing xs ys y x over above =
      let found = listed xs ys x over in
      record {
        by = found.0;
        there = In-contains found.0 xs found.1;
        more = found.3;
        exceeds_it = laws.same_left x found.0 y found.2 above;
      }

  -- of a greater multiset: above whatever the smaller one has more often
  pub above :
      (xs ys : List X) → MultisetGreater same exceeds xs ys
      → (z : X) → Over same ys xs z → (x : X) × In x xs × Over same xs ys x × (exceeds x z ≡ true)
  above xs ys greater z over =
      let found = listed ys xs z over in
      let there = In-contains found.0 ys found.1 in
      ⊎_elim
      (λ enough. absurd (omega (arith, found.3)))
      (λ o. (o.by, contains-In o.by xs o.there, o.more, laws.same_right found.0 z o.by (same-back z found.0 found.2) o.exceeds_it))
      (All-contains (λ y. (times same y ys ≤ times same y xs) ⊎ Outdoing same exceeds xs ys y) ys found.0 greater.each_outdone there)

  pub make :
      (xs ys : List X) → (same_multiset same xs ys ≡ true → ⊥)
      → ((z : X) → Over same ys xs z → Outdoing same exceeds xs ys z) → MultisetGreater same exceeds xs ys
  make xs ys differ outdone = record {
    differ = false_from_ne_true (same_multiset same xs ys) differ;
    each_outdone = λ k d in_range.
        let y : X = get_or ys k d in
        ⊎_elim (λ fewer. inr (outdone y fewer)) (λ enough. inl enough) (cases_lt (times same y xs) (times same y ys));
  }

  pub greater-some : (xs ys : List X) → MultisetGreater same exceeds xs ys → (x : X) × In x xs × Over same xs ys x
  greater-some xs ys greater =
      ⊎_elim
      (λ some.
      let found = any-In (more_often same xs ys) xs some in
      (found.0, found.1, ltb-true (times same found.0 ys) (times same found.0 xs) found.2))
      (λ none.
      let missing : (x : X) → In x xs → Over same xs ys x → ⊥ = λ x there over.
      true≢false (sym (lt-ltb (times same x ys) (times same x xs) over) ∙ none-In (more_often same xs ys) xs none x there) in
      let counts : (z : X) → times same z xs ≡ times same z ys = λ z.
      ⊎_elim
      (λ fewer. let found = above xs ys greater z fewer in absurd (missing found.0 found.1 found.2))
      (λ enough.
      ⊎_elim
      (λ more. let found = listed xs ys z more in absurd (missing found.0 found.1 found.3))
      (λ level. omega arith)
      (cases_lt (times same z ys) (times same z xs)))
      (cases_lt (times same z xs) (times same z ys)) in
      absurd (true≢false (sym (same_multiset-from same xs ys counts) ∙ greater.differ)))
      (cases_Bool (list_any (more_often same xs ys) xs))

  -- ---- going upwards in a list ends

  abbrev height : X → List X → ℕ
  height x xs = sum_by (λ w. bit (exceeds w x)) xs

  lower : (x y w : X) → exceeds y x ≡ true → bit (exceeds w y) ≤ bit (exceeds w x)
  lower x y w above_x =
      ⊎_elim
      (λ over.
      let a : bit (exceeds w y) ≡ 1 = ap bit over in
      let b : bit (exceeds w x) ≡ 1 = ap bit (laws.is_transitive w y x over above_x) in
      omega arith)
      (λ not_over. let a : bit (exceeds w y) ≡ 0 = ap bit not_over in omega arith)
      (cases_Bool (exceeds w y))

  heights : (x y : X) (xs : List X) → exceeds y x ≡ true → height y xs ≤ height x xs
  heights x y [] h = omega arith
  heights x y (w ∷ ws) h =
      omega (
        arith,
        heights x y ws h,
        lower x y w h,
        sum_by-cons (λ v. bit (exceeds v y)) w ws,
        sum_by-cons (λ v. bit (exceeds v x)) w ws,
      )

  heights-fall : (x y : X) (xs : List X) → In y xs → exceeds y x ≡ true → height y xs < height x xs
  heights-fall x y [] there h = absurd there
  heights-fall x y (w ∷ ws) there h =
      ⊎_elim
      (λ here.
      let a : bit (exceeds w y) ≡ 0 = ap bit (ap (λ (v : X). exceeds v y) (sym here) ∙ laws.is_irreflexive y) in
      let b : bit (exceeds w x) ≡ 1 = ap bit (ap (λ (v : X). exceeds v x) (sym here) ∙ h) in
      omega (
        arith,
        heights x y ws h,
        sum_by-cons (λ v. bit (exceeds v y)) w ws,
        sum_by-cons (λ v. bit (exceeds v x)) w ws,
      ))
      (λ later.
      omega (
        arith,
        heights-fall x y ws later h,
        lower x y w h,
        sum_by-cons (λ v. bit (exceeds v y)) w ws,
        sum_by-cons (λ v. bit (exceeds v x)) w ws,
      ))
      there

  climb-below :
      (P : X → Type 0) (Goal : Type 0) (xs : List X)
      → ((x : X) → In x xs → P x → Goal ⊎ ((y : X) × In y xs × P y × (exceeds y x ≡ true)))
      → (n : ℕ) (x : X) → height x xs < n → In x xs → P x → Goal
  climb-below P Goal xs step zero x h there p = absurd (omega arith)
  climb-below P Goal xs step (suc n) x h there p =
      ⊎_elim
      (λ g. g)
      (λ next. climb-below P Goal xs step n next.0 (omega (arith, heights-fall x next.0 xs next.1 next.3)) next.1 next.2)
      (step x there p)

  climb :
      (P : X → Type 0) (Goal : Type 0) (xs : List X)
      → ((x : X) → In x xs → P x → Goal ⊎ ((y : X) × In y xs × P y × (exceeds y x ≡ true)))
      → (x : X) → In x xs → P x → Goal
  climb P Goal xs step x there p = climb-below P Goal xs step (suc (height x xs)) x (omega arith) there p

  -- ---- a strict order

  trans : (xs ys zs : List X) → MultisetGreater same exceeds xs ys → MultisetGreater same exceeds ys zs → MultisetGreater same exceeds xs zs
  trans xs ys zs first second =
      let State : X → Type 0 = λ x. Over same xs ys x ⊎ Over same ys zs x in
      make xs zs
      (λ e.
      let counts : (z : X) → times same z xs ≡ times same z zs = same_multiset-counts same laws.is_equivalence xs zs e in
      let start = greater-some xs ys first in
      climb State ⊥ (xs ++ ys)
      (λ x there state.
      ⊎_elim
      (λ over.
      let level : times same x xs ≡ times same x zs = counts x in
      let next = above ys zs second x (omega arith) in
      inr (next.0, In-right next.0 xs ys next.1, inr next.2, next.3))
      (λ over.
      let level : times same x xs ≡ times same x zs = counts x in
      let next = above xs ys first x (omega arith) in
      inr (next.0, In-left next.0 xs ys next.1, inl next.2, next.3))
      state)
      start.0 (In-left start.0 xs ys start.1) (inl start.2))
      (λ z over.
      let Rising : X → Type 0 = λ x. (exceeds x z ≡ true) × State x in
      let Done : Type 0 = Outdoing same exceeds xs zs z in
      let step : (x : X) → In x (xs ++ ys) → Rising x → Done ⊎ ((y : X) × In y (xs ++ ys) × Rising y × (exceeds y x ≡ true)) = λ x there rising.
      ⊎_elim
      (λ more. inl (outdoing xs zs z x more rising.0))
      (λ no_more.
      ⊎_elim
      (λ fewer.
      let next = above ys zs second x (omega arith) in
      inr (next.0, In-right next.0 xs ys next.1, (laws.is_transitive next.0 x z next.3 rising.0, inr next.2), next.3))
      (λ fewer.
      let next = above xs ys first x (omega arith) in
      inr (next.0, In-left next.0 xs ys next.1, (laws.is_transitive next.0 x z next.3 rising.0, inl next.2), next.3))
      rising.1)
      (cases_lt (times same x zs) (times same x xs)) in
      ⊎_elim
      (λ here.
      let start = above ys zs second z here in
      climb Rising Done (xs ++ ys) step start.0 (In-right start.0 xs ys start.1) (start.3, inr start.2))
      (λ elsewhere.
      let start = above xs ys first z (omega arith) in
      climb Rising Done (xs ++ ys) step start.0 (In-left start.0 xs ys start.1) (start.3, inl start.2))
      (cases_lt (times same z ys) (times same z zs)))

  -- only counts matter
  level-left :
      (xs ys zs : List X) → same_multiset same xs ys ≡ true → MultisetGreater same exceeds xs zs → MultisetGreater same exceeds ys zs
  level-left xs ys zs e greater =
      let counts : (z : X) → times same z xs ≡ times same z ys = same_multiset-counts same laws.is_equivalence xs ys e in
      make ys zs
      (λ d.
      let others : (z : X) → times same z ys ≡ times same z zs = same_multiset-counts same laws.is_equivalence ys zs d in
      true≢false (sym (same_multiset-from same xs zs (λ z. counts z ∙ others z)) ∙ greater.differ))
      (λ z over.
      let a : times same z xs ≡ times same z ys = counts z in
      let found = above xs zs greater z (omega arith) in
      let b : times same found.0 xs ≡ times same found.0 ys = counts found.0 in
      outdoing ys zs z found.0 (omega (arith, found.2)) found.3)

  pub level-right :
      (xs ys zs : List X) → same_multiset same xs ys ≡ true → MultisetGreater same exceeds zs xs → MultisetGreater same exceeds zs ys
  level-right xs ys zs e greater =
      let counts : (z : X) → times same z xs ≡ times same z ys = same_multiset-counts same laws.is_equivalence xs ys e in
      make zs ys
      (λ d.
      let others : (z : X) → times same z zs ≡ times same z ys = same_multiset-counts same laws.is_equivalence zs ys d in
      true≢false (sym (same_multiset-from same zs xs (λ z. others z ∙ sym (counts z))) ∙ greater.differ))
      (λ z over.
      let a : times same z xs ≡ times same z ys = counts z in
      let found = above zs xs greater z (omega arith) in
      let b : times same found.0 xs ≡ times same found.0 ys = counts found.0 in
      outdoing zs ys z found.0 (omega (arith, found.2)) found.3)

  pub multisets_ordered : IsStrictOrder (same_multiset same) (multiset_greater same exceeds)
  multisets_ordered = record {
    is_equivalence = same_multiset-equivalence same laws.is_equivalence;
    same_left = λ xs ys zs e h.
        (multiset_greater-decided same exceeds ys zs).1 (level-left xs ys zs e ((multiset_greater-decided same exceeds xs zs).0 h));
    same_right = λ xs ys zs e h.
        (multiset_greater-decided same exceeds zs ys).1 (level-right xs ys zs e ((multiset_greater-decided same exceeds zs xs).0 h));
    is_irreflexive = λ xs. multiset_greater-itself same exceeds xs;
    is_transitive = λ xs ys zs h k.
        (multiset_greater-decided same exceeds xs zs).1
        (trans xs ys zs ((multiset_greater-decided same exceeds xs ys).0 h) ((multiset_greater-decided same exceeds ys zs).0 k));
  }

  -- ---- two lists apart

  pub Fits-times : (z : X) → Fits same (λ y. bit (same z y))
  Fits-times z x y e =
      ap bit (laws.is_equivalence.symm z x ∙ laws.is_equivalence.congr x y z e ∙ laws.is_equivalence.symm y z)

  take_out :
      (n : X) (xs : List X)
      → ((x : X) × (rest : List X) × (same n x ≡ true) × ((h : X → ℕ) → sum_by h xs ≡ h x + sum_by h rest)) ⊎ (times same n xs ≡ 0)
  take_out n [] = inr refl
  take_out n (x ∷ xs) =
      ⊎_elim
      (λ hit. inl (x, xs, hit, λ h. sum_by-cons h x xs))
      (λ miss.
      ⊎_elim
      (λ t. inl (t.0, x ∷ t.1, t.2, λ h. omega (arith, sum_by-cons h x xs, sum_by-cons h x t.1, t.3 h)))
      (λ none.
      let zero_here : bit (same n x) ≡ 0 = ap bit miss in
      inr (omega (arith, times-cons same n x xs, zero_here, none)))
      (take_out n xs))
      (cases_Bool (same n x))

  pub split : (xs ys : List X) → Split same xs ys
  split xs [] = record {
    common = [];
    left = xs;
    right = [];
    left_sums = λ h fits. omega arith;
    right_sums = λ h fits. refl;
    apart = λ z. inr refl;
  }
  split xs (y ∷ ys) =
      let s = split xs ys in
      ⊎_elim
      (λ t. record {
        common = t.0 ∷ s.common;
        left = t.1;
        right = s.right;
        left_sums = λ h fits. omega (arith, s.left_sums h fits, t.3 h, sum_by-cons h t.0 s.common);
        right_sums = λ h fits. omega (arith, s.right_sums h fits, sum_by-cons h y ys, sum_by-cons h t.0 s.common, fits y t.0 t.2);
        apart = λ z.
            ⊎_elim
            (λ none. let e : times same z s.left ≡ bit (same z t.0) + times same z t.1 = t.3 (λ x. bit (same z x)) in inl (omega arith))
            (λ none. inr none)
            (s.apart z);
      })
      (λ none. record {
        common = s.common;
        left = s.left;
        right = y ∷ s.right;
        left_sums = s.left_sums;
        right_sums = λ h fits. omega (arith, s.right_sums h fits, sum_by-cons h y ys, sum_by-cons h y s.right);
        apart = λ z.
            ⊎_elim
            (λ e. inl (times-same same laws.is_equivalence z y e s.left ∙ none))
            (λ e.
            let zero_here : bit (same z y) ≡ 0 = ap bit e in
            ⊎_elim (λ a. inl a) (λ a. inr (omega (arith, times-cons same z y s.right, zero_here, a))) (s.apart z))
            (cases_Bool (same z y));
      })
      (take_out y s.left)

  -- what a greater multiset has besides dominates what the smaller one has
  pub split-dominates : (xs ys : List X) (s : Split same xs ys) → MultisetGreater same exceeds xs ys → Dominates exceeds s.left s.right
  split-dominates xs ys s greater y there =
      let lefts : (z : X) → times same z xs ≡ times same z s.common + times same z s.left = λ z. s.left_sums (λ x. bit (same z x)) (Fits-times z) in
      let rights : (z : X) → times same z ys ≡ times same z s.common + times same z s.right = λ z. s.right_sums (λ x. bit (same z x)) (Fits-times z) in
      let some : 0 < times same y s.right = times-in y y s.right there (laws.is_equivalence.refl y) in
      let none : times same y s.left ≡ 0 = ⊎_elim (λ e. e) (λ e. absurd (omega arith)) (s.apart y) in
      let found = above xs ys greater y (omega (arith, lefts y, rights y)) in
      let over : times same found.0 ys < times same found.0 xs = found.2 in
      let member = times-found found.0 s.left (omega (arith, lefts found.0, rights found.0)) in
      (member.0, member.1, laws.same_left found.0 member.0 y member.2 found.3)

  pub split-some : (xs ys : List X) (s : Split same xs ys) → MultisetGreater same exceeds xs ys → (x : X) × In x s.left
  split-some xs ys s greater =
      let found = greater-some xs ys greater in
      let over : times same found.0 ys < times same found.0 xs = found.2 in
      let member =
      times-found found.0 s.left
      (omega (
        arith,
        s.left_sums (λ x. bit (same found.0 x)) (Fits-times found.0),
        s.right_sums (λ x. bit (same found.0 x)) (Fits-times found.0),
      )) in
      (member.0, member.1)

  -- what dominates is greater, whatever the two have in common
  pub dominating-greater :
      (xs ys common left right : List X)
      → ((z : X) → times same z xs ≡ times same z common + times same z left)
      → ((z : X) → times same z ys ≡ times same z common + times same z right)
      → (x : X) → In x left → Dominates exceeds left right → MultisetGreater same exceeds xs ys
  dominating-greater xs ys common left right lefts rights x there dominates =
      let upwards : (z : X) → 0 < times same z right → (w : X) × In w left × (exceeds w z ≡ true) = λ z some.
      let found = times-found z right some in
      let next = dominates found.0 found.1 in
      (next.0, next.1, laws.same_right found.0 z next.0 (same-back z found.0 found.2) next.2) in
      make xs ys
      (λ e.
      let counts : (z : X) → times same z xs ≡ times same z ys = same_multiset-counts same laws.is_equivalence xs ys e in
      climb (λ w. Unit {0}) ⊥ left
      (λ w in_left _.
      let some : 0 < times same w left = times-in w w left in_left (laws.is_equivalence.refl w) in
      let next = upwards w (omega (arith, counts w, lefts w, rights w)) in
      inr (next.0, next.1, tt, next.2))
      x there tt)
      (λ z over.
      let start = upwards z (omega (arith, lefts z, rights z)) in
      climb (λ w. exceeds w z ≡ true) (Outdoing same exceeds xs ys z) left
      (λ w in_left w_above.
      ⊎_elim
      (λ more. inl (outdoing xs ys z w more w_above))
      (λ no_more.
      let some : 0 < times same w left = times-in w w left in_left (laws.is_equivalence.refl w) in
      let next = upwards w (omega (arith, lefts w, rights w)) in
      inr (next.0, next.1, laws.is_transitive next.0 w z next.2 w_above, next.2))
      (cases_lt (times same w ys) (times same w xs)))
      start.0 start.1 start.2)

-- a map that keeps sameness and the order keeps the order of multisets
pub multiset-stable :
    {X Y : Type 0} (same exceeds : X → X → Bool) (same' exceeds' : Y → Y → Bool)
    → IsStrictOrder same exceeds → IsStrictOrder same' exceeds'
    → (f : X → Y) → ((x y : X) → same x y ≡ true → same' (f x) (f y) ≡ true) → ((x y : X) → exceeds x y ≡ true → exceeds' (f x) (f y) ≡ true)
    → (xs ys : List X) → MultisetGreater same exceeds xs ys → MultisetGreater same' exceeds' (map f xs) (map f ys)
multiset-stable {X} {Y} same exceeds same' exceeds' laws laws' f keeps_same keeps xs ys greater =
    let s = split same exceeds laws xs ys in
    let count : (z : Y) → X → ℕ = λ z x. bit (same' z (f x)) in
    let fits : (z : Y) → Fits same (count z) = λ z x y e. Fits-times same' exceeds' laws' z (f x) (f y) (keeps_same x y e) in
    let mapped : (z : Y) (us : List X) → times same' z (map f us) ≡ sum_by (count z) us = λ z us. sum_by-map f (λ y. bit (same' z y)) us in
    let first = split-some same exceeds laws xs ys s greater in
    dominating-greater same' exceeds' laws' (map f xs) (map f ys) (map f s.common) (map f s.left) (map f s.right)
    (λ z. omega (arith, mapped z xs, mapped z s.common, mapped z s.left, s.left_sums (count z) (fits z)))
    (λ z. omega (arith, mapped z ys, mapped z s.common, mapped z s.right, s.right_sums (count z) (fits z)))
    (f first.0) (In-map f first.0 s.left first.1)
    (λ y there.
    let below = map-In f y s.right there in
    let over = split-dominates same exceeds laws xs ys s greater below.0 below.1 in
    (f over.0, In-map f over.0 s.left over.1, ap (exceeds' (f over.0)) below.2 ∙ keeps over.0 below.0 over.2))
