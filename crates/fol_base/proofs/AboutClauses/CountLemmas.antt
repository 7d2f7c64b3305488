-- How often something stands in a list, and multisets.
use Rattle.std.proofs.Common.{◌≡◌, ◌+◌, ◌<◌, ◌≤◌, Bool, true, false, not, ◌&&◌, ◌==◌, cond, ◌⊎◌, List, [], ◌∷◌, ◌++◌, refl, ap, ap₂, sym, ◌∙◌, inl, inr, ⊎_elim, arith}
use Rattle.std.specs.Bool.{Decides}
use Rattle.std.specs.Cmp.{IsEquivalence}
use Rattle.std.specs.List.{list_any, list_all}
use Rattle.std.proofs.lemmas.Bool.{and_parts, and_from, or_cases, or_left, or_right, or_parts, not-true, eq-eqb, eqb-true, lt-ltb, le-ltb, ltb-true, ltb-false, cases_Bool, and_left, true≢false}
use Rattle.std.proofs.lemmas.List.Folds.{Any-from_list_any, list_any-from_Any, list_all-append}
use Rattle.std.proofs.lemmas.List.Sums.{sum_by-cons, sum_by-append, AllPass-from_list_all, list_all-from_AllPass}
use Rattle.std.proofs.lemmas.List.Elements.{All-weaker}
use Rattle.fol_base.specs.Multiset.{times, same_multiset, more_often, outdone, multiset_greater, Outdoing, MultisetGreater}

pub list_all-always : {X : Type 0} (p : X → Bool) → ((x : X) → p x ≡ true) → (xs : List X) → list_all p xs ≡ true
list_all-always p h [] = refl
list_all-always p h (x ∷ xs) = and_from (p x) (list_all p xs) (h x) (list_all-always p h xs)

-- ---- counts

pub times-cons :
    {X : Type 0} (same : X → X → Bool) (z x : X) (xs : List X) → times same z (x ∷ xs) ≡ cond (same z x) 1 0 + times same z xs
times-cons same z x xs = sum_by-cons (λ y. cond (same z y) 1 0) x xs

pub times-append :
    {X : Type 0} (same : X → X → Bool) (z : X) (xs ys : List X) → times same z (xs ++ ys) ≡ times same z xs + times same z ys
times-append same z xs ys = sum_by-append (λ y. cond (same z y) 1 0) xs ys

-- what is the same stands equally often
pub times-agree :
    {X : Type 0} (same : X → X → Bool) (z w : X) → ((x : X) → same z x ≡ same w x) → (xs : List X) → times same z xs ≡ times same w xs
times-agree same z w h [] = refl
times-agree same z w h (x ∷ xs) =
    times-cons same z x xs ∙ ap₂ (λ b n. cond b 1 0 + n) (h x) (times-agree same z w h xs) ∙ sym (times-cons same w x xs)

pub times-same :
    {X : Type 0} (same : X → X → Bool) → IsEquivalence same → (z w : X) → same z w ≡ true → (xs : List X) → times same z xs ≡ times same w xs
times-same same laws z w e xs = times-agree same z w (λ x. laws.congr z w x e) xs

-- it stands in a list exactly where something of the list is the same
pub times-none : {X : Type 0} (same : X → X → Bool) (z : X) (xs : List X) → list_any (same z) xs ≡ false → times same z xs ≡ 0
times-none same z [] h = refl
times-none same z (x ∷ xs) h =
    let parts = or_parts (same z x) (list_any (same z) xs) h in
    times-cons same z x xs ∙ ap₂ (λ b n. cond b 1 0 + n) parts.0 (times-none same z xs parts.1)

pub times-some : {X : Type 0} (same : X → X → Bool) (z : X) (xs : List X) → list_any (same z) xs ≡ true → 0 < times same z xs
times-some same z [] h = absurd (true≢false (sym h))
times-some same z (x ∷ xs) h =
    ⊎_elim
    (λ here. let n : times same z (x ∷ xs) ≡ 1 + times same z xs = times-cons same z x xs ∙ ap (λ b. cond b 1 0 + times same z xs) here in omega arith)
    (λ later. let i : 0 < times same z xs = times-some same z xs later in let n : times same z (x ∷ xs) ≡ cond (same z x) 1 0 + times same z xs = times-cons same z x xs in omega arith)
    (or_cases (same z x) (list_any (same z) xs) h)

-- ---- the same multiset

pub same_multiset-itself : {X : Type 0} (same : X → X → Bool) (xs : List X) → same_multiset same xs xs ≡ true
same_multiset-itself same xs =
    list_all-always (λ z. times same z xs == times same z xs) (λ z. eq-eqb (times same z xs) (times same z xs) refl) (xs ++ xs)

-- a test that each member passes is passed by whatever stands there
listed-passes :
    {X : Type 0} (same : X → X → Bool) (p : X → Bool) (z : X) → ((x : X) → same z x ≡ true → p x ≡ true → p z ≡ true)
    → (xs : List X) → list_all p xs ≡ true → list_any (same z) xs ≡ true → p z ≡ true
listed-passes same p z h [] all some = absurd (true≢false (sym some))
listed-passes same p z h (x ∷ xs) all some =
    let parts = and_parts (p x) (list_all p xs) all in
    ⊎_elim (λ here. h x here parts.0) (λ later. listed-passes same p z h xs parts.1 later) (or_cases (same z x) (list_any (same z) xs) some)

-- equal counts of what is listed are equal counts of all
pub same_multiset-counts :
    {X : Type 0} (same : X → X → Bool) → IsEquivalence same
    → (xs ys : List X) → same_multiset same xs ys ≡ true → (z : X) → times same z xs ≡ times same z ys
same_multiset-counts {X} same laws xs ys h z =
    let p : X → Bool = λ w. times same w xs == times same w ys in
    let both = and_parts (list_all p xs) (list_all p ys) (sym (list_all-append p xs ys) ∙ h) in
    let carried : (x : X) → same z x ≡ true → p x ≡ true → p z ≡ true = λ x e q.
    eq-eqb (times same z xs) (times same z ys)
    (times-same same laws z x e xs ∙ eqb-true (times same x xs) (times same x ys) q ∙ sym (times-same same laws z x e ys)) in
    ⊎_elim
    (λ some. eqb-true (times same z xs) (times same z ys) (listed-passes same p z carried xs both.0 some))
    (λ none.
    ⊎_elim
    (λ some. eqb-true (times same z xs) (times same z ys) (listed-passes same p z carried ys both.1 some))
    (λ none'. times-none same z xs none ∙ sym (times-none same z ys none'))
    (cases_Bool (list_any (same z) ys)))
    (cases_Bool (list_any (same z) xs))

pub same_multiset-from :
    {X : Type 0} (same : X → X → Bool) (xs ys : List X)
    → ((z : X) → times same z xs ≡ times same z ys) → same_multiset same xs ys ≡ true
same_multiset-from same xs ys h =
    list_all-always (λ z. times same z xs == times same z ys) (λ z. eq-eqb (times same z xs) (times same z ys) (h z)) (xs ++ ys)

-- ---- equivalences

pub same_answer : (b d : Bool) → (b ≡ true → d ≡ true) → (d ≡ true → b ≡ true) → b ≡ d
same_answer true d h k = sym (h refl)
same_answer false true h k = k refl
same_answer false false h k = refl

pub equivalence_from :
    {X : Type 0} (E : X → X → Bool) (P : X → X → Type 0) → ((x y : X) → Decides (E x y) (P x y))
    → ((x : X) → P x x) → ((x y : X) → P x y → P y x) → ((x y z : X) → P x y → P y z → P x z) → IsEquivalence E
equivalence_from E P decides reflexive symmetric transitive = record {
  refl = λ x. (decides x x).1 (reflexive x);
  symm = λ x y.
      same_answer (E x y) (E y x)
      (λ e. (decides y x).1 (symmetric x y ((decides x y).0 e)))
      (λ e. (decides x y).1 (symmetric y x ((decides y x).0 e)));
  congr = λ x y z e.
      same_answer (E x z) (E y z)
      (λ h. (decides y z).1 (transitive y x z (symmetric x y ((decides x y).0 e)) ((decides x z).0 h)))
      (λ h. (decides x z).1 (transitive x y z ((decides x y).0 e) ((decides y z).0 h)));
}

pub same_multiset-decided :
    {X : Type 0} (same : X → X → Bool) → IsEquivalence same
    → (xs ys : List X) → Decides (same_multiset same xs ys) ((z : X) → times same z xs ≡ times same z ys)
same_multiset-decided same laws xs ys = (same_multiset-counts same laws xs ys, same_multiset-from same xs ys)

pub same_multiset-equivalence : {X : Type 0} (same : X → X → Bool) → IsEquivalence same → IsEquivalence (same_multiset same)
same_multiset-equivalence {X} same laws =
    equivalence_from (same_multiset same) (λ xs ys. (z : X) → times same z xs ≡ times same z ys)
    (same_multiset-decided same laws) (λ xs z. refl) (λ xs ys h z. sym (h z)) (λ xs ys zs h k z. h z ∙ k z)

-- ---- the extension of an order

-- nothing is greater than itself
pub multiset_greater-itself : {X : Type 0} (same exceeds : X → X → Bool) (xs : List X) → multiset_greater same exceeds xs xs ≡ false
multiset_greater-itself same exceeds xs =
    and_left (not (same_multiset same xs xs)) (list_all (outdone same exceeds xs xs) xs) (ap not (same_multiset-itself same xs))

outdone-says :
    {X : Type 0} (same exceeds : X → X → Bool) (xs ys : List X) (y : X)
    → outdone same exceeds xs ys y ≡ true → (times same y ys ≤ times same y xs) ⊎ Outdoing same exceeds xs ys y
outdone-says {X} same exceeds xs ys y h =
    let better : X → Bool = λ x. more_often same xs ys x && exceeds x y in
    ⊎_elim
    (λ e. inl (ltb-false (times same y xs) (times same y ys) (not-true (more_often same ys xs y) e)))
    (λ e.
    let found = Any-from_list_any better xs e in
    let parts = and_parts (more_often same xs ys found.1) (exceeds found.1 y) found.4 in
    inr (record {
      by = found.1;
      there = (found.0, found.2, found.3);
      more = ltb-true (times same found.1 ys) (times same found.1 xs) parts.0;
      exceeds_it = parts.1;
    }))
    (or_cases (not (more_often same ys xs y)) (list_any better xs) h)

outdone-from :
    {X : Type 0} (same exceeds : X → X → Bool) (xs ys : List X) (y : X)
    → (times same y ys ≤ times same y xs) ⊎ Outdoing same exceeds xs ys y → outdone same exceeds xs ys y ≡ true
outdone-from {X} same exceeds xs ys y h =
    let better : X → Bool = λ x. more_often same xs ys x && exceeds x y in
    ⊎_elim
    (λ e. or_left (not (more_often same ys xs y)) (list_any better xs) (ap not (le-ltb (times same y xs) (times same y ys) e)))
    (λ e.
    or_right (not (more_often same ys xs y)) (list_any better xs)
    (list_any-from_Any better xs (
      e.there.0,
      e.by,
      e.there.1,
      e.there.2,
      and_from (more_often same xs ys e.by) (exceeds e.by y) (lt-ltb (times same e.by ys) (times same e.by xs) e.more) e.exceeds_it,
    )))
    h

pub multiset_greater-decided :
    {X : Type 0} (same exceeds : X → X → Bool) (xs ys : List X)
    → Decides (multiset_greater same exceeds xs ys) (MultisetGreater same exceeds xs ys)
multiset_greater-decided {X} same exceeds xs ys =
    let Fits : X → Type 0 = λ y. (times same y ys ≤ times same y xs) ⊎ Outdoing same exceeds xs ys y in
    let Passes : X → Type 0 = λ y. outdone same exceeds xs ys y ≡ true in (
      λ h.
          let parts = and_parts (not (same_multiset same xs ys)) (list_all (outdone same exceeds xs ys) ys) h in
          record {
            differ = not-true (same_multiset same xs ys) parts.0;
            each_outdone = All-weaker Passes Fits (outdone-says same exceeds xs ys) ys (AllPass-from_list_all (outdone same exceeds xs ys) ys parts.1);
          },
      λ h.
          and_from (not (same_multiset same xs ys)) (list_all (outdone same exceeds xs ys) ys)
          (ap not h.differ)
          (list_all-from_AllPass (outdone same exceeds xs ys) ys (All-weaker Fits Passes (outdone-from same exceeds xs ys) ys h.each_outdone)),
    )
