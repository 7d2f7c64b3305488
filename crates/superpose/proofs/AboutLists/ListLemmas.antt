-- Members of lists, and lists that have each element once.
use Rattle.std.proofs.Common.{◌≡◌, ◌⊎◌, ℕ, zero, suc, Bool, true, Option, None, Some, List, [], ◌∷◌, ◌++◌, map, refl, ap, sym, ◌∙◌, subst, inl, inr, ⊎_elim, arith}
use Rattle.std.specs.Prelude.{flat_map, filter, slice_get, Contains}
use Rattle.std.specs.Option.{option_to_list, IsSome}
use Rattle.std.proofs.lemmas.Bool.{true≢false, cases_Bool, cond-true, cond-false}
use Rattle.std.proofs.lemmas.Option.{same_Some}
use Rattle.std.proofs.lemmas.List.Elements.{Contains-append_left, Contains-append_right, Contains-get_or}
pub use Rattle.kbo_order.proofs.AboutMultisets.MemberLemmas.{In, In-left, In-right}
use Rattle.kbo_order.proofs.AboutMultisets.MemberLemmas.{map-In}
use Rattle.kbo_order.proofs.AboutMultisets.ClauseLoops.{In-index}

-- ---- members

pub In-either : {X : Type 0} (x : X) (xs ys : List X) → In x (xs ++ ys) → In x xs ⊎ In x ys
In-either x [] ys h = inr h
In-either x (z ∷ xs) ys h =
    ⊎_elim (λ e. inl (inl e)) (λ e. ⊎_elim (λ f. inl (inr f)) (λ f. inr f) (In-either x xs ys e)) h

pub In-flat_map : {X Y : Type 0} (f : X → List Y) (x : X) (y : Y) (xs : List X) → In x xs → In y (f x) → In y (flat_map f xs)
In-flat_map {X = X} {Y = Y} f x y [] h k = absurd h
In-flat_map {X = X} {Y = Y} f x y (z ∷ xs) h k =
    ⊎_elim
    (λ e. In-left y (f z) (flat_map f xs) (subst (λ (w : X). In y (f w)) e k))
    (λ e. In-right y (f z) (flat_map f xs) (In-flat_map f x y xs e k))
    h

pub In-flat_mapped : {X Y : Type 0} (f : X → List Y) (y : Y) (xs : List X) → In y (flat_map f xs) → (x : X) × In x xs × In y (f x)
In-flat_mapped f y [] h = absurd h
In-flat_mapped f y (z ∷ xs) h =
    ⊎_elim
    (λ e. (z, inl refl, e))
    (λ e. let found = In-flat_mapped f y xs e in (found.0, inr found.1, found.2))
    (In-either y (f z) (flat_map f xs) h)

pub In-filter : {X : Type 0} (test : X → Bool) (x : X) (xs : List X) → In x xs → test x ≡ true → In x (filter test xs)
In-filter {X = X} test x [] h passes = absurd h
In-filter {X = X} test x (z ∷ xs) h passes =
    ⊎_elim
    (λ e.
    subst (λ (ys : List X). In x ys) (sym (cond-true (test z) (z ∷ filter test xs) (filter test xs) (ap test (sym e) ∙ passes))) (inl e))
    (λ e.
    ⊎_elim
    (λ kept. subst (λ (ys : List X). In x ys) (sym (cond-true (test z) (z ∷ filter test xs) (filter test xs) kept)) (inr (In-filter test x xs e passes)))
    (λ gone. subst (λ (ys : List X). In x ys) (sym (cond-false (test z) (z ∷ filter test xs) (filter test xs) gone)) (In-filter test x xs e passes))
    (cases_Bool (test z)))
    h

pub In-filtered : {X : Type 0} (test : X → Bool) (x : X) (xs : List X) → In x (filter test xs) → In x xs × (test x ≡ true)
In-filtered {X = X} test x [] h = absurd h
In-filtered {X = X} test x (z ∷ xs) h =
    ⊎_elim
    (λ kept.
    ⊎_elim
    (λ e. (inl e, ap test e ∙ kept))
    (λ e. let rest = In-filtered test x xs e in (inr rest.0, rest.1))
    (subst (λ (ys : List X). In x ys) (cond-true (test z) (z ∷ filter test xs) (filter test xs) kept) h))
    (λ gone.
    let rest = In-filtered test x xs (subst (λ (ys : List X). In x ys) (cond-false (test z) (z ∷ filter test xs) (filter test xs) gone) h) in
    (inr rest.0, rest.1))
    (cases_Bool (test z))

pub In-contained : {X : Type 0} (x : X) (xs : List X) → In x xs → Contains xs x
In-contained {X = X} x [] h = absurd h
In-contained {X = X} x (z ∷ xs) h =
    ⊎_elim
    (λ e. subst (λ (w : X). Contains (z ∷ xs) w) (sym e) (Contains-append_left (z ∷ []) xs z (Contains-get_or (z ∷ []) 0 z (omega arith))))
    (λ e. Contains-append_right (z ∷ []) xs x (In-contained x xs e))
    h

-- ---- each once

abbrev pub Once : {X : Type 0} → List X → Type 0
Once [] = Unit {0}
Once (x ∷ xs) = (In x xs → ⊥) × Once xs

pub Once-append :
    {X : Type 0} (xs ys : List X) → Once xs → Once ys → ((x : X) → In x xs → In x ys → ⊥) → Once (xs ++ ys)
Once-append [] ys h k apart = k
Once-append (x ∷ xs) ys h k apart = (
  (λ e. ⊎_elim (λ f. h.0 f) (λ f. apart x (inl refl) f) (In-either x xs ys e)),
  Once-append xs ys h.1 k (λ z in_xs in_ys. apart z (inr in_xs) in_ys),
)

pub Once-front : {X : Type 0} (xs ys : List X) → Once (xs ++ ys) → Once xs
Once-front [] ys h = tt
Once-front (x ∷ xs) ys h = ((λ e. h.0 (In-left x xs ys e)), Once-front xs ys h.1)

pub Once-map : {X Y : Type 0} (f : X → Y) (xs : List X) → ((x y : X) → f x ≡ f y → x ≡ y) → Once xs → Once (map f xs)
Once-map {X = X} f [] apart h = tt
Once-map {X = X} f (x ∷ xs) apart h = (
  (λ e.
      let found = map-In f (f x) xs e in
      h.0 (subst (λ (z : X). In z xs) (sym (apart x found.0 found.2)) found.1)),
  Once-map f xs apart h.1,
)

pub Once-filter : {X : Type 0} (test : X → Bool) (xs : List X) → Once xs → Once (filter test xs)
Once-filter {X = X} test [] h = tt
Once-filter {X = X} test (x ∷ xs) h =
    ⊎_elim
    (λ kept.
    subst (λ (ys : List X). Once ys) (sym (cond-true (test x) (x ∷ filter test xs) (filter test xs) kept))
    ((λ e. h.0 (In-filtered test x xs e).0), Once-filter test xs h.1))
    (λ gone.
    subst (λ (ys : List X). Once ys) (sym (cond-false (test x) (x ∷ filter test xs) (filter test xs) gone)) (Once-filter test xs h.1))
    (cases_Bool (test x))

-- lists of different elements, where no two of them share anything
pub Once-flat_map :
    {X Y : Type 0} (f : X → List Y) (xs : List X)
    → ((x : X) → Once (f x)) → ((x z : X) (y : Y) → In y (f x) → In y (f z) → x ≡ z) → Once xs → Once (flat_map f xs)
Once-flat_map {X = X} f [] each apart h = tt
Once-flat_map {X = X} f (x ∷ xs) each apart h =
    Once-append (f x) (flat_map f xs) (each x) (Once-flat_map f xs each apart h.1)
    (λ y here later.
    let found = In-flat_mapped f y xs later in
    h.0 (subst (λ (z : X). In z xs) (sym (apart x found.0 y here found.2)) found.1))

-- ---- the last element

not_empty : {X : Type 0} (ys : List X) (y : X) → [] ≡ ys ++ y ∷ [] → ⊥
not_empty [] y e = absurd (cc)
not_empty (z ∷ ys) y e = absurd (cc)

fronts_same : {X : Type 0} (xs ys : List X) (x y : X) → xs ++ x ∷ [] ≡ ys ++ y ∷ [] → xs ≡ ys
fronts_same [] [] x y e = refl
fronts_same [] (b ∷ ys) x y e = absurd (not_empty ys y (cc))
fronts_same (a ∷ xs) [] x y e = absurd (not_empty xs x (cc))
fronts_same {X = X} (a ∷ xs) (b ∷ ys) x y e =
    let rest : xs ++ x ∷ [] ≡ ys ++ y ∷ [] = cc in
    let same : xs ≡ ys = fronts_same xs ys x y rest in
    let head : a ≡ b = cc in
    cc

-- what was pushed last leaves
pub popped :
    (front pushed rest : List ℕ) (x : ℕ) (r : Option ℕ)
    → pushed ≡ front ++ x ∷ [] → pushed ≡ rest ++ option_to_list r → IsSome r → rest ≡ front
popped front pushed rest x None is left some = absurd (true≢false (sym some))
popped front pushed rest x (Some y) is left some = sym (fronts_same front rest x y (sym is ∙ left))

-- what stands once has one place
pub Once-place :
    {X : Type 0} (xs : List X) (i j : ℕ) (x : X) → Once xs → slice_get xs i ≡ Some x → slice_get xs j ≡ Some x → i ≡ j
Once-place [] i j x once at_i at_j = absurd (cc)
Once-place (y ∷ ys) zero zero x once at_i at_j = refl
Once-place (y ∷ ys) zero (suc j) x once at_i at_j =
    absurd (once.0 (subst (λ z. In z ys) (sym (same_Some y x at_i)) (In-index ys j x at_j)))
Once-place (y ∷ ys) (suc i) zero x once at_i at_j =
    absurd (once.0 (subst (λ z. In z ys) (sym (same_Some y x at_j)) (In-index ys i x at_i)))
Once-place (y ∷ ys) (suc i) (suc j) x once at_i at_j = ap suc (Once-place ys i j x once.1 at_i at_j)
