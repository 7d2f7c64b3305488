-- Lists of places, some of which are empty: what an element put behind the others, and a place that is emptied, make of the elements.
use Rattle.std.proofs.Common.{◌≡◌, ◌⊎◌, ℕ, zero, suc, ◌<◌, Bool, true, false, Option, None, Some, List, [], ◌∷◌, ◌++◌, length, refl, ap, sym, ◌∙◌, subst, ⊎_elim, inl, inr, arith}
use Rattle.std.specs.Prelude.{filter, filter_map, slice_get, slice_set, Contains}
use Rattle.std.proofs.lemmas.Bool.{cond-true, cond-false, cases_Bool}
use Rattle.std.proofs.lemmas.Option.{same_Some, none-some}
use Rattle.std.proofs.lemmas.List.Elements.{Contains-append_right}

-- ---- members of lists

pub Contains-cons_cases : {X : Type 0} (y x : X) (ys : List X) → Contains (y ∷ ys) x → (y ≡ x) ⊎ Contains ys x
Contains-cons_cases {X = X} y x ys (zero, within, same) = inl same
Contains-cons_cases {X = X} y x ys (suc k, within, same) = inr (k, omega (arith, within), same)

pub Contains-here : {X : Type 0} (x : X) (xs : List X) → Contains (x ∷ xs) x
Contains-here x xs = (zero, omega arith, refl)

pub Contains-later : {X : Type 0} (y x : X) (ys : List X) → Contains ys x → Contains (y ∷ ys) x
Contains-later y x ys h = Contains-append_right (y ∷ []) ys x h

pub Contains-none : {X : Type 0} (x : X) → Contains [] x → ⊥
Contains-none x h = omega (arith, h.1)

module _ {X : Type 0} (p : X → Bool) where
  pub Contains-filter : (xs : List X) (x : X) → Contains xs x → p x ≡ true → Contains (filter p xs) x
  Contains-filter [] x h passes = absurd (Contains-none x h)
  Contains-filter (y ∷ ys) x h passes =
      ⊎_elim
      (λ same.
      subst (λ zs. Contains zs x) (sym (cond-true (p y) (y ∷ filter p ys) (filter p ys) (ap p same ∙ passes)))
      (subst (λ z. Contains (y ∷ filter p ys) z) same (Contains-here y (filter p ys))))
      (λ later.
      let there = Contains-filter ys x later passes in
      ⊎_elim
      (λ kept. subst (λ zs. Contains zs x) (sym (cond-true (p y) (y ∷ filter p ys) (filter p ys) kept)) (Contains-later y x (filter p ys) there))
      (λ gone. subst (λ zs. Contains zs x) (sym (cond-false (p y) (y ∷ filter p ys) (filter p ys) gone)) there)
      (cases_Bool (p y)))
      (Contains-cons_cases y x ys h)

  pub Contains-filtered : (xs : List X) (x : X) → Contains (filter p xs) x → Contains xs x × (p x ≡ true)
  Contains-filtered [] x h = absurd (Contains-none x h)
  Contains-filtered (y ∷ ys) x h =
      ⊎_elim
      (λ kept.
      ⊎_elim
      (λ same. (subst (λ z. Contains (y ∷ ys) z) same (Contains-here y ys), ap p (sym same) ∙ kept))
      (λ later. let rest = Contains-filtered ys x later in (Contains-later y x ys rest.0, rest.1))
      (Contains-cons_cases y x (filter p ys) (subst (λ zs. Contains zs x) (cond-true (p y) (y ∷ filter p ys) (filter p ys) kept) h)))
      (λ gone.
      let rest = Contains-filtered ys x (subst (λ zs. Contains zs x) (cond-false (p y) (y ∷ filter p ys) (filter p ys) gone) h) in
      (Contains-later y x ys rest.0, rest.1))
      (cases_Bool (p y))

  -- where all pass, all stay
  pub filter-all : (xs : List X) → ((x : X) → Contains xs x → p x ≡ true) → filter p xs ≡ xs
  filter-all [] all = refl
  filter-all (y ∷ ys) all =
      cond-true (p y) (y ∷ filter p ys) (filter p ys) (all y (Contains-here y ys))
      ∙ ap (λ zs. y ∷ zs) (filter-all ys (λ x there. all x (Contains-later y x ys there)))

-- ---- places

pub slice_get-push_cases :
    {X : Type 0} (xs : List X) (x : X) (i : ℕ) (y : X)
    → slice_get (xs ++ x ∷ []) i ≡ Some y → (slice_get xs i ≡ Some y) ⊎ ((i ≡ length xs) × (x ≡ y))
slice_get-push_cases [] x zero y h = inr (refl, same_Some x y h)
slice_get-push_cases [] x (suc i) y h = absurd (none-some y h)
slice_get-push_cases (z ∷ zs) x zero y h = inl h
slice_get-push_cases (z ∷ zs) x (suc i) y h =
    ⊎_elim (λ e. inl e) (λ e. inr (ap suc e.0, e.1)) (slice_get-push_cases zs x i y h)

pub slice_get-push_left : {X : Type 0} (xs : List X) (x y : X) (i : ℕ) → slice_get xs i ≡ Some y → slice_get (xs ++ x ∷ []) i ≡ Some y
slice_get-push_left [] x y i h = absurd (none-some y h)
slice_get-push_left (z ∷ zs) x y zero h = h
slice_get-push_left (z ∷ zs) x y (suc i) h = slice_get-push_left zs x y i h

pub slice_get-push_last : {X : Type 0} (xs : List X) (x : X) → slice_get (xs ++ x ∷ []) (length xs) ≡ Some x
slice_get-push_last [] x = refl
slice_get-push_last (z ∷ zs) x = slice_get-push_last zs x

pub slice_get-set_same : {X : Type 0} (xs : List X) (i : ℕ) (x : X) → i < length xs → slice_get (slice_set xs i x) i ≡ Some x
slice_get-set_same [] i x h = absurd (omega (arith, h))
slice_get-set_same (z ∷ zs) zero x h = refl
slice_get-set_same (z ∷ zs) (suc i) x h = slice_get-set_same zs i x (omega (arith, h))

pub slice_get-set_other : {X : Type 0} (xs : List X) (i j : ℕ) (x : X) → (j ≡ i → ⊥) → slice_get (slice_set xs i x) j ≡ slice_get xs j
slice_get-set_other [] i j x h = refl
slice_get-set_other (z ∷ zs) zero zero x h = absurd (h refl)
slice_get-set_other (z ∷ zs) zero (suc j) x h = refl
slice_get-set_other (z ∷ zs) (suc i) zero x h = refl
slice_get-set_other (z ∷ zs) (suc i) (suc j) x h = slice_get-set_other zs i j x (λ e. h (ap suc e))

-- ---- places, some of which are empty

module _ {T : Type 0} where
  -- the elements of the places that aren't empty
  abbrev pub living : List (Option T) → List T
  living slots = filter_map (λ (slot : Option T). slot) slots

  pub put-living : (slots : List (Option T)) (t : T) → living (slots ++ Some t ∷ []) ≡ living slots ++ t ∷ []
  put-living [] t = refl
  put-living (None ∷ ss) t = put-living ss t
  put-living (Some s ∷ ss) t = ap (λ ts. s ∷ ts) (put-living ss t)

  pub at-living : (slots : List (Option T)) (i : ℕ) (t : T) → slice_get slots i ≡ Some (Some t) → Contains (living slots) t
  at-living [] i t h = absurd (none-some (Some t) h)
  at-living (None ∷ ss) zero t h = absurd (none-some t (same_Some None (Some t) h))
  at-living (None ∷ ss) (suc i) t h = at-living ss i t h
  at-living (Some s ∷ ss) zero t h =
      subst (λ z. Contains (s ∷ living ss) z) (same_Some s t (same_Some (Some s) (Some t) h)) (Contains-here s (living ss))
  at-living (Some s ∷ ss) (suc i) t h = Contains-later s t (living ss) (at-living ss i t h)

  pub living-at : (slots : List (Option T)) (t : T) → Contains (living slots) t → (i : ℕ) × (slice_get slots i ≡ Some (Some t))
  living-at [] t h = absurd (Contains-none t h)
  living-at (None ∷ ss) t h = let found = living-at ss t h in (suc found.0, found.1)
  living-at (Some s ∷ ss) t h =
      ⊎_elim
      (λ same. (zero, ap (λ z. Some (Some z)) same))
      (λ later. let found = living-at ss t later in (suc found.0, found.1))
      (Contains-cons_cases s t (living ss) h)

  -- the element at a place fails a test that all others pass: once it is gone, those that pass are left
  pub emptied-living :
      (p : T → Bool) (slots : List (Option T)) (i : ℕ) (t : T)
      → slice_get slots i ≡ Some (Some t) → p t ≡ false
      → ((j : ℕ) (s : T) → slice_get slots j ≡ Some (Some s) → (j ≡ i → ⊥) → p s ≡ true)
      → living (slice_set slots i None) ≡ filter p (living slots)
  emptied-living p [] i t there fails others = absurd (none-some (Some t) there)
  emptied-living p (None ∷ ss) zero t there fails others = absurd (none-some t (same_Some None (Some t) there))
  emptied-living p (None ∷ ss) (suc i) t there fails others =
      emptied-living p ss i t there fails (λ j s at differ. others (suc j) s at (λ e. differ (suc-same j i e)))
    where
      suc-same : (j i : ℕ) → suc j ≡ suc i → j ≡ i
      suc-same j i e = omega (arith, e)
  emptied-living p (Some s ∷ ss) zero t there fails others =
      let same : s ≡ t = same_Some s t (same_Some (Some s) (Some t) there) in
      sym
      (cond-false (p s) (s ∷ filter p (living ss)) (filter p (living ss)) (ap p same ∙ fails)
      ∙ filter-all p (living ss)
      (λ m in_rest. let found = living-at ss m in_rest in others (suc found.0) m found.1 (λ e. suc-zero found.0 e)))
    where
      suc-zero : (j : ℕ) → suc j ≡ zero → ⊥
      suc-zero j e = omega (arith, e)
  emptied-living p (Some s ∷ ss) (suc i) t there fails others =
      ap (λ ts. s ∷ ts) (emptied-living p ss i t there fails (λ j u at differ. others (suc j) u at (λ e. differ (suc-same j i e))))
      ∙ sym (cond-true (p s) (s ∷ filter p (living ss)) (filter p (living ss)) (others zero s refl (λ e. zero-suc i e)))
    where
      suc-same : (j i : ℕ) → suc j ≡ suc i → j ≡ i
      suc-same j i e = omega (arith, e)

      zero-suc : (i : ℕ) → zero ≡ suc i → ⊥
      zero-suc i e = omega (arith, e)

-- what stands at a place after another was emptied stood there before
pub before-emptied :
    {T : Type 0} (slots : List (Option T)) (i place : ℕ) (t : T)
    → slice_get (slice_set slots i None) place ≡ Some (Some t) → i < length slots → slice_get slots place ≡ Some (Some t)
before-emptied slots i place t there inside =
    sym
    (slice_get-set_other slots i place None
    (λ same. none-some t (same_Some None (Some t) (sym (slice_get-set_same slots i None inside) ∙ ap (slice_get (slice_set slots i None)) (sym same) ∙ there))))
    ∙ there
