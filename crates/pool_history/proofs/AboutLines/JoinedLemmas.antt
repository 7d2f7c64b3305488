-- Items of lists that are put together, and what holds of each item.
use Rattle.std.proofs.Common.{◌≡◌, ℕ, zero, suc, ◌+◌, ◌-◌, ◌<◌, ◌⊎◌, Bool, true, false, List, [], ◌∷◌, ◌++◌, map, length, take, refl, ap, ap₂, sym, ◌∙◌, inl, inr, ⊎_elim, subst, arith}
use Rattle.std.specs.Prelude.{Option, None, Some, slice_get, slice_index_or, find, cond, All, if◌then◌else◌}
use Rattle.std.specs.List.{last_or, AllByRecursion}
use Rattle.std.proofs.lemmas.List.{length-append}
use Rattle.std.proofs.lemmas.Option.{none-some, same_Some, slice_get-map, slice_get-get_or}
use Rattle.fol_base.proofs.WorkedExamples.TestLemmas.{option_map-some}

-- what holds of both under the test holds of either
pub by-test : {X : Type 0} (P : X → Type 0) (b : Bool) (x y : X) → (b ≡ true → P x) → (b ≡ false → P y) → P (if b then x else y)
by-test P true x y h k = h refl
by-test P false x y h k = k refl

-- ---- items

pub get-left : {X : Type 0} (xs ys : List X) (n : ℕ) (x : X) → slice_get xs n ≡ Some x → slice_get (xs ++ ys) n ≡ Some x
get-left [] ys n x there = absurd (none-some x there)
get-left (y ∷ xs) ys zero x there = there
get-left (y ∷ xs) ys (suc n) x there = get-left xs ys n x there

pub get-right : {X : Type 0} (xs ys : List X) (m n : ℕ) → m ≡ length xs + n → slice_get (xs ++ ys) m ≡ slice_get ys n
get-right [] ys m n at = ap (slice_get ys) (let same : m ≡ n = omega (arith, at) in same)
get-right (x ∷ xs) ys zero n at = absurd (omega (arith, at))
get-right (x ∷ xs) ys (suc m) n at = get-right xs ys m n (omega (arith, at))

-- an item of a front
pub get-taken : {X : Type 0} (xs : List X) (k n : ℕ) (x : X) → n < k → slice_get xs n ≡ Some x → slice_get (take k xs) n ≡ Some x
get-taken xs zero n x within there = absurd (omega (arith, within))
get-taken [] (suc k) n x within there = there
get-taken (y ∷ ys) (suc k) zero x within there = there
get-taken (y ∷ ys) (suc k) (suc n) x within there = get-taken ys k n x (omega (arith, within)) there

-- an item of the second list, with its place there
pub record BehindAt {X : Type 0} (xs ys : List X) (n : ℕ) (x : X) : Type 0 where
  pub place : ℕ
  pub whole : n ≡ length xs + place
  pub there : slice_get ys place ≡ Some x

pub get-cases : {X : Type 0} (xs ys : List X) (n : ℕ) (x : X) → slice_get (xs ++ ys) n ≡ Some x → (slice_get xs n ≡ Some x) ⊎ BehindAt xs ys n x
get-cases [] ys n x there = inr (record { place = n; whole = omega arith; there = there })
get-cases (y ∷ xs) ys zero x there = inl there
get-cases (y ∷ xs) ys (suc n) x there =
    ⊎_elim (λ left. inl left) (λ (at : BehindAt xs ys n x). inr (record { place = at.place; whole = omega (arith, at.whole); there = at.there }))
    (get-cases xs ys n x there)

pub record MappedAt {X Y : Type 0} (f : X → Y) (xs : List X) (n : ℕ) (y : Y) : Type 0 where
  pub item : X
  pub there : slice_get xs n ≡ Some item
  pub gives : f item ≡ y

pub get-mapped : {X Y : Type 0} (f : X → Y) (xs : List X) (n : ℕ) (y : Y) → slice_get (map f xs) n ≡ Some y → MappedAt f xs n y
get-mapped f xs n y there =
    option_map-some f (slice_get xs n) y (sym (slice_get-map f xs n) ∙ there) λ x x_is gives. record { item = x; there = x_is; gives = gives }

-- ---- the last item

pub record EndsIn {X : Type 0} (xs : List X) (x : X) : Type 0 where
  pub before : List X
  pub ends : xs ≡ before ++ x ∷ []

pub ends-in : {X : Type 0} (o : Option X) (xs : List X) (x : X) → last_or o xs ≡ Some x → ((o ≡ Some x) × (xs ≡ [])) ⊎ EndsIn xs x
ends-in o [] x h = inl (h, refl)
ends-in o (y ∷ ys) x h =
    ⊎_elim
    (λ (none : (Some y ≡ Some x) × (ys ≡ [])). inr (record { before = []; ends = ap₂ (λ z zs. z ∷ zs) (same_Some y x none.0) none.1 }))
    (λ (later : EndsIn ys x). inr (record { before = y ∷ later.before; ends = ap (λ zs. y ∷ zs) later.ends }))
    (ends-in (Some y) ys x h)

pub last-ends : {X : Type 0} (xs : List X) (x : X) → last_or None xs ≡ Some x → EndsIn xs x
last-ends xs x h = ⊎_elim (λ (none : (None ≡ Some x) × (xs ≡ [])). absurd (none-some x none.0)) (λ ends. ends) (ends-in None xs x h)

pub last-there : {X : Type 0} (xs : List X) (x : X) → EndsIn xs x → slice_get xs (length xs - 1) ≡ Some x
last-there xs x is =
    let count : length xs ≡ length is.before + 1 = ap length is.ends ∙ length-append is.before (x ∷ []) in
    ap (λ ys. slice_get ys (length xs - 1)) is.ends ∙ get-right is.before (x ∷ []) (length xs - 1) 0 (omega (arith, count))

pub ends-behind : {X : Type 0} (xs ys : List X) (x : X) → EndsIn ys x → EndsIn (xs ++ ys) x
ends-behind [] ys x is = is
ends-behind (y ∷ xs) ys x is =
    let rest = ends-behind xs ys x is in record { before = y ∷ rest.before; ends = ap (λ zs. y ∷ zs) rest.ends }

-- ---- each item

pub all-from : {X : Type 0} (P : X → Type 0) (xs : List X) → ((n : ℕ) (x : X) → slice_get xs n ≡ Some x → P x) → All P xs
all-from P xs each k d within = each k (slice_index_or xs k d) (slice_get-get_or xs k d within)

pub found-holds : {X : Type 0} (P : X → Type 0) (p : X → Bool) (xs : List X) (x : X) → AllByRecursion P xs → find p xs ≡ Some x → P x
found-holds P p [] x all found = absurd (none-some x found)
found-holds P p (y ∷ ys) x all found = by (p y) found (found-holds P p ys x all.1)
  where
    by : (b : Bool) → cond b (Some y) (find p ys) ≡ Some x → (find p ys ≡ Some x → P x) → P x
    by true h later = subst P (same_Some y x h) all.0
    by false h later = later h
