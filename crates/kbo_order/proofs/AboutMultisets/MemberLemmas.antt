-- Members of lists, by recursion.
use Rattle.std.proofs.Common.{◌≡◌, ℕ, zero, suc, ◌<◌, ◌⊎◌, Bool, true, false, List, [], ◌∷◌, ◌++◌, length, map, get_or, refl, ap, sym, ◌∙◌, subst, inl, inr, ⊎_elim, arith}
use Rattle.std.specs.Prelude.{sum_by, Contains}
use Rattle.std.specs.List.{list_any, list_all}
use Rattle.std.proofs.lemmas.Bool.{and_parts, and_from, or_cases, or_parts, true≢false}
use Rattle.std.proofs.lemmas.List.Sums.{sum_by-cons}

abbrev pub In : {X : Type 0} → X → List X → Type 0
In x [] = ⊥
In x (y ∷ ys) = (x ≡ y) ⊎ In x ys

pub In-contains : {X : Type 0} (x : X) (xs : List X) → In x xs → Contains xs x
In-contains x [] h = absurd h
In-contains x (y ∷ ys) h =
    ⊎_elim
    (λ e. (0, omega arith, sym e))
    (λ later. let there = In-contains x ys later in (suc there.0, omega (arith, there.1), there.2))
    h

pub In-at : {X : Type 0} (xs : List X) (k : ℕ) (d : X) → k < length xs → In (get_or xs k d) xs
In-at [] k d h = absurd (omega arith)
In-at (x ∷ xs) zero d h = inl refl
In-at (x ∷ xs) (suc k) d h = inr (In-at xs k d (omega arith))

pub contains-In : {X : Type 0} (x : X) (xs : List X) → Contains xs x → In x xs
contains-In x xs h = subst (λ y. In y xs) h.2 (In-at xs h.0 x h.1)

pub In-map : {X Y : Type 0} (f : X → Y) (x : X) (xs : List X) → In x xs → In (f x) (map f xs)
In-map f x [] h = absurd h
In-map f x (y ∷ ys) h = ⊎_elim (λ e. inl (ap f e)) (λ later. inr (In-map f x ys later)) h

pub map-In : {X Y : Type 0} (f : X → Y) (y : Y) (xs : List X) → In y (map f xs) → (x : X) × In x xs × (y ≡ f x)
map-In f y [] h = absurd h
map-In f y (x ∷ xs) h =
    ⊎_elim
    (λ e. (x, inl refl, e))
    (λ later. let found = map-In f y xs later in (found.0, inr found.1, found.2))
    h

pub In-left : {X : Type 0} (x : X) (xs ys : List X) → In x xs → In x (xs ++ ys)
In-left x [] ys h = absurd h
In-left x (z ∷ xs) ys h = ⊎_elim (λ e. inl e) (λ later. inr (In-left x xs ys later)) h

pub In-right : {X : Type 0} (x : X) (xs ys : List X) → In x ys → In x (xs ++ ys)
In-right x [] ys h = h
In-right x (z ∷ xs) ys h = inr (In-right x xs ys h)

-- ---- tests

pub any-In : {X : Type 0} (p : X → Bool) (xs : List X) → list_any p xs ≡ true → (x : X) × In x xs × (p x ≡ true)
any-In p [] h = absurd (true≢false (sym h))
any-In p (x ∷ xs) h =
    ⊎_elim
    (λ here. (x, inl refl, here))
    (λ later. let found = any-In p xs later in (found.0, inr found.1, found.2))
    (or_cases (p x) (list_any p xs) h)

pub none-In : {X : Type 0} (p : X → Bool) (xs : List X) → list_any p xs ≡ false → (x : X) → In x xs → p x ≡ false
none-In p [] h x there = absurd there
none-In p (y ∷ ys) h x there =
    let parts = or_parts (p y) (list_any p ys) h in
    ⊎_elim (λ e. ap p e ∙ parts.0) (λ later. none-In p ys parts.1 x later) there

pub all-In : {X : Type 0} (p : X → Bool) (xs : List X) → list_all p xs ≡ true → (x : X) → In x xs → p x ≡ true
all-In p [] h x there = absurd there
all-In p (y ∷ ys) h x there =
    let parts = and_parts (p y) (list_all p ys) h in
    ⊎_elim (λ e. ap p e ∙ parts.0) (λ later. all-In p ys parts.1 x later) there

pub In-all : {X : Type 0} (p : X → Bool) (xs : List X) → ((x : X) → In x xs → p x ≡ true) → list_all p xs ≡ true
In-all p [] h = refl
In-all p (y ∷ ys) h = and_from (p y) (list_all p ys) (h y (inl refl)) (In-all p ys (λ x there. h x (inr there)))

-- ---- sums

pub sum_by-map : {X Y : Type 0} (f : X → Y) (h : Y → ℕ) (xs : List X) → sum_by h (map f xs) ≡ sum_by (λ x. h (f x)) xs
sum_by-map f h [] = refl
sum_by-map f h (x ∷ xs) = omega (arith, sum_by-map f h xs, sum_by-cons h (f x) (map f xs), sum_by-cons (λ y. h (f y)) x xs)
