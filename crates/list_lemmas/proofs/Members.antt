-- Elements of a list, and what holds of each.
use Rattle.std.proofs.Common.{[], List, Some, arith, inl, inr, refl, subst, suc, zero, ℕ, ⊎_elim, ◌++◌, ◌∷◌, ◌≡◌, ◌⊎◌}
use Rattle.std.proofs.lemmas.List.Elements.{All-head, All-tail, Contains-append_cases, Contains-append_right, Contains-push_cases}
use Rattle.std.proofs.lemmas.Option.{none-some, same_Some}
use Rattle.std.specs.List.{AllByRecursion}
use Rattle.std.specs.Prelude.{All, Contains, slice_get}

pub all-front : {X : Type 0} (P : X → Type 0) (xs ys : List X) → AllByRecursion P (xs ++ ys) → AllByRecursion P xs
all-front P [] ys h = tt
all-front P (x ∷ xs) ys h = (h.0, all-front P xs ys h.1)

pub all-back : {X : Type 0} (P : X → Type 0) (xs ys : List X) → AllByRecursion P (xs ++ ys) → AllByRecursion P ys
all-back P [] ys h = h
all-back P (x ∷ xs) ys h = all-back P xs ys h.1

pub all-at : {X : Type 0} (P : X → Type 0) (xs : List X) (i : ℕ) (x : X) → All P xs → slice_get xs i ≡ Some x → P x
all-at P [] i x all at = absurd (none-some x at)
all-at P (y ∷ ys) zero x all at = subst P (same_Some y x at) (All-head P y ys all)
all-at P (y ∷ ys) (suc i) x all at = all-at P ys i x (All-tail P y ys all) at

pub contains-first : {X : Type 0} (x : X) (xs : List X) → Contains (x ∷ xs) x
contains-first x xs = (zero, omega arith, refl)

pub contains-none : {X : Type 0} (x : X) → Contains [] x → ⊥
contains-none x h = omega (arith, h.1)

pub each-weaker : {X : Type 0} (P Q : X → Type 0) → ((x : X) → P x → Q x) → (xs : List X) → AllByRecursion P xs → AllByRecursion Q xs
each-weaker P Q weaker [] all = tt
each-weaker P Q weaker (x ∷ xs) all = (weaker x all.0, each-weaker P Q weaker xs all.1)

pub first-or-later : {X : Type 0} (x : X) (xs : List X) (y : X) → Contains (x ∷ xs) y → (x ≡ y) ⊎ Contains xs y
first-or-later x xs y h =
    ⊎_elim (λ e. ⊎_elim (λ a. absurd (contains-none y a)) (λ a. inl a) (Contains-push_cases [] x y e)) (λ e. inr e) (Contains-append_cases (x ∷ []) xs y h)

pub contains-later : {X : Type 0} (x : X) (xs : List X) (y : X) → Contains xs y → Contains (x ∷ xs) y
contains-later x xs y h = Contains-append_right (x ∷ []) xs y h
