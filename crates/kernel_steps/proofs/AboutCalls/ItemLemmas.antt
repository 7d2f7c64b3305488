-- Tests of some item of a list, after an item went or was exchanged.
use Rattle.std.proofs.Common.{◌≡◌, ℕ, zero, suc, Bool, true, false, ◌||◌, List, [], ◌∷◌, get_or, Some, refl, ap, sym, ◌∙◌, ⊎_elim}
use Rattle.std.specs.Prelude.{Contains, slice_get, slice_set, remove}
use Rattle.std.specs.List.{list_any, list_all}
use Rattle.std.proofs.lemmas.Bool.{and_parts, or_cases, or_left, or_right}
use Rattle.std.proofs.lemmas.Option.{none-some, same_Some, slice_get_within, get_or_from_slice_get}

-- an item that passes
pub list_any-item :
    {X : Type 0} (p : X → Bool) (xs : List X) (k : ℕ) (x : X) → slice_get xs k ≡ Some x → p x ≡ true → list_any p xs ≡ true
list_any-item p [] k x at passes = absurd (none-some x at)
list_any-item p (y ∷ ys) zero x at passes = or_left (p y) _ (ap p (same_Some y x at) ∙ passes)
list_any-item p (y ∷ ys) (suc k) x at passes = or_right (p y) _ (list_any-item p ys k x at passes)

-- an item that fails may go
pub list_any-remove :
    {X : Type 0} (p : X → Bool) (xs : List X) (k : ℕ) (x : X)
    → slice_get xs k ≡ Some x → p x ≡ false → list_any p xs ≡ true → list_any p (remove xs k) ≡ true
list_any-remove p [] k x at fails some = absurd (none-some x at)
list_any-remove p (y ∷ ys) zero x at fails some =
    ap (λ b. b || list_any p ys) (sym (ap p (same_Some y x at) ∙ fails)) ∙ some
list_any-remove p (y ∷ ys) (suc k) x at fails some =
    ⊎_elim (λ here. or_left (p y) _ here) (λ later. or_right (p y) _ (list_any-remove p ys k x at fails later))
    (or_cases (p y) (list_any p ys) some)

-- an item may go where another one passes
pub list_any-remove_other :
    {X : Type 0} (p : X → Bool) (xs : List X) (j k : ℕ) (x : X)
    → slice_get xs j ≡ Some x → (j ≡ k → ⊥) → p x ≡ true → list_any p (remove xs k) ≡ true
list_any-remove_other p [] j k x at differ passes = absurd (none-some x at)
list_any-remove_other p (y ∷ ys) zero zero x at differ passes = absurd (differ refl)
list_any-remove_other p (y ∷ ys) zero (suc k) x at differ passes = or_left (p y) _ (ap p (same_Some y x at) ∙ passes)
list_any-remove_other p (y ∷ ys) (suc j) zero x at differ passes = list_any-item p ys j x at passes
list_any-remove_other p (y ∷ ys) (suc j) (suc k) x at differ passes =
    or_right (p y) _ (list_any-remove_other p ys j k x at (λ e. differ (ap suc e)) passes)

-- an item may be exchanged for one that passes alike
pub list_any-set :
    {X : Type 0} (p : X → Bool) (xs : List X) (k : ℕ) (x new : X)
    → slice_get xs k ≡ Some x → p new ≡ p x → list_any p (slice_set xs k new) ≡ list_any p xs
list_any-set p [] k x new at alike = absurd (none-some x at)
list_any-set p (y ∷ ys) zero x new at alike = ap (λ b. b || list_any p ys) (alike ∙ ap p (sym (same_Some y x at)))
list_any-set p (y ∷ ys) (suc k) x new at alike = ap (λ b. p y || b) (list_any-set p ys k x new at alike)

-- or for one that passes
pub list_any-set_passing :
    {X : Type 0} (p : X → Bool) (xs : List X) (k : ℕ) (x new : X)
    → slice_get xs k ≡ Some x → p new ≡ true → list_any p (slice_set xs k new) ≡ true
list_any-set_passing p [] k x new at passes = absurd (none-some x at)
list_any-set_passing p (y ∷ ys) zero x new at passes = or_left (p new) _ passes
list_any-set_passing p (y ∷ ys) (suc k) x new at passes = or_right (p y) _ (list_any-set_passing p ys k x new at passes)

-- or for any, where another one passes
pub list_any-set_other :
    {X : Type 0} (p : X → Bool) (xs : List X) (j k : ℕ) (x new : X)
    → slice_get xs j ≡ Some x → (j ≡ k → ⊥) → p x ≡ true → list_any p (slice_set xs k new) ≡ true
list_any-set_other p [] j k x new at differ passes = absurd (none-some x at)
list_any-set_other p (y ∷ ys) zero zero x new at differ passes = absurd (differ refl)
list_any-set_other p (y ∷ ys) zero (suc k) x new at differ passes = or_left (p y) _ (ap p (same_Some y x at) ∙ passes)
list_any-set_other p (y ∷ ys) (suc j) zero x new at differ passes = or_right (p new) _ (list_any-item p ys j x at passes)
list_any-set_other p (y ∷ ys) (suc j) (suc k) x new at differ passes =
    or_right (p y) _ (list_any-set_other p ys j k x new at (λ e. differ (ap suc e)) passes)

-- an item is in its list
pub Contains-item : {X : Type 0} (xs : List X) (k : ℕ) (x : X) → slice_get xs k ≡ Some x → Contains xs x
Contains-item xs k x at = (k, slice_get_within xs k x at, get_or_from_slice_get xs k x x at)

-- an item, or what is read past the end
pub get_or-passes :
    {X : Type 0} (p : X → Bool) (xs : List X) (k : ℕ) (d : X) → list_all p xs ≡ true → p d ≡ true → p (get_or xs k d) ≡ true
get_or-passes p [] k d all passes = passes
get_or-passes p (x ∷ xs) zero d all passes = (and_parts (p x) (list_all p xs) all).0
get_or-passes p (x ∷ xs) (suc k) d all passes = get_or-passes p xs k d (and_parts (p x) (list_all p xs) all).1 passes
