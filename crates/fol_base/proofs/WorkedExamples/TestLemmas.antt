-- Facts about tests of lists, and about options.
use Rattle.std.proofs.Common.{◌≡◌, ℕ, zero, suc, Bool, true, false, ◌||◌, List, [], ◌∷◌, ◌++◌, map, Option, Some, None, refl, ap, ap₂, sym, ◌∙◌, ⊎_elim}
use Rattle.std.specs.Prelude.{slice_get, slice_set, remove, option_map, is_some, if◌then◌else◌}
use Rattle.std.specs.List.{list_any, list_all}
use Rattle.std.proofs.lemmas.Bool.{and_parts, and_from, or_cases, or_left, or_right}
use Rattle.std.proofs.lemmas.Option.{none-some, same_Some}
use Rattle.std.proofs.lemmas.List.Folds.{list_all-append}

pub list_any-weaker :
    {X : Type 0} (p q : X → Bool)
    → ((x : X) → p x ≡ true → q x ≡ true) → (xs : List X) → list_any p xs ≡ true → list_any q xs ≡ true
list_any-weaker p q h [] some = some
list_any-weaker p q h (x ∷ xs) some =
    ⊎_elim (λ here. or_left (q x) _ (h x here)) (λ later. or_right (q x) _ (list_any-weaker p q h xs later)) (or_cases (p x) (list_any p xs) some)

pub list_any-agree : {X : Type 0} (p q : X → Bool) → ((x : X) → p x ≡ q x) → (xs : List X) → list_any p xs ≡ list_any q xs
list_any-agree p q h [] = refl
list_any-agree p q h (x ∷ xs) = ap₂ ◌||◌ (h x) (list_any-agree p q h xs)

pub list_any-map : {X Y : Type 0} (p : Y → Bool) (f : X → Y) (xs : List X) → list_any p (map f xs) ≡ list_any (λ x. p (f x)) xs
list_any-map p f [] = refl
list_any-map p f (x ∷ xs) = ap (λ b. p (f x) || b) (list_any-map p f xs)

pub list_all-map_true :
    {X Y : Type 0} (p : Y → Bool) (f : X → Y) → ((x : X) → p (f x) ≡ true) → (xs : List X) → list_all p (map f xs) ≡ true
list_all-map_true p f h [] = refl
list_all-map_true p f h (x ∷ xs) = and_from (p (f x)) _ (h x) (list_all-map_true p f h xs)

pub option_map-some :
    {X Y P : Type 0} (f : X → Y) (o : Option X) (y : Y) → option_map f o ≡ Some y → ((x : X) → o ≡ Some x → f x ≡ y → P) → P
option_map-some f None y h k = absurd (cc)
option_map-some f (Some x) y h k = k x refl (cc)

pub is_some-option_map : {X Y : Type 0} (f : X → Y) (o : Option X) → is_some (option_map f o) ≡ is_some o
is_some-option_map f None = refl
is_some-option_map f (Some x) = refl

-- a test before an option
pub if_some :
    {X : Type 0} (b : Bool) (o : Option X) (x : X) → (if b then o else None) ≡ Some x → (b ≡ true) × (o ≡ Some x)
if_some true o x h = (refl, h)
if_some false o x h = absurd (none-some x h)

pub else_some :
    {X : Type 0} (b : Bool) (o : Option X) (x : X) → (if b then None else o) ≡ Some x → (b ≡ false) × (o ≡ Some x)
else_some true o x h = absurd (none-some x h)
else_some false o x h = (refl, h)

-- ---- lists whose items all pass

-- so does each item
pub list_all-item :
    {X : Type 0} (p : X → Bool) (xs : List X) (k : ℕ) (x : X) → slice_get xs k ≡ Some x → list_all p xs ≡ true → p x ≡ true
list_all-item p [] k x at all = absurd (none-some x at)
list_all-item p (y ∷ ys) zero x at all = ap p (sym (same_Some y x at)) ∙ (and_parts (p y) (list_all p ys) all).0
list_all-item p (y ∷ ys) (suc k) x at all = list_all-item p ys k x at (and_parts (p y) (list_all p ys) all).1

-- two such lists one after the other
pub list_all-joined :
    {X : Type 0} (p : X → Bool) (xs ys : List X) → list_all p xs ≡ true → list_all p ys ≡ true → list_all p (xs ++ ys) ≡ true
list_all-joined p xs ys first second = list_all-append p xs ys ∙ and_from (list_all p xs) (list_all p ys) first second

-- an item may be exchanged for one that passes
pub list_all-set :
    {X : Type 0} (p : X → Bool) (xs : List X) (k : ℕ) (new : X)
    → list_all p xs ≡ true → p new ≡ true → list_all p (slice_set xs k new) ≡ true
list_all-set p [] k new all passes = refl
list_all-set p (y ∷ ys) zero new all passes = and_from (p new) _ passes (and_parts (p y) (list_all p ys) all).1
list_all-set p (y ∷ ys) (suc k) new all passes =
    let parts = and_parts (p y) (list_all p ys) all in and_from (p y) _ parts.0 (list_all-set p ys k new parts.1 passes)

-- and an item may go
pub list_all-remove : {X : Type 0} (p : X → Bool) (xs : List X) (k : ℕ) → list_all p xs ≡ true → list_all p (remove xs k) ≡ true
list_all-remove p [] zero all = refl
list_all-remove p [] (suc k) all = refl
list_all-remove p (y ∷ ys) zero all = (and_parts (p y) (list_all p ys) all).1
list_all-remove p (y ∷ ys) (suc k) all =
    let parts = and_parts (p y) (list_all p ys) all in and_from (p y) _ parts.0 (list_all-remove p ys k parts.1)

-- what is made of the items passes
pub list_all-map_from :
    {X Y : Type 0} (p : X → Bool) (q : Y → Bool) (f : X → Y)
    → ((x : X) → p x ≡ true → q (f x) ≡ true) → (xs : List X) → list_all p xs ≡ true → list_all q (map f xs) ≡ true
list_all-map_from p q f h [] all = refl
list_all-map_from p q f h (x ∷ xs) all =
    let parts = and_parts (p x) (list_all p xs) all in and_from (q (f x)) _ (h x parts.0) (list_all-map_from p q f h xs parts.1)
