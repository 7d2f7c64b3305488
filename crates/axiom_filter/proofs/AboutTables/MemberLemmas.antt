-- Tests of lists: what passes, and members.
use Rattle.std.proofs.Common.{◌≡◌, ℕ, Bool, true, false, ◌||◌, ◌==◌, List, [], ◌∷◌, flat_map, refl, ap, sym, ◌∙◌, eqb-true, eq-eqb, inl, inr, ◌⊎◌}
use Rattle.std.specs.Prelude.{All}
use Rattle.std.specs.List.{list_any}
use Rattle.std.proofs.lemmas.List.Elements.{All-head, All-tail}
use Rattle.std.proofs.lemmas.List.Folds.{list_any-append}
use Rattle.axiom_filter.specs.Tables.{has_number, row_of, neighbours}

pub bool-same : (a b : Bool) → (a ≡ true → b ≡ true) → (b ≡ true → a ≡ true) → a ≡ b
bool-same true b f g = sym (f refl)
bool-same false true f g = g refl
bool-same false false f g = refl

pub or-right : (a b : Bool) → b ≡ true → (a || b) ≡ true
or-right true b h = refl
or-right false b h = h

pub or-left : (a b : Bool) → a ≡ true → (a || b) ≡ true
or-left a b h = ap (λ t. t || b) h

pub or-cases : (a b : Bool) → (a || b) ≡ true → (a ≡ true) ⊎ (b ≡ true)
or-cases true b h = inl refl
or-cases false b h = inr h

-- one of two tests may be replaced where it adds no more
pub or-same : (a b c : Bool) → (b ≡ true → c ≡ true) → (c ≡ true → (a ≡ true) ⊎ (b ≡ true)) → (a || b) ≡ (a || c)
or-same true b c f g = refl
or-same false b c f g = bool-same b c f (λ h. by (g h))
  where
    by : (false ≡ true) ⊎ (b ≡ true) → b ≡ true
    by (inl e) = cc
    by (inr e) = e

-- ---- members by a test of equality

-- an element that passes
pub any-member :
    {X : Type 0} (same : X → X → Bool) → ((x y : X) → same x y ≡ true → x ≡ y)
    → (p : X → Bool) (xs : List X) (x : X) → list_any (same x) xs ≡ true → p x ≡ true → list_any p xs ≡ true
any-member same sound p [] x m h = m
any-member same sound p (y ∷ ys) x m h = by (same x y) refl m (λ k. any-member same sound p ys x k h)
  where
    by :
        (b : Bool) → same x y ≡ b → (b || list_any (same x) ys) ≡ true → (list_any (same x) ys ≡ true → list_any p ys ≡ true)
        → (p y || list_any p ys) ≡ true
    by true e k later = or-left (p y) (list_any p ys) (ap p (sym (sound x y e)) ∙ h)
    by false e k later = or-right (p y) (list_any p ys) (later k)

pub any-found :
    {X : Type 0} (same : X → X → Bool) → ((x : X) → same x x ≡ true)
    → (p : X → Bool) (xs : List X) → list_any p xs ≡ true → (x : X) × (list_any (same x) xs ≡ true) × (p x ≡ true)
any-found same itself p [] h = cc
any-found {X} same itself p (y ∷ ys) h = by (p y) refl h (λ k. any-found same itself p ys k)
  where
    later : (x : X) × (list_any (same x) ys ≡ true) × (p x ≡ true) → (x : X) × (list_any (same x) (y ∷ ys) ≡ true) × (p x ≡ true)
    later (x, m, k) = (x, or-right (same x y) (list_any (same x) ys) m, k)

    by :
        (b : Bool) → p y ≡ b → (b || list_any p ys) ≡ true → (list_any p ys ≡ true → (x : X) × (list_any (same x) ys ≡ true) × (p x ≡ true))
        → (x : X) × (list_any (same x) (y ∷ ys) ≡ true) × (p x ≡ true)
    by true e k found = (y, or-left (same y y) (list_any (same y) ys) (itself y), e)
    by false e k found = later (found k)

pub any-more :
    {X : Type 0} (same : X → X → Bool) → ((x : X) → same x x ≡ true) → ((x y : X) → same x y ≡ true → x ≡ y)
    → (p : X → Bool) (xs ys : List X) → ((x : X) → list_any (same x) xs ≡ true → list_any (same x) ys ≡ true)
    → list_any p xs ≡ true → list_any p ys ≡ true
any-more {X} same itself sound p xs ys more h = by (any-found same itself p xs h)
  where
    by : (x : X) × (list_any (same x) xs ≡ true) × (p x ≡ true) → list_any p ys ≡ true
    by (x, m, k) = any-member same sound p ys x (more x m) k

pub any-flat : {X Y : Type 0} (p : Y → Bool) (f : X → List Y) (xs : List X) → list_any p (flat_map f xs) ≡ list_any (λ x. list_any p (f x)) xs
any-flat p f [] = refl
any-flat p f (x ∷ xs) = list_any-append p (f x) (flat_map f xs) ∙ ap (λ t. list_any p (f x) || t) (any-flat p f xs)

-- two tests that agree on the elements
pub any-agree : {X : Type 0} (P : X → Type 0) (p q : X → Bool) (xs : List X) → ((x : X) → P x → p x ≡ q x) → All P xs → list_any p xs ≡ list_any q xs
any-agree P p q [] same h = refl
any-agree P p q (x ∷ xs) same h =
    ap (λ t. t || list_any p xs) (same x (All-head P x xs h)) ∙ ap (λ t. q x || t) (any-agree P p q xs same (All-tail P x xs h))

-- ---- numbers

pub itself-number : (n : ℕ) → (n == n) ≡ true
itself-number n = eq-eqb n n refl

pub has-neighbours : (n : ℕ) (table : List (List ℕ)) (from : List ℕ) → has_number n (neighbours table from) ≡ list_any (λ x. has_number n (row_of table x)) from
has-neighbours n table from = any-flat (λ m. n == m) (row_of table) from

-- a neighbour
pub neighbour : (n x : ℕ) (table : List (List ℕ)) (from : List ℕ) → has_number x from ≡ true → has_number n (row_of table x) ≡ true → has_number n (neighbours table from) ≡ true
neighbour n x table from m h =
    has-neighbours n table from ∙ any-member (λ a b. a == b) (λ a b e. eqb-true a b e) (λ y. has_number n (row_of table y)) from x m h

pub neighbour-of : (n : ℕ) (table : List (List ℕ)) (from : List ℕ) → has_number n (neighbours table from) ≡ true → (x : ℕ) × (has_number x from ≡ true) × (has_number n (row_of table x) ≡ true)
neighbour-of n table from h = any-found (λ a b. a == b) itself-number (λ y. has_number n (row_of table y)) from (sym (has-neighbours n table from) ∙ h)

pub neighbours-grow :
    (n : ℕ) (table : List (List ℕ)) (from more : List ℕ) → ((x : ℕ) → has_number x from ≡ true → has_number x more ≡ true)
    → has_number n (neighbours table from) ≡ true → has_number n (neighbours table more) ≡ true
neighbours-grow n table from more grow h = by (neighbour-of n table from h)
  where
    by : (x : ℕ) × (has_number x from ≡ true) × (has_number n (row_of table x) ≡ true) → has_number n (neighbours table more) ≡ true
    by (x, m, k) = neighbour n x table more (grow x m) k
