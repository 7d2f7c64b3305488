-- Tests on all or some elements: `list_all`, `list_any`, `filter`, `find`, places.
use Rattle.std.proofs.Common.{[], Bool, List, ap, arith, cond, false, filter, if◌then◌else◌, length, map, not, refl, suc, sym, true, zero, ℕ, ◌&&◌, ◌++◌, ◌+◌, ◌||◌, ◌∙◌, ◌∷◌, ◌≡◌}
use Rattle.std.proofs.lemmas.Bool.{and_from, and_parts, not-true, or_left, or_parts, or_right}
use Rattle.std.proofs.lemmas.List.Elements.{All-cons, All-nil}
use Rattle.std.proofs.lemmas.List.Folds.{list_all-append, list_any-append}
use Rattle.std.proofs.lemmas.Option.{none-some, same_Some}
use Rattle.std.specs.List.{AllByRecursion, list_all, list_any, position_or_len}
use Rattle.std.specs.Prelude.{All, IsTrue, Some, find, flat_map, slice_get}

pub position-past : {X : Type 0} (test : X → Bool) (xs : List X) → list_any test xs ≡ false → position_or_len test xs ≡ length xs
position-past test [] none = refl
position-past test (x ∷ xs) none =
    let parts = or_parts (test x) (list_any test xs) none in
    let rest : position_or_len test xs ≡ length xs = position-past test xs parts.1 in
    ap (λ t. cond (not t) (1 + position_or_len test xs) 0) parts.0 ∙ omega (arith, rest)

pub any-joined : {X : Type 0} (p : X → Bool) (xs ys : List X) → list_any p (xs ++ ys) ≡ (list_any p xs || list_any p ys)
any-joined p [] ys = refl
any-joined p (x ∷ xs) ys = by (p x) (any-joined p xs ys)
  where
    by :
        (t : Bool) → list_any p (xs ++ ys) ≡ (list_any p xs || list_any p ys)
        → (t || list_any p (xs ++ ys)) ≡ ((t || list_any p xs) || list_any p ys)
    by true h = refl
    by false h = h

pub none-pass : {X : Type 0} (q : X → Bool) (xs : List X) → list_all (λ x. not (q x)) xs ≡ true → list_any q xs ≡ false
none-pass q [] all = refl
none-pass q (x ∷ xs) all =
    let parts = and_parts (not (q x)) (list_all (λ y. not (q y)) xs) all in
    ap (λ b. b || list_any q xs) (not-true (q x) parts.0) ∙ none-pass q xs parts.1

pub any-kept : {X : Type 0} (p : X → Bool) (xs ys : List X) → list_any p xs ≡ true → list_any p (xs ++ ys) ≡ true
any-kept p [] ys h = cc
any-kept p (x ∷ xs) ys h = by (p x) refl (any-kept p xs ys)
  where
    by : (t : Bool) → p x ≡ t → (list_any p xs ≡ true → list_any p (xs ++ ys) ≡ true) → (t || list_any p (xs ++ ys)) ≡ true
    by true e f = refl
    by false e f = f (ap (λ t. t || list_any p xs) (sym e) ∙ h)

pub tests-all : (p : ℕ → Bool) (vs : List ℕ) → list_all p vs ≡ true → All (λ v. IsTrue (p v)) vs
tests-all p [] h = All-nil (λ w. IsTrue (p w))
tests-all p (v ∷ vs) h =
    let both = and_parts (p v) (list_all p vs) h in
    All-cons (λ w. IsTrue (p w)) v vs both.0 (tests-all p vs both.1)

pub any-agree : {X : Type 0} (p q : X → Bool) → ((x : X) → p x ≡ q x) → (xs : List X) → list_any p xs ≡ list_any q xs
any-agree p q e xs = ap (λ r. list_any r xs) (λ i. λ x. e x i)

pub any-map : {X Y : Type 0} (p : Y → Bool) (f : X → Y) (xs : List X) → list_any p (map f xs) ≡ list_any (λ x. p (f x)) xs
any-map p f [] = refl
any-map p f (x ∷ xs) = ap (λ b. p (f x) || b) (any-map p f xs)

pub all-joined : {X : Type 0} (p : X → Bool) (xs ys : List X) → list_all p xs ≡ true → list_all p ys ≡ true → list_all p (xs ++ ys) ≡ true
all-joined p [] ys h k = k
all-joined p (x ∷ xs) ys h k = and_from _ _ (and_parts _ _ h).0 (all-joined p xs ys (and_parts _ _ h).1 k)

pub any-filter : {X : Type 0} (p r : X → Bool) (xs : List X) → list_any p (filter r xs) ≡ list_any (λ x. r x && p x) xs
any-filter p r [] = refl
any-filter p r (x ∷ xs) = by (r x) (any-filter p r xs)
  where
    by :
        (t : Bool) → list_any p (filter r xs) ≡ list_any (λ y. r y && p y) xs
        → list_any p (if t then x ∷ filter r xs else filter r xs) ≡ ((t && p x) || list_any (λ y. r y && p y) xs)
    by true h = ap (λ t. p x || t) h
    by false h = h

pub any-flat_map : {X Y : Type 0} (p : Y → Bool) (g : X → List Y) (xs : List X) → list_any p (flat_map g xs) ≡ list_any (λ x. list_any p (g x)) xs
any-flat_map p g [] = refl
any-flat_map p g (x ∷ xs) = list_any-append p (g x) (flat_map g xs) ∙ ap (λ t. list_any p (g x) || t) (any-flat_map p g xs)

pub any-or : (p q : ℕ → Bool) (ns : List ℕ) → list_any (λ n. p n || q n) ns ≡ (list_any p ns || list_any q ns)
any-or p q [] = refl
any-or p q (n ∷ ns) = ap (λ b. (p n || q n) || b) (any-or p q ns) ∙ regroup (p n) (q n) (list_any p ns) (list_any q ns)
  where
    regroup : (a b c d : Bool) → ((a || b) || (c || d)) ≡ ((a || c) || (b || d))
    regroup true b c d = refl
    regroup false true true d = refl
    regroup false true false d = refl
    regroup false false c d = refl

pub all-both : {X : Type 0} (p q r : X → Bool) → ((x : X) → p x ≡ true → q x ≡ true → r x ≡ true) → (xs : List X) → list_all p xs ≡ true → list_all q xs ≡ true → list_all r xs ≡ true
all-both p q r both [] one other = refl
all-both p q r both (x ∷ xs) one other =
    let first = and_parts (p x) (list_all p xs) one in
    let second = and_parts (q x) (list_all q xs) other in
    and_from (r x) (list_all r xs) (both x first.0 second.0) (all-both p q r both xs first.1 second.1)

pub any-at : {X : Type 0} (p : X → Bool) (xs : List X) (n : ℕ) (x : X) → slice_get xs n ≡ Some x → p x ≡ true → list_any p xs ≡ true
any-at p [] n x there passes = absurd (none-some x there)
any-at p (y ∷ ys) zero x there passes = or_left (p y) (list_any p ys) (ap p (same_Some y x there) ∙ passes)
any-at p (y ∷ ys) (suc n) x there passes = or_right (p y) (list_any p ys) (any-at p ys n x there passes)

pub filtered-pass : (q : ℕ → Bool) (ws : List ℕ) → AllByRecursion (λ w. q w ≡ true) (filter q ws)
filtered-pass q [] = tt
filtered-pass q (w ∷ ws) = by (q w) refl (filtered-pass q ws)
  where
    by :
        (b : Bool) → q w ≡ b → AllByRecursion (λ u. q u ≡ true) (filter q ws)
        → AllByRecursion (λ u. q u ≡ true) (if b then w ∷ filter q ws else filter q ws)
    by true k rest = (k, rest)
    by false k rest = rest

pub found-passes : {X : Type 0} (p : X → Bool) (xs : List X) (x : X) → find p xs ≡ Some x → p x ≡ true
found-passes p [] x found = absurd (none-some x found)
found-passes p (y ∷ ys) x found = by (p y) refl found (found-passes p ys x)
  where
    by : (b : Bool) → p y ≡ b → cond b (Some y) (find p ys) ≡ Some x → (find p ys ≡ Some x → p x ≡ true) → p x ≡ true
    by true is h rest = ap p (sym (same_Some y x h)) ∙ is
    by false is h rest = rest h

pub all-parts : {X : Type 0} (p : X → Bool) (xs ys : List X) → list_all p (xs ++ ys) ≡ true → (list_all p xs ≡ true) × (list_all p ys ≡ true)
all-parts p xs ys h = and_parts (list_all p xs) (list_all p ys) (sym (list_all-append p xs ys) ∙ h)

pub all-from-each : {X : Type 0} (p : X → Bool) (xs : List X) → ((k : ℕ) (x : X) → slice_get xs k ≡ Some x → p x ≡ true) → list_all p xs ≡ true
all-from-each p [] each = refl
all-from-each p (x ∷ xs) each = and_from (p x) (list_all p xs) (each 0 x refl) (all-from-each p xs (λ k y at. each (suc k) y at))

pub position-kept : {X : Type 0} (p : X → Bool) (xs ys : List X) → list_any p xs ≡ true → position_or_len p (xs ++ ys) ≡ position_or_len p xs
position-kept p [] ys h = cc
position-kept p (x ∷ xs) ys h = by (p x) h (position-kept p xs ys)
  where
    by :
        (t : Bool) → (t || list_any p xs) ≡ true → (list_any p xs ≡ true → position_or_len p (xs ++ ys) ≡ position_or_len p xs)
        → cond (not t) (1 + position_or_len p (xs ++ ys)) 0 ≡ cond (not t) (1 + position_or_len p xs) 0
    by true g f = refl
    by false g f = ap (λ k. 1 + k) (f g)
