-- Lists, as a walk over them works them off.
use Rattle.std.proofs.Common.{◌≡◌, ℕ, zero, suc, ◌≤◌, Bool, true, false, ◌||◌, List, [], ◌∷◌, ◌++◌, length, take, refl, ap, sym, ◌∙◌, arith, append_assoc}
use Rattle.std.specs.Prelude.{filter, if◌then◌else◌}
use Rattle.std.specs.List.{list_any}
use Rattle.list_lemmas.proofs.Lists.{length-pushed}
use Rattle.list_lemmas.proofs.Places.{take-less}

pub any-last : {X : Type 0} (p : X → Bool) (xs : List X) (x : X) → list_any p xs ≡ false → p x ≡ false → list_any p (xs ++ x ∷ []) ≡ false
any-last p [] x h f = ap (λ t. t || false) f
any-last p (y ∷ ys) x h f = by (p y) h (any-last p ys x)
  where
    by :
        (t : Bool) → (t || list_any p ys) ≡ false → (list_any p ys ≡ false → p x ≡ false → list_any p (ys ++ x ∷ []) ≡ false)
        → (t || list_any p (ys ++ x ∷ [])) ≡ false
    by true g k = cc
    by false g k = k g f

pub filter-last : {X : Type 0} (p : X → Bool) (xs : List X) (x : X) → filter p (xs ++ x ∷ []) ≡ filter p xs ++ (if p x then x ∷ [] else [])
filter-last p [] x = by (p x)
  where
    by : (t : Bool) → (if t then x ∷ [] else []) ≡ [] ++ (if t then x ∷ [] else [])
    by true = refl
    by false = refl
filter-last p (y ∷ ys) x = by (p y) (filter-last p ys x)
  where
    by :
        (t : Bool) → filter p (ys ++ x ∷ []) ≡ filter p ys ++ (if p x then x ∷ [] else [])
        → (if t then y ∷ filter p (ys ++ x ∷ []) else filter p (ys ++ x ∷ [])) ≡ (if t then y ∷ filter p ys else filter p ys) ++ (if p x then x ∷ [] else [])
    by true g = ap (λ zs. y ∷ zs) g
    by false g = g

-- what is found is added
pub added : {X : Type 0} (made new found rest all : List X) → new ≡ made ++ found → made ++ (found ++ rest) ≡ all → new ++ rest ≡ all
added made new found rest all h k = ap (λ xs. xs ++ rest) h ∙ append_assoc made found rest ∙ k

before : {X : Type 0} (n : ℕ) (ys zs : List X) → n ≤ length ys → take n (ys ++ zs) ≡ take n ys
before zero ys zs k = refl
before (suc n) [] zs k = absurd (omega (arith, k))
before (suc n) (y ∷ ys) zs k = ap (λ us. y ∷ us) (before n ys zs (omega (arith, k)))

pub take-kept : {X : Type 0} (old new : List X) (x : X) (all : List X) → take (length old) new ≡ old → all ≡ new ++ x ∷ [] → length old ≤ length new → take (length old) all ≡ old
take-kept old new x all h e l = ap (take (length old)) e ∙ before (length old) new (x ∷ []) l ∙ h

pub begun-then :
    {X : Type 0} (old mid new : List X)
    → take (length old) mid ≡ old → length old ≤ length mid → take (length mid) new ≡ mid → take (length old) new ≡ old
begun-then old mid new h l e = sym (take-less (length old) (length mid) new l) ∙ ap (take (length old)) e ∙ h

pub length-take : {X : Type 0} (n : ℕ) (xs : List X) → length (take n xs) ≤ length xs
length-take zero xs = omega arith
length-take (suc n) [] = omega arith
length-take (suc n) (x ∷ xs) = omega (arith, length-take n xs)

pub begun-longer : {X : Type 0} (old mid new : List X) → length old ≤ length mid → take (length mid) new ≡ mid → length old ≤ length new
begun-longer old mid new l e = omega (arith, l, ap length e, length-take (length mid) new)

pub longer-kept : {X : Type 0} (old new : List X) (x : X) (all : List X) → all ≡ new ++ x ∷ [] → length old ≤ length new → length old ≤ length all
longer-kept old new x all e l = omega (arith, ap length e, length-pushed new x, l)
