-- Lengths, joined lists, and texts as lists of bytes.
use Rattle.std.proofs.Common.{[], Bool, List, ap, ap₂, arith, bytes_eq, drop, false, length, length-append, map, refl, suc, sym, take, true, ℕ, ◌++◌, ◌+◌, ◌==◌, ◌∙◌, ◌∷◌, ◌≡◌}
use Rattle.std.proofs.lemmas.Bool.{eqb-true}
use Rattle.std.proofs.lemmas.List.{drop-map, map-append, take-map}
use Rattle.std.proofs.lemmas.Slice.Eq.{bytes_eq-Decides}
use Rattle.std.specs.Prelude.{remove}

pub length-pushed : {X : Type 0} (xs : List X) (x : X) → length (xs ++ x ∷ []) ≡ length xs + 1
length-pushed xs x = length-append xs (x ∷ [])

pub length-joined : {X : Type 0} (a b : List X) → length (a ++ b) ≡ length a + length b
length-joined [] b = omega arith
length-joined (x ∷ a) b = omega (arith, length-joined a b)

pub empty-by-length : (xs : List ℕ) → length xs ≡ 0 → xs ≡ []
empty-by-length [] h = refl
empty-by-length (x ∷ xs) h = cc

pub remove-map : {X Y : Type 0} (h : X → Y) (xs : List X) (i : ℕ) → remove (map h xs) i ≡ map h (remove xs i)
remove-map h xs i =
    ap₂ ◌++◌ (take-map h i xs) (drop-map h (suc i) xs) ∙ sym (map-append h (take i xs) (drop (suc i) xs))

pub length-mapped : {X Y : Type 0} (g : X → Y) (xs : List X) → length (map g xs) ≡ length xs
length-mapped g [] = refl
length-mapped g (x ∷ xs) = ap suc (length-mapped g xs)

pub empty-by-test : {X : Type 0} (xs : List X) → (length xs == 0) ≡ true → xs ≡ []
empty-by-test [] h = refl
empty-by-test (x ∷ xs) h = absurd (omega (arith, eqb-true (length (x ∷ xs)) 0 h))

pub length-last : {X : Type 0} (xs : List X) (x : X) → length (xs ++ x ∷ []) ≡ 1 + length xs
length-last [] x = omega arith
length-last (y ∷ ys) x = omega (arith, length-last ys x)

pub push-joined : {X : Type 0} (xs : List X) (y : X) (ys : List X) → (xs ++ y ∷ []) ++ ys ≡ xs ++ y ∷ ys
push-joined [] y ys = refl
push-joined (x ∷ xs) y ys = ap (λ zs. x ∷ zs) (push-joined xs y ys)

pub bytes-turned : (x y : List ℕ) → bytes_eq x y ≡ bytes_eq y x
bytes-turned x y = by (bytes_eq x y) (bytes_eq y x) refl refl
  where
    by : (t u : Bool) → bytes_eq x y ≡ t → bytes_eq y x ≡ u → t ≡ u
    by true true h k = refl
    by false false h k = refl
    by true false h k = sym ((bytes_eq-Decides y x).1 (sym ((bytes_eq-Decides x y).0 h))) ∙ k
    by false true h k = sym h ∙ (bytes_eq-Decides x y).1 (sym ((bytes_eq-Decides y x).0 k))

pub same-rest : (vs xs ys : List ℕ) → vs ++ xs ≡ vs ++ ys → xs ≡ ys
same-rest [] xs ys e = e
same-rest (v ∷ vs) xs ys e = let later : vs ++ xs ≡ vs ++ ys = cc in same-rest vs xs ys later

pub bytes-self : (a : List ℕ) → bytes_eq a a ≡ true
bytes-self a = (bytes_eq-Decides a a).1 refl

pub bytes-same : (x y : List ℕ) → bytes_eq x y ≡ true → x ≡ y
bytes-same x y h = (bytes_eq-Decides x y).0 h
