-- Steps of loops over the literals of a clause, and of its instances.
use Rattle.std.proofs.Common.{◌≡◌, ℕ, ◌+◌, ◌≤◌, Bool, true, false, ◌&&◌, ◌||◌, List, [], ◌∷◌, ◌++◌, Some, slice_get, map, take, refl, ap, sym, ◌∙◌, subst, ⊎_elim, arith}
use Rattle.std.specs.Prelude.{sum_by, option_map}
use Rattle.std.specs.List.{list_any, list_all}
use Rattle.std.proofs.lemmas.Bool.{and_from, or_from, or_left, or_right, false_from_ne_true, true≢false}
use Rattle.std.proofs.lemmas.List.{take_more, map-append}
use Rattle.std.proofs.lemmas.List.Folds.{list_all-append, list_any-append}
use Rattle.std.proofs.lemmas.List.Sums.{sum_by-cons}
use Rattle.std.proofs.lemmas.Option.{slice_get-map, slice_get_within, get_or_from_slice_get}
use Rattle.fol_base.specs.Instance.{Substitution}
use Rattle.fol_base.specs.Clause.{TreeLiteral, literal_size, literal_instance}
use Rattle.fol_base.specs.Ground.{literals_instance}
use Rattle.fol_base.specs.Multiset.{times}
use Rattle.fol_base.proofs.AboutClauses.CountLemmas.{times-cons, times-append}
use Rattle.fol_base.specs.Order.{equivalent_literals, literal_greater, compare_literals}
use Rattle.kbo_order.specs.declared.cmp.Cmp.{Cmp}
use Rattle.kbo_order.specs.declared.cmp.Cmp.TheVariants.{Greater, Less, Equal, Unordered}
use Rattle.kbo_order.specs.Cmp.{comparison_of, is_greater}
use Rattle.kbo_order.proofs.AboutMultisets.MemberLemmas.{In, In-at, all-In}
use Rattle.kbo_order.proofs.AboutReading.BitLemmas.{bit}
use Rattle.kbo_order.proofs.AboutReading.FurtherLemmas.{by_tests}
use Rattle.kbo_order.proofs.AboutLaws.StrictOrderLemmas.{literals_ordered}

pub some-fails : {X : Type 0} (p : X → Bool) (xs : List X) (x : X) → In x xs → p x ≡ false → list_all p xs ≡ false
some-fails p xs x there here =
    false_from_ne_true (list_all p xs) (λ all. true≢false (sym (all-In p xs all x there) ∙ here))

-- the front grows by the element of the index
pub take-more : {X : Type 0} (xs : List X) (i : ℕ) (x : X) → slice_get xs i ≡ Some x → take (i + 1) xs ≡ take i xs ++ x ∷ []
take-more xs i x e =
    take_more xs i x (slice_get_within xs i x e) ∙ ap (λ y. take i xs ++ y ∷ []) (get_or_from_slice_get xs i x x e)

pub In-index : {X : Type 0} (xs : List X) (i : ℕ) (x : X) → slice_get xs i ≡ Some x → In x xs
In-index xs i x e = subst (λ y. In y xs) (get_or_from_slice_get xs i x x e) (In-at xs i x (slice_get_within xs i x e))

-- ---- the members of a list under a map, as the literals of a clause under a substitution

pub mapped-item : {X Y : Type 0} (f : X → Y) (xs : List X) (i : ℕ) (x : X) → slice_get xs i ≡ Some x → slice_get (map f xs) i ≡ Some (f x)
mapped-item f xs i x e = slice_get-map f xs i ∙ ap (option_map f) e

mapped-more :
    {X Y : Type 0} (f : X → Y) (xs : List X) (i : ℕ) (x : X) → slice_get xs i ≡ Some x
    → map f (take (i + 1) xs) ≡ map f (take i xs) ++ f x ∷ []
mapped-more f xs i x e = ap (map f) (take-more xs i x e) ∙ map-append f (take i xs) (x ∷ [])

In-mapped : {X Y : Type 0} (f : X → Y) (xs : List X) (i : ℕ) (x : X) → slice_get xs i ≡ Some x → In (f x) (map f xs)
In-mapped f xs i x e = In-index (map f xs) i (f x) (mapped-item f xs i x e)

pub all-more :
    {X Y : Type 0} (p : Y → Bool) (f : X → Y) (xs : List X) (i : ℕ) (x : X) → slice_get xs i ≡ Some x
    → list_all p (map f (take i xs)) ≡ true → p (f x) ≡ true → list_all p (map f (take (i + 1) xs)) ≡ true
all-more p f xs i x e before here =
    ap (list_all p) (mapped-more f xs i x e)
    ∙ list_all-append p (map f (take i xs)) (f x ∷ [])
    ∙ and_from (list_all p (map f (take i xs))) (p (f x) && true) before (and_from (p (f x)) true here refl)

pub all-stop :
    {X Y : Type 0} (p : Y → Bool) (f : X → Y) (xs : List X) (i : ℕ) (x : X) → slice_get xs i ≡ Some x
    → p (f x) ≡ false → false ≡ list_all p (map f xs)
all-stop p f xs i x e here = sym (some-fails p (map f xs) (f x) (In-mapped f xs i x e) here)

pub any-more :
    {X Y : Type 0} (p : Y → Bool) (f : X → Y) (xs : List X) (i : ℕ) (x : X) → slice_get xs i ≡ Some x
    → list_any p (map f (take i xs)) ≡ false → p (f x) ≡ false → list_any p (map f (take (i + 1) xs)) ≡ false
any-more p f xs i x e before here =
    ap (list_any p) (mapped-more f xs i x e)
    ∙ list_any-append p (map f (take i xs)) (f x ∷ [])
    ∙ or_from (list_any p (map f (take i xs))) (p (f x) || false) before (or_from (p (f x)) false here refl)

In-any : {X : Type 0} (p : X → Bool) (xs : List X) (x : X) → In x xs → p x ≡ true → list_any p xs ≡ true
In-any p [] x there h = absurd there
In-any p (y ∷ ys) x there h =
    ⊎_elim
    (λ e. or_left (p y) (list_any p ys) (ap p (sym e) ∙ h))
    (λ later. or_right (p y) (list_any p ys) (In-any p ys x later h))
    there

pub any-stop :
    {X Y : Type 0} (p : Y → Bool) (f : X → Y) (xs : List X) (i : ℕ) (x : X) → slice_get xs i ≡ Some x
    → p (f x) ≡ true → true ≡ list_any p (map f xs)
any-stop p f xs i x e here = sym (In-any p (map f xs) (f x) (In-mapped f xs i x e) here)

pub times-more :
    {X Y : Type 0} (same : Y → Y → Bool) (z : Y) (f : X → Y) (xs : List X) (i : ℕ) (x : X) → slice_get xs i ≡ Some x
    → times same z (map f (take (i + 1) xs)) ≡ times same z (map f (take i xs)) + bit (same z (f x))
times-more same z f xs i x e =
    omega (
      arith,
      ap (times same z) (mapped-more f xs i x e),
      times-append same z (map f (take i xs)) (f x ∷ []),
      times-cons same z (f x) [],
    )

-- a literal is no larger than its clause
In-size : (ls : List TreeLiteral) (l : TreeLiteral) → In l ls → literal_size l ≤ sum_by literal_size ls
In-size [] l there = absurd there
In-size (m ∷ ls) l there =
    ⊎_elim
    (λ e. omega (arith, sum_by-cons literal_size m ls, ap literal_size e))
    (λ later. omega (arith, sum_by-cons literal_size m ls, In-size ls l later))
    there

pub item-size : (ls : List TreeLiteral) (i : ℕ) (l : TreeLiteral) → slice_get ls i ≡ Some l → literal_size l ≤ sum_by literal_size ls
item-size ls i l e = In-size ls l (In-index ls i l e)

pub mapped-size :
    (σ : Substitution) (ls : List TreeLiteral) (i : ℕ) (l : TreeLiteral) → slice_get ls i ≡ Some l
    → literal_size (literal_instance σ l) ≤ sum_by literal_size (literals_instance σ ls)
mapped-size σ ls i l e =
    item-size (literals_instance σ ls) i (literal_instance σ l) (mapped-item (literal_instance σ) ls i l e)

pub and-swap : (a b : Bool) → (a && b) ≡ (b && a)
and-swap true true = refl
and-swap true false = refl
and-swap false true = refl
and-swap false false = refl

-- ---- greater, by the answer

tests-greater : (c : Cmp) (a b d : Bool) → comparison_of c ≡ by_tests a b d → (a ≡ true → b ≡ false) → is_greater c ≡ b
tests-greater Greater true b d e h = absurd (cc)
tests-greater Greater false true d e h = refl
tests-greater Greater false false true e h = absurd (cc)
tests-greater Greater false false false e h = absurd (cc)
tests-greater Less true b d e h = sym (h refl)
tests-greater Less false true d e h = absurd (cc)
tests-greater Less false false d e h = refl
tests-greater Equal true b d e h = sym (h refl)
tests-greater Equal false true d e h = absurd (cc)
tests-greater Equal false false d e h = refl
tests-greater Unordered true b d e h = sym (h refl)
tests-greater Unordered false true d e h = absurd (cc)
tests-greater Unordered false false d e h = refl

pub greater-is : (c : Cmp) (l m : TreeLiteral) → comparison_of c ≡ compare_literals l m → is_greater c ≡ literal_greater l m
greater-is c l m e =
    tests-greater c (equivalent_literals l m) (literal_greater l m) (literal_greater m l) e
    (λ same. false_from_ne_true (literal_greater l m) (λ g.
    true≢false (sym (literals_ordered.same_left l m m same g) ∙ literals_ordered.is_irreflexive m)))
