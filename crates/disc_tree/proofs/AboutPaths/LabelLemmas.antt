-- The order of labels is a strict one in which any two different labels stand.
use Rattle.std.proofs.Common.{◌≡◌, true, false, refl, ap₂, arith}
use Rattle.std.proofs.lemmas.Bool.Decides.{nat_tests}
use Rattle.disc_tree.specs.declared.label.Label.{Label}
use Rattle.disc_tree.specs.declared.label.Label.TheVariants.{Star, Symbol}
use Rattle.disc_tree.specs.Path.{comes_before, same_label}

pub before-trans : (a b c : Label) → comes_before a b ≡ true → comes_before b c ≡ true → comes_before a c ≡ true
before-trans Star Star c h k = cc
before-trans Star (Symbol g m) Star h k = cc
before-trans Star (Symbol g m) (Symbol h' m') h k = refl
before-trans (Symbol f n) Star c h k = cc
before-trans (Symbol f n) (Symbol g m) Star h k = cc
before-trans (Symbol f n) (Symbol g m) (Symbol i o) h k = grind (arith, nat_tests)

pub before-irreflexive : (a : Label) → comes_before a a ≡ false
before-irreflexive Star = refl
before-irreflexive (Symbol f n) = grind (arith, nat_tests)

pub before-total : (a b : Label) → comes_before a b ≡ false → comes_before b a ≡ false → a ≡ b
before-total Star Star h k = refl
before-total Star (Symbol g m) h k = cc
before-total (Symbol f n) Star h k = cc
before-total (Symbol f n) (Symbol g m) h k =
    let e : f ≡ g = grind (arith, nat_tests) in
    let e' : n ≡ m = grind (arith, nat_tests) in
    ap₂ Symbol e e'

pub same-label-refl : (a : Label) → same_label a a ≡ true
same-label-refl Star = refl
same-label-refl (Symbol f n) = grind (arith, nat_tests)

pub before-not-same : (a b : Label) → comes_before a b ≡ true → same_label a b ≡ false
before-not-same Star Star h = cc
before-not-same Star (Symbol g m) h = refl
before-not-same (Symbol f n) Star h = refl
before-not-same (Symbol f n) (Symbol g m) h = grind (arith, nat_tests)

pub after-not-same : (a b : Label) → comes_before b a ≡ true → same_label a b ≡ false
after-not-same Star Star h = cc
after-not-same Star (Symbol g m) h = refl
after-not-same (Symbol f n) Star h = refl
after-not-same (Symbol f n) (Symbol g m) h = grind (arith, nat_tests)

pub same-label-is : (a b : Label) → same_label a b ≡ true → a ≡ b
same-label-is Star Star h = refl
same-label-is Star (Symbol g m) h = cc
same-label-is (Symbol f n) Star h = cc
same-label-is (Symbol f n) (Symbol g m) h =
    let e : f ≡ g = grind (arith, nat_tests) in
    let e' : n ≡ m = grind (arith, nat_tests) in
    ap₂ Symbol e e'
