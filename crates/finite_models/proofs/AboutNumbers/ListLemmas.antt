-- What holds of each item of a list, and tests of all numbers of a range.
use Rattle.std.proofs.Common.{◌≡◌, ℕ, zero, suc, ◌+◌, ◌<◌, ◌≤◌, Bool, true, false, ◌&&◌, ◌||◌, List, [], ◌∷◌, ◌++◌, refl, ap, sym, ◌∙◌, subst, arith, ⊎_elim}
use Rattle.std.specs.List.{AllByRecursion, list_any, list_all}
use Rattle.std.proofs.lemmas.Bool.{and_parts, and_from, or_left, or_right, or_from, cases_eq}
use Rattle.std.proofs.lemmas.List.Folds.{list_all-append, list_any-append}
use Rattle.fol_base.specs.Canonical.{numbers_from}
use Rattle.list_lemmas.proofs.Bools.{and-true, or-false}
use Rattle.list_lemmas.proofs.Members.{all-front, all-back}

-- ---- each item

pub each-parts :
    {X : Type 0} (P : X → Type 0) (xs ys : List X) → AllByRecursion P (xs ++ ys) → AllByRecursion P xs × AllByRecursion P ys
each-parts P xs ys h = (all-front P xs ys h, all-back P xs ys h)

pub each-joined :
    {X : Type 0} (P : X → Type 0) (xs ys : List X) → AllByRecursion P xs → AllByRecursion P ys → AllByRecursion P (xs ++ ys)
each-joined P [] ys h k = k
each-joined P (x ∷ xs) ys h k = (h.0, each-joined P xs ys h.1 k)

-- ---- some item

pub any-left : {X : Type 0} (p : X → Bool) (xs ys : List X) → list_any p xs ≡ true → list_any p (xs ++ ys) ≡ true
any-left p xs ys h = list_any-append p xs ys ∙ or_left (list_any p xs) (list_any p ys) h

pub any-right : {X : Type 0} (p : X → Bool) (xs ys : List X) → list_any p ys ≡ true → list_any p (xs ++ ys) ≡ true
any-right p xs ys h = list_any-append p xs ys ∙ or_right (list_any p xs) (list_any p ys) h

pub any-neither :
    {X : Type 0} (p : X → Bool) (xs ys : List X) → list_any p xs ≡ false → list_any p ys ≡ false → list_any p (xs ++ ys) ≡ false
any-neither p xs ys h k = list_any-append p xs ys ∙ or_from (list_any p xs) (list_any p ys) h k

-- ---- numbers

pub all-numbers :
    (test : ℕ → Bool) (first count : ℕ)
    → ((k : ℕ) → first ≤ k → k < first + count → test k ≡ true) → list_all test (numbers_from first count) ≡ true
all-numbers test first zero h = refl
all-numbers test first (suc count) h =
    and_from (test first) (list_all test (numbers_from (suc first) count)) (h first (omega arith) (omega arith))
    (all-numbers test (suc first) count (λ k l m. h k (omega (arith, l)) (omega (arith, m))))

pub number-passes :
    (test : ℕ → Bool) (first count k : ℕ)
    → list_all test (numbers_from first count) ≡ true → first ≤ k → k < first + count → test k ≡ true
number-passes test first zero k h l m = absurd (omega (arith, l, m))
number-passes test first (suc count) k h l m =
    let parts = and_parts (test first) (list_all test (numbers_from (suc first) count)) h in
    ⊎_elim (λ e. subst (λ n. test n ≡ true) e parts.0)
    (λ far. number-passes test (suc first) count k parts.1 (omega (arith, l, far)) (omega (arith, m)))
    (cases_eq first k)

-- a test that some number of a range passes
pub any-number :
    (test : ℕ → Bool) (first count k : ℕ)
    → first ≤ k → k < first + count → test k ≡ true → list_any test (numbers_from first count) ≡ true
any-number test first zero k l m h = absurd (omega (arith, l, m))
any-number test first (suc count) k l m h =
    ⊎_elim (λ e. or_left (test first) (list_any test (numbers_from (suc first) count)) (subst (λ n. test n ≡ true) (sym e) h))
    (λ far.
    or_right (test first) (list_any test (numbers_from (suc first) count))
    (any-number test (suc first) count k (omega (arith, l, far)) (omega (arith, m)) h))
    (cases_eq first k)

-- what holds of each number of a range
pub each-number :
    (P : ℕ → Type 0) (first count : ℕ) → ((k : ℕ) → first ≤ k → k < first + count → P k) → AllByRecursion P (numbers_from first count)
each-number P first zero h = tt
each-number P first (suc count) h = (
  h first (omega arith) (omega arith),
  each-number P (suc first) count (λ k l m. h k (omega (arith, l)) (omega (arith, m))),
)

-- ---- one more number

numbers-push : (first count : ℕ) → numbers_from first (suc count) ≡ numbers_from first count ++ (first + count) ∷ []
numbers-push first zero = let e : first ≡ first + 0 = omega arith in ap (λ (k : ℕ). k ∷ []) e
numbers-push first (suc count) =
    let e : suc first + count ≡ first + suc count = omega arith in
    ap (λ (ks : List ℕ). first ∷ ks)
    (numbers-push (suc first) count ∙ ap (λ (k : ℕ). numbers_from (suc first) count ++ k ∷ []) e)

pub numbers-more : (first count : ℕ) → numbers_from first (count + 1) ≡ numbers_from first count ++ (first + count) ∷ []
numbers-more first count =
    let e : count + 1 ≡ suc count = omega arith in ap (λ n. numbers_from first n) e ∙ numbers-push first count

pub numbers-next : (count : ℕ) → numbers_from 0 (count + 1) ≡ numbers_from 0 count ++ count ∷ []
numbers-next count =
    let e : 0 + count ≡ count = omega arith in numbers-more 0 count ∙ ap (λ (k : ℕ). numbers_from 0 count ++ k ∷ []) e

pub all-more : (test : ℕ → Bool) (count : ℕ) → list_all test (numbers_from 0 (count + 1)) ≡ (list_all test (numbers_from 0 count) && test count)
all-more test count =
    ap (list_all test) (numbers-next count)
    ∙ list_all-append test (numbers_from 0 count) (count ∷ [])
    ∙ ap (λ b. list_all test (numbers_from 0 count) && b) (and-true (test count))

pub any-more : (test : ℕ → Bool) (count : ℕ) → list_any test (numbers_from 0 (count + 1)) ≡ (list_any test (numbers_from 0 count) || test count)
any-more test count =
    ap (list_any test) (numbers-next count)
    ∙ list_any-append test (numbers_from 0 count) (count ∷ [])
    ∙ ap (λ b. list_any test (numbers_from 0 count) || b) (or-false (test count))
