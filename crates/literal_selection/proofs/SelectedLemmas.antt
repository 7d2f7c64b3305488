-- The first negative literal of greatest size, as literals are read one by one.
use Rattle.std.proofs.Common.{◌≡◌, ℕ, suc, ◌+◌, ◌<◌, ◌≤◌, max, Bool, true, false, not, ◌&&◌, ◌==◌, if◌then◌else◌, List, [], ◌∷◌, ◌++◌, length, length-take-le, take, slice_get, Option, None, Some, refl, ap, sym, ◌∙◌, inl, inr, ⊎_elim, arith}
use Rattle.std.specs.Prelude.{option_map}
use Rattle.std.specs.List.{AllByRecursion}
use Rattle.std.proofs.lemmas.Bool.{cases_lt, cond-true, cond-false, false_from_ne_true, eq-eqb, eqb-true}
use Rattle.std.proofs.lemmas.Option.{slice_get_within}
use Rattle.fol_base.specs.Clause.{TreeLiteral, literal_size}
use Rattle.fol_base.specs.Selection.{select_negative, greatest_negative_size, first_index, chosen}
use Rattle.fol_base.proofs.AboutTerms.TreeLemmas.{tree_size-positive}
use Rattle.kbo_order.proofs.AboutMultisets.MemberLemmas.{In}
use Rattle.kbo_order.proofs.AboutMultisets.ClauseLoops.{take-more}
use Rattle.literal_selection.specs.Mode.{negative_size}

-- ---- sizes

greatest-cons : (l : TreeLiteral) (ls : List TreeLiteral) → greatest_negative_size (l ∷ ls) ≡ max (negative_size l) (greatest_negative_size ls)
greatest-cons l ls = by_sign l.positive (literal_size l) (greatest_negative_size ls)
  where
    by_sign : (b : Bool) (s g : ℕ) → (if b then g else max s g) ≡ max (if b then 0 else s) g
    by_sign true s g = omega arith
    by_sign false s g = omega arith

pub greatest-more :
    (ls : List TreeLiteral) (l : TreeLiteral) → greatest_negative_size (ls ++ l ∷ []) ≡ max (greatest_negative_size ls) (negative_size l)
greatest-more [] l = omega (arith, greatest-cons l [])
greatest-more (k ∷ ls) l = omega (arith, greatest-more ls l, greatest-cons k ls, greatest-cons k (ls ++ l ∷ []))

greatest-bound : (ls : List TreeLiteral) (l : TreeLiteral) → In l ls → negative_size l ≤ greatest_negative_size ls
greatest-bound [] l there = absurd there
greatest-bound (k ∷ ls) l there =
    ⊎_elim
    (λ e. omega (arith, greatest-cons k ls, ap negative_size e))
    (λ later. omega (arith, greatest-cons k ls, greatest-bound ls l later))
    there

greatest-attained : (ls : List TreeLiteral) → 0 < greatest_negative_size ls → (l : TreeLiteral) × In l ls × (negative_size l ≡ greatest_negative_size ls)
greatest-attained [] h = absurd (omega arith)
greatest-attained (k ∷ ls) h =
    ⊎_elim
    (λ less.
    let later = greatest-attained ls (omega arith) in
    (later.0, inr later.1, omega (arith, greatest-cons k ls, later.2)))
    (λ enough. (k, inl refl, omega (arith, greatest-cons k ls)))
    (cases_lt (negative_size k) (greatest_negative_size ls))

-- ---- the test for the chosen literal

-- negative, and of that size
abbrev is_chosen : ℕ → TreeLiteral → Bool
is_chosen size l = not l.positive && (literal_size l == size)

by_sign : (b : Bool) (s size : ℕ) → 0 < s → (not b && (s == size)) ≡ true → 0 < size × ((if b then 0 else s) ≡ size)
by_sign true s size h e = absurd (cc)
by_sign false s size h e = let same : s ≡ size = eqb-true s size e in (omega arith, same)

from_sign : (b : Bool) (s size : ℕ) → 0 < size → (if b then 0 else s) ≡ size → (not b && (s == size)) ≡ true
from_sign true s size h e = absurd (omega arith)
from_sign false s size h e = eq-eqb s size e

literal_size-positive : (l : TreeLiteral) → 0 < literal_size l
literal_size-positive l = omega (arith, tree_size-positive l.left)

is_chosen-says : (size : ℕ) (l : TreeLiteral) → is_chosen size l ≡ true → (0 < size) × (negative_size l ≡ size)
is_chosen-says size l e = by_sign l.positive (literal_size l) size (literal_size-positive l) e

is_chosen-from : (size : ℕ) (l : TreeLiteral) → 0 < size → negative_size l ≡ size → is_chosen size l ≡ true
is_chosen-from size l h e = from_sign l.positive (literal_size l) size h e

is_chosen-not : (size : ℕ) (l : TreeLiteral) → ((0 < size) × (negative_size l ≡ size) → ⊥) → is_chosen size l ≡ false
is_chosen-not size l none = false_from_ne_true (is_chosen size l) (λ e. none (is_chosen-says size l e))

-- ---- the first index

first-none : (p : TreeLiteral → Bool) (ls : List TreeLiteral) → ((l : TreeLiteral) → In l ls → p l ≡ false) → first_index p ls ≡ None
first-none p [] none = refl
first-none p (l ∷ ls) none =
    cond-false (p l) (Some 0) (option_map suc (first_index p ls)) (none l (inl refl))
    ∙ ap (option_map suc) (first-none p ls (λ k there. none k (inr there)))

first-last :
    (p : TreeLiteral → Bool) (ls : List TreeLiteral) (l : TreeLiteral)
    → ((k : TreeLiteral) → In k ls → p k ≡ false) → p l ≡ true → first_index p (ls ++ l ∷ []) ≡ Some (length ls)
first-last p [] l none here = cond-true (p l) (Some 0) (option_map suc (first_index p [])) here
first-last p (k ∷ ls) l none here =
    cond-false (p k) (Some 0) (option_map suc (first_index p (ls ++ l ∷ []))) (none k (inl refl))
    ∙ ap (option_map suc) (first-last p ls l (λ j there. none j (inr there)) here)

first-found :
    (p : TreeLiteral → Bool) (ls more : List TreeLiteral) (l : TreeLiteral)
    → In l ls → p l ≡ true → first_index p (ls ++ more) ≡ first_index p ls
first-found p [] more l there here = absurd there
first-found p (k ∷ ls) more l there here =
    ⊎_elim
    (λ e.
    let first : p k ≡ true = ap p (sym e) ∙ here in
    cond-true (p k) (Some 0) (option_map suc (first_index p (ls ++ more))) first
    ∙ sym (cond-true (p k) (Some 0) (option_map suc (first_index p ls)) first))
    (λ later. ap (λ (o : Option ℕ). if p k then Some 0 else option_map suc o) (first-found p ls more l later here))
    there

mapped-none : (o : Option ℕ) → option_map suc o ≡ None → o ≡ None
mapped-none None e = refl
mapped-none (Some n) e = absurd (cc)

not-found :
    (b : Bool) (o : Option ℕ) → (if b then Some 0 else option_map suc o) ≡ None → b ≡ false × (o ≡ None)
not-found true o e = absurd (cc)
not-found false o e = (refl, mapped-none o e)

first-some : (p : TreeLiteral → Bool) (ls : List TreeLiteral) (l : TreeLiteral) → In l ls → p l ≡ true → first_index p ls ≡ None → ⊥
first-some p [] l there here none = absurd there
first-some p (k ∷ ls) l there here none =
    let found = not-found (p k) (first_index p ls) none in
    ⊎_elim
    (λ same. let no : true ≡ false = sym (ap p (sym same) ∙ here) ∙ found.0 in absurd (cc))
    (λ later. first-some p ls l later here found.1)
    there

-- ---- where nothing is chosen

abbrev pub AllPositive : List TreeLiteral → Type 0
AllPositive ls = AllByRecursion (λ (l : TreeLiteral). l.positive ≡ true) ls

positive-of_size : (l : TreeLiteral) → negative_size l ≡ 0 → l.positive ≡ true
positive-of_size l e = by_sign_of l.positive (literal_size l) (literal_size-positive l) e
  where
    by_sign_of : (b : Bool) (s : ℕ) → 0 < s → (if b then 0 else s) ≡ 0 → b ≡ true
    by_sign_of true s h e = refl
    by_sign_of false s h e = absurd (omega (arith, h, e))

all-positive : (ls : List TreeLiteral) → greatest_negative_size ls ≡ 0 → AllPositive ls
all-positive [] e = tt
all-positive (l ∷ ls) e =
    let split = greatest-cons l ls in
    (positive-of_size l (omega (arith, split, e)), all-positive ls (omega (arith, split, e)))

positive-not_chosen : (size : ℕ) (ls : List TreeLiteral) → AllPositive ls → (l : TreeLiteral) → In l ls → is_chosen size l ≡ false
positive-not_chosen size [] all l there = absurd there
positive-not_chosen size (k ∷ ls) all l there =
    ⊎_elim
    (λ same. ap (λ (b : Bool). not b && (literal_size l == size)) (ap (λ (m : TreeLiteral). m.positive) same ∙ all.0))
    (λ later. positive-not_chosen size ls all.1 l later)
    there

pub chosen-none : (ls : List TreeLiteral) → chosen select_negative ls ≡ None → AllPositive ls
chosen-none ls none =
    ⊎_elim
    (λ some.
    let top = greatest-attained ls some in
    absurd (first-some (is_chosen (greatest_negative_size ls)) ls top.0 top.1 (is_chosen-from (greatest_negative_size ls) top.0 some top.2) none))
    (λ zero. all-positive ls (omega arith))
    (cases_lt 0 (greatest_negative_size ls))

pub none-chosen : (ls : List TreeLiteral) → AllPositive ls → chosen select_negative ls ≡ None
none-chosen ls all =
    first-none (is_chosen (greatest_negative_size ls)) ls (positive-not_chosen (greatest_negative_size ls) ls all)

-- ---- one more literal

pub chosen-larger :
    (ls : List TreeLiteral) (l : TreeLiteral) → greatest_negative_size ls < negative_size l → chosen select_negative (ls ++ l ∷ []) ≡ Some (length ls)
chosen-larger ls l larger =
    let size = greatest_negative_size (ls ++ l ∷ []) in
    let is_size : size ≡ negative_size l = omega (arith, greatest-more ls l) in
    first-last (is_chosen size) ls l
    (λ k there. is_chosen-not size k (λ e. absurd (omega (arith, e.1, greatest-bound ls k there))))
    (is_chosen-from size l (omega arith) (sym is_size))

pub chosen-no_larger :
    (ls : List TreeLiteral) (l : TreeLiteral) → negative_size l ≤ greatest_negative_size ls → chosen select_negative (ls ++ l ∷ []) ≡ chosen select_negative ls
chosen-no_larger ls l no_larger =
    let size = greatest_negative_size ls in
    ap (λ (n : ℕ). first_index (is_chosen n) (ls ++ l ∷ [])) same_size
    ∙ ⊎_elim
    (λ some.
    let top = greatest-attained ls some in
    first-found (is_chosen size) ls (l ∷ []) top.0 top.1 (is_chosen-from size top.0 some top.2))
    (λ none.
    let never : (k : TreeLiteral) → is_chosen size k ≡ false = λ k. is_chosen-not size k (λ e. absurd (omega (arith, e.0))) in
    first-none (is_chosen size) (ls ++ l ∷ []) (λ k there. never k)
    ∙ sym (first-none (is_chosen size) ls (λ k there. never k)))
    (cases_lt 0 size)
  where
    same_size : greatest_negative_size (ls ++ l ∷ []) ≡ greatest_negative_size ls
    same_size = omega (arith, greatest-more ls l)

-- ---- steps of the loop

pub step-larger :
    (ls : List TreeLiteral) (i : ℕ) (l : TreeLiteral) → slice_get ls i ≡ Some l
    → greatest_negative_size (take i ls) < negative_size l
    → (greatest_negative_size (take (i + 1) ls) ≡ negative_size l) × (chosen select_negative (take (i + 1) ls) ≡ Some i)
step-larger ls i l e larger =
    let more = take-more ls i l e in (
      ap greatest_negative_size more ∙ omega (arith, greatest-more (take i ls) l),
      ap (chosen select_negative) more
          ∙ chosen-larger (take i ls) l larger
          ∙ ap (λ (n : ℕ). Some n) (length-take-le i ls (omega (arith, slice_get_within ls i l e))),
    )

pub step-no_larger :
    (ls : List TreeLiteral) (i : ℕ) (l : TreeLiteral) → slice_get ls i ≡ Some l
    → negative_size l ≤ greatest_negative_size (take i ls)
    → (greatest_negative_size (take (i + 1) ls) ≡ greatest_negative_size (take i ls))
    × (chosen select_negative (take (i + 1) ls) ≡ chosen select_negative (take i ls))
step-no_larger ls i l e no_larger =
    let more = take-more ls i l e in (
      ap greatest_negative_size more ∙ omega (arith, greatest-more (take i ls) l),
      ap (chosen select_negative) more ∙ chosen-no_larger (take i ls) l no_larger,
    )
