-- The numbers of variables, in order and with repetitions, and the places that are made of them.
use Rattle.std.proofs.Common.{◌≡◌, ℕ, zero, suc, ◌-◌, ◌<◌, ◌≤◌, Bool, true, false, ◌&&◌, ◌||◌, ◌==◌, not, List, [], ◌∷◌, ◌++◌, length, map, take, get_or, refl, ap, sym, ◌∙◌, ⊎_elim, arith, eq-eqb}
use Rattle.std.specs.Prelude.{Result, Ok, Err, IfOk, nat_lt}
use Rattle.std.specs.List.{list_all, list_any}
use Rattle.std.specs.List.Sorted.{IsNonDecreasing, IsPermutation}
use Rattle.std.proofs.lemmas.Bool.{and_parts, and_from, cases_lt, cases_Bool, eqb-true, true≢false}
use Rattle.std.proofs.lemmas.List.{length-take-le, get_or-take}
use Rattle.std.proofs.lemmas.List.Folds.{list_all-append, list_all-map, list_any_at}
use Rattle.std.proofs.lemmas.List.Sorted.{list_any-IsPermutation}
use Rattle.fol_base.specs.Tree.{Tree, tree_variables, trees_variables, trees_of}
use Rattle.fol_base.specs.Term.{tree_of}
use Rattle.fol_base.specs.declared.term.Term.{Term}
use Rattle.fol_base.specs.declared.clause.Side.TheVariants.{Left, Right}
use Rattle.unifier.specs.declared.layout.Layout.{Layout}
use Rattle.unifier.specs.SolvedForm.{code_of, codes_of}
use Rattle.unifier.specs.Layout.{has_place, HavePlaces, HasVariables, IsWithVariable}
use Rattle.unifier.proofs.AboutLayouts.PlaceLemmas.{ltb-is, all-have-places}

-- ---- tests of lists

all-by-any : (p : ℕ → Bool) (xs : List ℕ) → list_all p xs ≡ not (list_any (λ x. not (p x)) xs)
all-by-any p [] = refl
all-by-any p (x ∷ xs) = by (p x) (all-by-any p xs)
  where
    by : (b : Bool) → list_all p xs ≡ not (list_any (λ y. not (p y)) xs) → (b && list_all p xs) ≡ not (not b || list_any (λ y. not (p y)) xs)
    by true rest = rest
    by false rest = refl

-- lists with the same elements pass a test alike
pub all-permuted : (p : ℕ → Bool) (xs ys : List ℕ) → IsPermutation xs ys → list_all p xs ≡ list_all p ys
all-permuted p xs ys h =
    all-by-any p xs ∙ ap not (list_any-IsPermutation (λ x. not (p x)) xs ys h) ∙ sym (all-by-any p ys)

any-none : (p : ℕ → Bool) (xs : List ℕ) → ((k : ℕ) → k < length xs → p (get_or xs k 0) ≡ false) → list_any p xs ≡ false
any-none p [] h = refl
any-none p (x ∷ xs) h =
    ap (λ b. b || list_any p xs) (h 0 (omega arith)) ∙ any-none p xs (λ k less. h (suc k) (omega (arith, less)))

all-each : (p : ℕ → Bool) (xs : List ℕ) → ((k : ℕ) → k < length xs → p (get_or xs k 0) ≡ true) → list_all p xs ≡ true
all-each p [] h = refl
all-each p (x ∷ xs) h =
    and_from (p x) (list_all p xs) (h 0 (omega arith)) (all-each p xs (λ k less. h (suc k) (omega (arith, less))))

-- what all pass, one that is equal to one of them passes
passes-too : (test : ℕ → Bool) (w : ℕ) (xs : List ℕ) → list_any (λ x. x == w) xs ≡ true → list_all test xs ≡ true → test w ≡ true
passes-too test w [] some all = cc
passes-too test w (x ∷ xs) some all =
    let both = and_parts (test x) (list_all test xs) all in
    ⊎_elim
    (λ same. ap test (sym (eqb-true x w same)) ∙ both.0)
    (λ other. passes-too test w xs (ap (λ b. b || list_any (λ y. y == w) xs) (sym other) ∙ some) both.1)
    (cases_Bool (x == w))

-- ---- numbers in order

earlier : (xs : List ℕ) (i k : ℕ) → i < length xs → k < length (take i xs) → k < i
earlier xs i k inside less = omega (arith, less, length-take-le i xs (omega arith))

module _ (xs : List ℕ) (rising : IsNonDecreasing xs) (i : ℕ) (inside : i < length xs) where
  before : (k : ℕ) → k < i → get_or xs k 0 ≤ get_or xs i 0
  before k less = rising k i 0 (omega arith) inside

  -- a number above the one before it is a first one
  pub first-above : 0 < i → get_or xs (i - 1) 0 < get_or xs i 0 → list_any (λ w. w == get_or xs i 0) (take i xs) ≡ false
  first-above some above = any-none (λ w. w == get_or xs i 0) (take i xs) (λ k less.
      let less_i : k < i = earlier xs i k inside less in
      let lower : get_or xs k 0 ≤ get_or xs (i - 1) 0 = rising k (i - 1) 0 (omega arith) (omega arith) in
      ap (λ w. w == get_or xs i 0) (get_or-take i xs k 0 less_i)
      ∙ ⊎_elim
      (λ same. let e : get_or xs k 0 ≡ get_or xs i 0 = eqb-true (get_or xs k 0) (get_or xs i 0) same in absurd (omega arith))
      (λ other. other)
      (cases_Bool (get_or xs k 0 == get_or xs i 0)))

  pub first-equal : 0 < i → get_or xs i 0 ≤ get_or xs (i - 1) 0 → list_any (λ w. w == get_or xs i 0) (take i xs) ≡ true
  first-equal some le =
      let last : i - 1 < i = omega arith in
      let same : get_or xs (i - 1) 0 ≡ get_or xs i 0 = omega (arith, before (i - 1) last) in
      list_any_at (λ w. w == get_or xs i 0) (take i xs) (i - 1) 0
      (omega (arith, length-take-le i xs (omega arith)))
      (ap (λ w. w == get_or xs i 0) (get_or-take i xs (i - 1) 0 last) ∙ eq-eqb (get_or xs (i - 1) 0) (get_or xs i 0) same)

  -- a first one is above all before it
  pub above-earlier : list_any (λ w. w == get_or xs i 0) (take i xs) ≡ false → list_all (λ w. nat_lt w (get_or xs i 0)) (take i xs) ≡ true
  above-earlier none = all-each (λ w. nat_lt w (get_or xs i 0)) (take i xs) (λ k less.
      let less_i : k < i = earlier xs i k inside less in
      let is : get_or (take i xs) k 0 ≡ get_or xs k 0 = get_or-take i xs k 0 less_i in
      ltb-is (get_or (take i xs) k 0) (get_or xs i 0)
      (⊎_elim
      (λ smaller. omega (arith, is))
      (λ ge.
      let same : get_or (take i xs) k 0 ≡ get_or xs i 0 = omega (arith, is, before k less_i) in
      let some : list_any (λ w. w == get_or xs i 0) (take i xs) ≡ true =
      list_any_at (λ w. w == get_or xs i 0) (take i xs) k 0 less (eq-eqb (get_or (take i xs) k 0) (get_or xs i 0) same) in
      absurd (true≢false (sym some ∙ none)))
      (cases_lt (get_or xs k 0) (get_or xs i 0))))

-- ---- places of the numbers of a list

-- a number that stands before needs no further place
pub same-variables :
    (codes : List ℕ) (w : ℕ) (l : Layout) → list_any (λ v. v == w) codes ≡ true → HasVariables codes l → HasVariables (codes ++ w ∷ []) l
same-variables codes w l there h = record {
  is_layout = h.is_layout;
  exactly = λ test. h.exactly test ∙ by test (list_all test codes) refl ∙ sym (list_all-append test codes (w ∷ []));
}
  where
    by : (test : ℕ → Bool) (b : Bool) → list_all test codes ≡ b → list_all test codes ≡ (list_all test codes && (test w && true))
    by test true all = all ∙ sym (and_from (list_all test codes) (test w && true) all (and_from (test w) true (passes-too test w codes there all) refl))
    by test false none = none ∙ ap (λ b. b && (test w && true)) (sym none)

pub more-variables :
    (codes : List ℕ) (w : ℕ) (old new : Layout) → HasVariables codes old → IsWithVariable old new w → HasVariables (codes ++ w ∷ []) new
more-variables codes w old new h more = record {
  is_layout = more.layout;
  exactly = λ test. more.also test ∙ ap (λ b. b && test w) (h.exactly test) ∙ by (list_all test codes) (test w) ∙ sym (list_all-append test codes (w ∷ []));
}
  where
    by : (a b : Bool) → (a && b) ≡ (a && (b && true))
    by true true = refl
    by true false = refl
    by false b = refl

-- ---- the variables of two terms

-- as the code has it: they are collected and put in order
pub sorted-variables :
    {E : Type 0} (r : Result Layout E) (apart : Bool) (s t : Tree) (start one both sorted slice : List ℕ)
    → start ≡ [] → one ≡ start ++ map (code_of apart Left) (tree_variables s) → both ≡ one ++ map (code_of apart Right) (tree_variables t)
    → IsPermutation both sorted → slice ≡ sorted → IfOk r (HasVariables slice) → IfOk r (HasVariables (codes_of apart s t))
sorted-variables (Err e) apart s t start one both sorted slice empty left right permuted same h = tt
sorted-variables (Ok l) apart s t start one both sorted slice empty left right permuted same h =
    let lefts : List ℕ = map (code_of apart Left) (tree_variables s) in
    let rights : List ℕ = map (code_of apart Right) (tree_variables t) in
    let all : both ≡ codes_of apart s t = right ∙ ap (λ xs. xs ++ rights) (left ∙ ap (λ xs. xs ++ lefts) empty) in
    record {
      is_layout = h.is_layout;
      exactly = λ test. h.exactly test ∙ ap (list_all test) same ∙ sym (all-permuted test both sorted permuted) ∙ ap (list_all test) all;
    }

have-places : (apart : Bool) (s t : Tree) (l : Layout) → HasVariables (codes_of apart s t) l → list_all (has_place l.places.items) (codes_of apart s t) ≡ true
have-places apart s t l h = sym (h.exactly (has_place l.places.items)) ∙ all-have-places l.places.items

pub left-have-places : (apart : Bool) (s t : Tree) (l : Layout) → HasVariables (codes_of apart s t) l → HavePlaces l.places.items apart Left (tree_variables s)
left-have-places apart s t l h =
    let test : ℕ → Bool = has_place l.places.items in
    let lefts : List ℕ = map (code_of apart Left) (tree_variables s) in
    let rights : List ℕ = map (code_of apart Right) (tree_variables t) in
    sym (list_all-map test (code_of apart Left) (tree_variables s))
    ∙ (and_parts (list_all test lefts) (list_all test rights) (sym (list_all-append test lefts rights) ∙ have-places apart s t l h)).0

pub right-have-places : (apart : Bool) (s t : Tree) (l : Layout) → HasVariables (codes_of apart s t) l → HavePlaces l.places.items apart Right (tree_variables t)
right-have-places apart s t l h =
    let test : ℕ → Bool = has_place l.places.items in
    let lefts : List ℕ = map (code_of apart Left) (tree_variables s) in
    let rights : List ℕ = map (code_of apart Right) (tree_variables t) in
    sym (list_all-map test (code_of apart Right) (tree_variables t))
    ∙ (and_parts (list_all test lefts) (list_all test rights) (sym (list_all-append test lefts rights) ∙ have-places apart s t l h)).1

-- the variables of one of some terms have places where those of all have
pub item-has-places :
    (test : ℕ → Bool) (terms : List Term) (i : ℕ) (x : Term)
    → i < length terms → x ≡ get_or terms i x → list_all test (trees_variables (trees_of (map tree_of terms))) ≡ true
    → list_all test (tree_variables (tree_of x)) ≡ true
item-has-places test [] i x less is all = absurd (omega (arith, less))
item-has-places test (term ∷ terms) i x less is all = by i less is (λ j within e rest. item-has-places test terms j x within e rest)
  where
    both : (list_all test (tree_variables (tree_of term)) ≡ true) × (list_all test (trees_variables (trees_of (map tree_of terms))) ≡ true)
    both =
        and_parts (list_all test (tree_variables (tree_of term))) (list_all test (trees_variables (trees_of (map tree_of terms))))
        (sym (list_all-append test (tree_variables (tree_of term)) (trees_variables (trees_of (map tree_of terms)))) ∙ all)

    by :
        (j : ℕ) → j < length (term ∷ terms) → x ≡ get_or (term ∷ terms) j x
        → ((k : ℕ) → k < length terms → x ≡ get_or terms k x → list_all test (trees_variables (trees_of (map tree_of terms))) ≡ true
        → list_all test (tree_variables (tree_of x)) ≡ true)
        → list_all test (tree_variables (tree_of x)) ≡ true
    by zero less e later = ap (λ (y : Term). list_all test (tree_variables (tree_of y))) e ∙ both.0
    by (suc j) less e later = later j (omega (arith, less)) e both.1
