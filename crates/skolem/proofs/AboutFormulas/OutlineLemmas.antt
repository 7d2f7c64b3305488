-- The outlines of clauses, as a walk over a form works them off.
use Rattle.std.proofs.Common.{◌≡◌, ℕ, zero, suc, ◌+◌, ◌-◌, ◌*◌, ◌^◌, ◌<◌, ◌≤◌, ◌⊎◌, inl, inr, ◌==◌, min, Bool, true, false, ◌&&◌, ◌||◌, List, [], ◌∷◌, ◌++◌, length, map, drop, get_or, refl, ap, sym, subst, ◌∙◌, arith, eq-eqb}
use Rattle.std.specs.Prelude.{max, filter, nat_lt, if◌then◌else◌}
use Rattle.std.specs.List.{list_any}
use Rattle.std.proofs.lemmas.Bool.{cases_lt, and_parts, eqb-true}
use Rattle.std.proofs.lemmas.List.Folds.{list_any-append}
use Rattle.fol_base.specs.Canonical.{numbers_from}
use Rattle.fol_base.specs.declared.limits.TheConstants.{MOST_SYMBOLS}
use Rattle.tptp_tree.specs.Formula.{FormulaTree, formulas_of}
use Rattle.signature.specs.declared.symbol.Symbol.{Symbol}
use Rattle.signature.specs.Clausal.{Made, made_in_order, is_large_count}
use Rattle.signature.specs.Form.{nothing_made}
use Rattle.formula_nnf.specs.declared.form.Nnf.{Nnf}
use Rattle.formula_nnf.specs.Shape.{nnf_tree}
use Rattle.skolem.specs.declared.outline.Outline.{Outline}
use Rattle.skolem.specs.declared.progress.Progress.{Progress}
use Rattle.skolem.specs.declared.outline.OutlineEnd.{OutlineEnd}
use Rattle.skolem.specs.declared.outline.OutlineEnd.TheVariants.{NoMemory, TooHeavy}
use Rattle.skolem.specs.Matrix.{MatrixTree, truth, falsity, literal, conjunction, disjunction, MatrixTrees, no_matrices, matrix_then}
use Rattle.skolem.specs.Heavy.{has_clauses, some_have_clauses, all_have_clauses, form_has_clauses, all_forms_have_clauses}
use Rattle.skolem.specs.Skolemized.{SkolemizedList, skolemized, skolemized_list, numbers_after, skolemized_form}
use Rattle.skolem.specs.Progress.{environment_of, made_of}
use Rattle.skolem.specs.Outline.{ClauseOutline, constant_outline, sum_outline, pairs_outline_of, pairs_outline, named_outline, product_outline, joined_outline, outline_of, outlines_of, AreSame, told, lasting, IsOutline, IsOutlineEnd}
use Rattle.skolem.proofs.AboutBindings.PlaceLemmas.{any-members}
use Rattle.skolem.proofs.AboutFormulas.FormLemmas.{list_left, one, rest-same, left-then}
use Rattle.skolem.proofs.AboutFormulas.HeavyLemmas.{form-has, all-forms-have}
use Rattle.list_lemmas.proofs.Tests.{any-filter}
use Rattle.list_lemmas.proofs.Numbers.{not-same}
use Rattle.list_lemmas.proofs.Places.{drop-item, drop-all}
use Rattle.list_lemmas.proofs.Bools.{or-either}

-- ---- variables

pub same-append :
    (xs ys us vs zs : List ℕ) → AreSame xs us → AreSame ys vs → AreSame zs (xs ++ ys) → AreSame zs (us ++ vs)
same-append xs ys us vs zs h k s v l =
    s v l ∙ list_any-append (λ w. v == w) xs ys ∙ ap (λ t. t || list_any (λ w. v == w) ys) (h v l)
    ∙ ap (λ t. list_any (λ w. v == w) us || t) (k v l) ∙ sym (list_any-append (λ w. v == w) us vs)

-- those that occur, each once
pub once-same : (n : ℕ) (xs found : List ℕ) → 2 ^ 32 - 1 ≤ n → found ≡ made_in_order n xs → AreSame found xs
once-same n xs found m e v l =
    ap (list_any (λ w. v == w)) e
    ∙ any-filter (λ w. v == w) (λ u. list_any (λ w. u == w) xs) (numbers_from 0 n)
    ∙ any-members (λ w. v == w) n xs (λ p h. not-same v p (λ q. omega (arith, q, h, l, m)))

agreeing :
    (xs ys : List ℕ) (b k : ℕ) → AreSame xs ys → b + k ≤ 2 ^ 32 - 1
    → filter (λ v. list_any (λ w. v == w) xs) (numbers_from b k) ≡ filter (λ v. list_any (λ w. v == w) ys) (numbers_from b k)
agreeing xs ys b zero h l = refl
agreeing xs ys b (suc k) h l =
    ap (λ t. if t then b ∷ filter (λ v. list_any (λ w. v == w) xs) (numbers_from (suc b) k) else filter (λ v. list_any (λ w. v == w) xs) (numbers_from (suc b) k))
    (h b (omega (arith, l)))
    ∙ ap (λ us. if list_any (λ w. b == w) ys then b ∷ us else us) (agreeing xs ys (suc b) k h (omega (arith, l)))

pub same-order : (n : ℕ) (xs ys : List ℕ) → n ≤ 2 ^ 32 - 1 → AreSame xs ys → made_in_order n xs ≡ made_in_order n ys
same-order n xs ys l h = agreeing xs ys 0 n h (omega (arith, l))

-- ---- lists and products

pub summed :
    (a b c : Outline) (t u : ClauseOutline)
    → c.clauses ≡ a.clauses + b.clauses → c.largest ≡ max a.largest b.largest → c.defining ≡ max a.defining b.defining
    → (max c.largest c.defining ≤ MOST_SYMBOLS → AreSame c.variables.items (a.variables.items ++ b.variables.items))
    → IsOutline a t → IsOutline b u → IsOutline c (sum_outline t u)
summed a b c t u n l d v h g =
    record {
      clauses = omega (arith, n, h.clauses, g.clauses);
      defining = omega (arith, d, h.defining, g.defining);
      largest = λ q. omega (arith, l, h.largest (omega (arith, q)), g.largest (omega (arith, q)));
      variables = λ q r.
          same-append a.variables.items b.variables.items t.variables u.variables c.variables.items
          (h.variables (omega (arith, q)) (omega (arith, r))) (g.variables (omega (arith, q)) (omega (arith, r)))
          (v (omega (arith, q, r, l, d, h.defining, g.defining, h.largest (omega (arith, q)), g.largest (omega (arith, q)))));
    }

times-same : (a b : Outline) (t u : ClauseOutline) → IsOutline a t → IsOutline b u → a.clauses * b.clauses ≡ t.clauses * u.clauses
times-same a b t u h g = λ i. h.clauses i * g.clauses i

pub paired-none :
    (a b c : Outline) (t u : ClauseOutline) (n : ℕ)
    → n ≡ a.clauses * b.clauses → n ≡ 0 → c.clauses ≡ n → c.largest ≡ 0 → c.defining ≡ max a.defining b.defining → c.variables.items ≡ []
    → IsOutline a t → IsOutline b u → IsOutline c (pairs_outline t u)
paired-none a b c t u n m z e l d v h g =
    subst (λ s. IsOutline c (pairs_outline_of s t u)) (sym (eq-eqb (t.clauses * u.clauses) 0 (sym (times-same a b t u h g) ∙ sym m ∙ z)))
    (record {
      clauses = e ∙ z;
      defining = omega (arith, d, h.defining, g.defining);
      largest = λ q. omega (arith, l);
      variables = λ q r w k. ap (list_any (λ x. w == x)) v;
    })

pub paired-some :
    (a b c : Outline) (t u : ClauseOutline) (n : ℕ)
    → n ≡ a.clauses * b.clauses → (n ≡ 0 → ⊥) → c.clauses ≡ n
    → c.largest ≡ min (min (a.largest + b.largest) (2 ^ 64 - 1)) (MOST_SYMBOLS + 1) → c.defining ≡ max a.defining b.defining
    → (max c.largest c.defining ≤ MOST_SYMBOLS → AreSame c.variables.items (a.variables.items ++ b.variables.items))
    → IsOutline a t → IsOutline b u → IsOutline c (pairs_outline t u)
paired-some a b c t u n m z e l d v h g =
    subst (λ s. IsOutline c (pairs_outline_of s t u)) (sym (not-same (t.clauses * u.clauses) 0 (λ q. z (m ∙ times-same a b t u h g ∙ q))))
    (record {
      clauses = e ∙ m ∙ times-same a b t u h g;
      defining = omega (arith, d, h.defining, g.defining);
      largest = λ q. omega (arith, l, h.largest (omega (arith, q)), g.largest (omega (arith, q)));
      variables = λ q r.
          same-append a.variables.items b.variables.items t.variables u.variables c.variables.items
          (h.variables (omega (arith, q)) (omega (arith, r))) (g.variables (omega (arith, q)) (omega (arith, r)))
          (v (omega (arith, q, r, l, d, h.defining, g.defining, h.largest (omega (arith, q)), g.largest (omega (arith, q)))));
    })

-- ---- names

pub name-outlined :
    (a c : Outline) (t : ClauseOutline) (began size clause : ℕ) (vs : List ℕ)
    → began ≤ 2 ^ 32 - 1 → vs ≡ made_in_order began a.variables.items
    → size ≡ min (length vs + 2) (2 ^ 64 - 1) → clause ≡ min (min (size + a.largest) (2 ^ 64 - 1)) (MOST_SYMBOLS + 1)
    → c.clauses ≡ 1 → c.largest ≡ min size (MOST_SYMBOLS + 1) → c.defining ≡ max a.defining clause → c.variables.items ≡ vs
    → IsOutline a t → IsOutline c (named_outline began t)
name-outlined a c t began size clause vs b o s k n l d v h = by (cases_lt MOST_SYMBOLS t.defining) (cases_lt MOST_SYMBOLS t.largest)
  where
    over : MOST_SYMBOLS < t.defining → IsOutline c (named_outline began t)
    over f =
        record {
          clauses = n;
          defining = omega (arith, f, d, h.defining, k);
          largest = λ q. absurd (omega (arith, f, q));
          variables = λ q r. absurd (omega (arith, f, q));
        }

    heavy : t.defining ≤ MOST_SYMBOLS → MOST_SYMBOLS < t.largest → IsOutline c (named_outline began t)
    heavy f g =
        record {
          clauses = n;
          defining = omega (arith, g, d, h.defining, k, h.largest f);
          largest = λ q. absurd (omega (arith, g, q));
          variables = λ q r. absurd (omega (arith, g, q));
        }

    light : t.defining ≤ MOST_SYMBOLS → t.largest ≤ MOST_SYMBOLS → IsOutline c (named_outline began t)
    light f g =
        record {
          clauses = n;
          defining = omega (arith, d, h.defining, k, h.largest f, s, ap length same);
          largest = λ q. omega (arith, l, s, ap length same);
          variables = λ q r w x. ap (list_any (λ y. w == y)) (v ∙ same);
        }
      where
        same : vs ≡ made_in_order began t.variables
        same = o ∙ same-order began a.variables.items t.variables b (h.variables f g)

    by : (MOST_SYMBOLS < t.defining) ⊎ (t.defining ≤ MOST_SYMBOLS) → (MOST_SYMBOLS < t.largest) ⊎ (t.largest ≤ MOST_SYMBOLS) → IsOutline c (named_outline began t)
    by (inl f) g = over f
    by (inr f) (inl g) = heavy f g
    by (inr f) (inr g) = light f g

abbrev product_by : Bool → Bool → ℕ → ClauseOutline → ClauseOutline → ClauseOutline
product_by large longer began t u =
    if large then (if longer then pairs_outline t (named_outline began u) else pairs_outline (named_outline began t) u) else pairs_outline t u

-- the program's tests on the numbers of clauses are those of the outlines
pub by-tests :
    (a b c : Outline) (t u : ClauseOutline) (began : ℕ) (large longer : Bool)
    → is_large_count a.clauses b.clauses ≡ large → nat_lt a.clauses b.clauses ≡ longer → IsOutline a t → IsOutline b u
    → IsOutline c (product_by large longer began t u) → IsOutline c (product_outline began t u)
by-tests a b c t u began large longer e f h g k =
    subst (λ s. IsOutline c (product_by s (nat_lt t.clauses u.clauses) began t u)) (sym e ∙ (λ i. is_large_count (h.clauses i) (g.clauses i)))
    (subst (λ s. IsOutline c (product_by large s began t u)) (sym f ∙ (λ i. nat_lt (h.clauses i) (g.clauses i))) k)

-- ---- the largest clause that defines a name never gets smaller

pairs-keep : (t : Bool) (a b : ClauseOutline) → max a.defining b.defining ≤ (pairs_outline_of t a b).defining
pairs-keep true a b = omega arith
pairs-keep false a b = omega arith

joined-keeps : (listed : Bool) (began : ℕ) (a b : ClauseOutline) → max a.defining b.defining ≤ (joined_outline listed began a b).defining
joined-keeps true began a b = omega arith
joined-keeps false began a b = by (is_large_count a.clauses b.clauses) (nat_lt a.clauses b.clauses)
  where
    by : (t u : Bool) → max a.defining b.defining ≤ (product_by t u began a b).defining
    by true true = omega (arith, pairs-keep (a.clauses * (named_outline began b).clauses == 0) a (named_outline began b))
    by true false = omega (arith, pairs-keep ((named_outline began a).clauses * b.clauses == 0) (named_outline began a) b)
    by false u = omega (arith, pairs-keep (a.clauses * b.clauses == 0) a b)

outlines-keep : (listed : Bool) (began : ℕ) (a : ClauseOutline) (ms : MatrixTrees) → a.defining ≤ (outlines_of listed began a ms).defining
outlines-keep listed began a no_matrices = omega arith
outlines-keep listed began a (matrix_then m ms) =
    omega (arith, joined-keeps listed began a (outline_of m), outlines-keep listed began (joined_outline listed began a (outline_of m)) ms)

-- ---- where parts have clauses, no clause's size is lost: it is in the product, or in a clause that defines a name

abbrev heaviest : ClauseOutline → ℕ
heaviest t = max t.largest t.defining

times-some : (a b : ℕ) → 0 < a → 0 < b → 0 < a * b
times-some zero b p q = absurd (omega (arith, p))
times-some (suc a) zero p q = absurd (omega (arith, q))
times-some (suc a) (suc b) p q = omega arith

some-none : (n : ℕ) → 0 < n → (n == 0) ≡ true → ⊥
some-none n p e = omega (arith, p, eqb-true n 0 e)

pairs-heavy :
    (a b : ClauseOutline) → 0 < a.clauses → 0 < b.clauses
    → (0 < (pairs_outline a b).clauses) × (max (heaviest a) (heaviest b) ≤ heaviest (pairs_outline a b))
pairs-heavy a b p q = by (a.clauses * b.clauses == 0) refl
  where
    some : 0 < a.clauses * b.clauses
    some = times-some a.clauses b.clauses p q

    by :
        (t : Bool) → (a.clauses * b.clauses == 0) ≡ t
        → (0 < (pairs_outline_of t a b).clauses) × (max (heaviest a) (heaviest b) ≤ heaviest (pairs_outline_of t a b))
    by true e = absurd (some-none (a.clauses * b.clauses) some e)
    by false e = (some, omega arith)

product-heavy :
    (began : ℕ) (a b : ClauseOutline) → 0 < a.clauses → 0 < b.clauses
    → (0 < (product_outline began a b).clauses) × (max (heaviest a) (heaviest b) ≤ heaviest (product_outline began a b))
product-heavy began a b p q = by (is_large_count a.clauses b.clauses) (nat_lt a.clauses b.clauses)
  where
    by : (t u : Bool) → (0 < (product_by t u began a b).clauses) × (max (heaviest a) (heaviest b) ≤ heaviest (product_by t u began a b))
    by true true = let so = pairs-heavy a (named_outline began b) p (omega arith) in (so.0, omega (arith, so.1))
    by true false = let so = pairs-heavy (named_outline began a) b (omega arith) q in (so.0, omega (arith, so.1))
    by false u = pairs-heavy a b p q

listed-counts : (began : ℕ) (a : ClauseOutline) (ms : MatrixTrees) → a.clauses ≤ (outlines_of true began a ms).clauses
listed-counts began a no_matrices = omega arith
listed-counts began a (matrix_then m ms) = omega (arith, listed-counts began (sum_outline a (outline_of m)) ms)

mutual
  outline-has : (m : MatrixTree) → has_clauses m ≡ true → 0 < (outline_of m).clauses
  outline-has truth h = cc
  outline-has falsity h = omega arith
  outline-has (literal l) h = omega arith
  outline-has (conjunction ms) h = listed-has 0 (constant_outline true) ms h
  outline-has (disjunction began ms) h = product-has began (constant_outline false) ms (omega arith) h

  listed-has : (began : ℕ) (a : ClauseOutline) (ms : MatrixTrees) → some_have_clauses ms ≡ true → 0 < (outlines_of true began a ms).clauses
  listed-has began a no_matrices h = cc
  listed-has began a (matrix_then m ms) h =
      by (or-either (has_clauses m) (some_have_clauses ms) h) (outline-has m) (listed-has began (sum_outline a (outline_of m)) ms)
    where
      by :
          (has_clauses m ≡ true) ⊎ (some_have_clauses ms ≡ true) → (has_clauses m ≡ true → 0 < (outline_of m).clauses)
          → (some_have_clauses ms ≡ true → 0 < (outlines_of true began (sum_outline a (outline_of m)) ms).clauses)
          → 0 < (outlines_of true began (sum_outline a (outline_of m)) ms).clauses
      by (inl k) p q = omega (arith, p k, listed-counts began (sum_outline a (outline_of m)) ms)
      by (inr k) p q = q k

  product-has :
      (began : ℕ) (a : ClauseOutline) (ms : MatrixTrees) → 0 < a.clauses → all_have_clauses ms ≡ true → 0 < (outlines_of false began a ms).clauses
  product-has began a no_matrices p h = p
  product-has began a (matrix_then m ms) p h =
      let parts : (has_clauses m ≡ true) × (all_have_clauses ms ≡ true) = and_parts (has_clauses m) (all_have_clauses ms) h in
      product-has began (product_outline began a (outline_of m)) ms (product-heavy began a (outline_of m) p (outline-has m parts.0)).0 parts.1

-- a product has clauses so far
abbrev Counts : Bool → ClauseOutline → Type 0
Counts listed t = listed ≡ false → 0 < t.clauses

-- its members have some
abbrev HasEach : Bool → MatrixTrees → Type 0
HasEach listed ms = listed ≡ false → all_have_clauses ms ≡ true

joined-counts : (listed : Bool) (began : ℕ) (a b : ClauseOutline) → Counts listed a → Counts listed b → Counts listed (joined_outline listed began a b)
joined-counts true began a b p q = λ e. cc
joined-counts false began a b p q = λ e. (product-heavy began a b (p refl) (q refl)).0

joined-heavy :
    (listed : Bool) (began : ℕ) (a b : ClauseOutline) → Counts listed a → Counts listed b
    → max (heaviest a) (heaviest b) ≤ heaviest (joined_outline listed began a b)
joined-heavy true began a b p q = omega arith
joined-heavy false began a b p q = (product-heavy began a b (p refl) (q refl)).1

outlines-heavy :
    (listed : Bool) (began : ℕ) (a : ClauseOutline) (ms : MatrixTrees) → Counts listed a → HasEach listed ms
    → heaviest a ≤ heaviest (outlines_of listed began a ms)
outlines-heavy listed began a no_matrices p h = omega arith
outlines-heavy listed began a (matrix_then m ms) p h =
    let own : Counts listed (outline_of m) = λ e. outline-has m (and_parts (has_clauses m) (all_have_clauses ms) (h e)).0 in
    omega (
      arith,
      joined-heavy listed began a (outline_of m) p own,
      outlines-heavy listed began (joined_outline listed began a (outline_of m)) ms (joined-counts listed began a (outline_of m) p own)
          (λ e. (and_parts (has_clauses m) (all_have_clauses ms) (h e)).1),
    )

-- ---- lists of forms

-- the members stand in clauses
abbrev pub Inside : Bool → Bool → Bool → List Nnf → Type 0
Inside inside in_clauses listed fs = inside ≡ (in_clauses && (listed || all_forms_have_clauses (formulas_of (map nnf_tree fs))))

-- the outline so far, with what is left, is that of all
abbrev pub OutlineLeft : List Symbol → List Nnf → ℕ → Progress → Bool → Bool → ℕ → Outline → ClauseOutline → Type 0
OutlineLeft known fs i p inside listed began a all =
    (t : ClauseOutline)
    × (IsOutline a t × ((inside ≡ true → Counts listed t) × (outlines_of listed began t (list_left known fs i p).matrices ≡ all)))

pub outline-begun :
    (known : List Symbol) (fs : List Nnf) (p : Progress) (inside listed : Bool) (began : ℕ) (a : Outline)
    → IsOutline a (constant_outline listed)
    → OutlineLeft known fs 0 p inside listed began a (outlines_of listed began (constant_outline listed) (list_left known fs 0 p).matrices)
outline-begun known fs p inside listed began a h = (constant_outline listed, (h, ((λ q. some listed), refl)))
  where
    some : (t : Bool) → Counts t (constant_outline t)
    some true = λ e. cc
    some false = λ e. omega arith

-- a product's members
each-has : (in_clauses inside listed all : Bool) → inside ≡ (in_clauses && (listed || all)) → inside ≡ true → listed ≡ false → all ≡ true
each-has in_clauses inside listed all e p q =
    ap (λ t. t || all) (sym q) ∙ (and_parts in_clauses (listed || all) (sym e ∙ p)).1

left-has :
    (fs : List Nnf) (i : ℕ) → all_forms_have_clauses (formulas_of (map nnf_tree fs)) ≡ true → all_forms_have_clauses (formulas_of (map nnf_tree (drop i fs))) ≡ true
left-has fs zero h = h
left-has [] (suc i) h = h
left-has (f ∷ fs) (suc i) h =
    left-has fs i (and_parts (form_has_clauses (nnf_tree f)) (all_forms_have_clauses (formulas_of (map nnf_tree fs))) h).1

member-has :
    (known : List Symbol) (fs : List Nnf) (i : ℕ) (f : Nnf) (p : Progress) (in_clauses inside listed : Bool)
    → i < length fs → f ≡ get_or fs i f → Inside inside in_clauses listed fs → inside ≡ true → Counts listed (outline_of (one known f p).matrix)
member-has known fs i f p in_clauses inside listed h e n q = λ l.
    outline-has (one known f p).matrix
    (form-has (numbers_after known) (nnf_tree f) (environment_of p.bindings) (made_of p)
    (and_parts (form_has_clauses (nnf_tree f)) (all_forms_have_clauses (formulas_of (map nnf_tree (drop (i + 1) fs))))
    (ap (λ gs. all_forms_have_clauses (formulas_of (map nnf_tree gs))) (sym (drop-item fs i f h e))
    ∙ left-has fs i (each-has in_clauses inside listed _ n q l))).0)

pub outline-then :
    (known : List Symbol) (fs : List Nnf) (i : ℕ) (f : Nnf) (p q : Progress) (in_clauses inside listed : Bool) (began : ℕ) (a new member : Outline) (all : ClauseOutline)
    → i < length fs → f ≡ get_or fs i f → Inside inside in_clauses listed fs → IsOutline member (outline_of (one known f p).matrix)
    → made_of q ≡ (one known f p).made → q.bindings ≡ p.bindings
    → ((t u : ClauseOutline) → IsOutline a t → IsOutline member u → IsOutline new (joined_outline listed began t u))
    → OutlineLeft known fs i p inside listed began a all → OutlineLeft known fs (i + 1) q inside listed began new all
outline-then known fs i f p q in_clauses inside listed began a new member all h e n g m b j o =
    let so : ClauseOutline = joined_outline listed began o.0 (outline_of (one known f p).matrix) in (
      so,
      (
        j o.0 (outline_of (one known f p).matrix) o.1.0 g,
        (
          (λ w. joined-counts listed began o.0 (outline_of (one known f p).matrix) (o.1.1.0 w) (member-has known fs i f p in_clauses inside listed h e n w)),
          ap (λ (s : SkolemizedList). outlines_of listed began so s.matrices) (rest-same known fs i f p q m b)
              ∙ ap (λ (s : SkolemizedList). outlines_of listed began o.0 s.matrices) (sym (left-then known fs i f p h e))
              ∙ o.1.1.1,
        ),
      ),
    )

pub outline-done :
    (known : List Symbol) (fs : List Nnf) (i : ℕ) (p : Progress) (inside listed : Bool) (began : ℕ) (a : Outline) (all : ClauseOutline)
    → length fs ≤ i → OutlineLeft known fs i p inside listed began a all → IsOutline a all
outline-done known fs i p inside listed began a all h o =
    subst (IsOutline a)
    (ap (λ gs. outlines_of listed began o.0 (skolemized_list (numbers_after known) (formulas_of (map nnf_tree gs)) (environment_of p.bindings) (made_of p)).matrices)
    (sym (drop-all fs i h))
    ∙ o.1.1.1) o.1.0

-- ---- where the walk ends

-- the members that are left have clauses
rest-has :
    (known : List Symbol) (fs : List Nnf) (i : ℕ) (p : Progress) (made : Made) (in_clauses inside listed : Bool)
    → Inside inside in_clauses listed fs → inside ≡ true
    → HasEach listed (skolemized_list (numbers_after known) (formulas_of (map nnf_tree (drop i fs))) (environment_of p.bindings) made).matrices
rest-has known fs i p made in_clauses inside listed n q = λ l.
    all-forms-have (numbers_after known) (formulas_of (map nnf_tree (drop i fs))) (environment_of p.bindings) made
    (left-has fs i (each-has in_clauses inside listed _ n q l))

-- what lasts among the members is in the whole
lasting-in :
    (in_clauses inside other : Bool) (t u : ClauseOutline)
    → inside ≡ (in_clauses && other) → t.defining ≤ u.defining → (inside ≡ true → heaviest t ≤ heaviest u)
    → lasting inside t.largest t.defining ≤ lasting in_clauses u.largest u.defining
lasting-in in_clauses false other t u e d h = by in_clauses
  where
    by : (b : Bool) → lasting false t.largest t.defining ≤ lasting b u.largest u.defining
    by true = omega (arith, d)
    by false = omega (arith, d)
lasting-in true true other t u e d h = omega (arith, h refl)
lasting-in false true other t u e d h = cc

-- in a member
pub outline-ended :
    (known : List Symbol) (fs : List Nnf) (i : ℕ) (f : Nnf) (p : Progress) (in_clauses inside listed : Bool) (began : ℕ) (a : Outline) (all : ClauseOutline) (end : OutlineEnd)
    → i < length fs → f ≡ get_or fs i f → Inside inside in_clauses listed fs → IsOutlineEnd end inside (outline_of (one known f p).matrix)
    → OutlineLeft known fs i p inside listed began a all → IsOutlineEnd end in_clauses all
outline-ended known fs i f p in_clauses inside listed began a all NoMemory h e n g o = tt
outline-ended known fs i f p in_clauses inside listed began a all TooHeavy h e n g o =
    subst (λ t. IsOutlineEnd TooHeavy in_clauses t)
    (ap (λ (s : SkolemizedList). outlines_of listed began o.0 s.matrices) (sym (left-then known fs i f p h e)) ∙ o.1.1.1)
    (omega (arith, g, lasting-in in_clauses inside (listed || all_forms_have_clauses (formulas_of (map nnf_tree fs))) own final n kept heavy))
  where
    own : ClauseOutline
    own = outline_of (one known f p).matrix

    so : ClauseOutline
    so = joined_outline listed began o.0 own

    rest : MatrixTrees
    rest = (skolemized_list (numbers_after known) (formulas_of (map nnf_tree (drop (i + 1) fs))) (environment_of p.bindings) (one known f p).made).matrices

    final : ClauseOutline
    final = outlines_of listed began so rest

    kept : own.defining ≤ final.defining
    kept = omega (arith, joined-keeps listed began o.0 own, outlines-keep listed began so rest)

    heavy : inside ≡ true → heaviest own ≤ heaviest final
    heavy w =
        let has : Counts listed own = member-has known fs i f p in_clauses inside listed h e n w in
        omega (
          arith,
          joined-heavy listed began o.0 own (o.1.1.0 w) has,
          outlines-heavy listed began so rest (joined-counts listed began o.0 own (o.1.1.0 w) has)
              (rest-has known fs (i + 1) p (one known f p).made in_clauses inside listed n w),
        )

-- what is told of the outline is as large
told-lasts : (inside : Bool) (a : Outline) (t : ClauseOutline) → MOST_SYMBOLS < lasting inside a.largest a.defining → IsOutline a t → MOST_SYMBOLS < lasting inside t.largest t.defining
told-lasts false a t l h = omega (arith, l, h.defining)
told-lasts true a t l h = by (cases_lt MOST_SYMBOLS t.defining)
  where
    by : (MOST_SYMBOLS < t.defining) ⊎ (t.defining ≤ MOST_SYMBOLS) → MOST_SYMBOLS < lasting true t.largest t.defining
    by (inl k) = omega (arith, k)
    by (inr k) = omega (arith, l, h.defining, h.largest k)

-- with those so far
pub outline-over :
    (known : List Symbol) (fs : List Nnf) (i : ℕ) (p : Progress) (in_clauses inside listed : Bool) (began : ℕ) (a : Outline) (all : ClauseOutline)
    → MOST_SYMBOLS < lasting inside a.largest a.defining → Inside inside in_clauses listed fs
    → OutlineLeft known fs i p inside listed began a all → IsOutlineEnd TooHeavy in_clauses all
outline-over known fs i p in_clauses inside listed began a all h n o =
    subst (λ t. IsOutlineEnd TooHeavy in_clauses t) o.1.1.1
    (omega (
      arith,
      told-lasts inside a o.0 h o.1.0,
      lasting-in in_clauses inside (listed || all_forms_have_clauses (formulas_of (map nnf_tree fs))) o.0 (outlines_of listed began o.0 (list_left known fs i p).matrices) n
          (outlines-keep listed began o.0 (list_left known fs i p).matrices)
          (λ w. outlines-heavy listed began o.0 (list_left known fs i p).matrices (o.1.1.0 w) (rest-has known fs i p (made_of p) in_clauses inside listed n w)),
    ))

-- ---- the largest clause of all

pub largest-told :
    (a : Outline) (t : ClauseOutline) (size : ℕ)
    → size ≡ max a.largest a.defining → a.defining ≤ MOST_SYMBOLS → IsOutline a t → size ≡ told (max t.largest t.defining)
largest-told a t size e l h =
    let under : t.defining ≤ MOST_SYMBOLS = omega (arith, h.defining, l) in omega (arith, e, h.defining, h.largest under)

pub over-told :
    (a : Outline) (t : ClauseOutline) (size : ℕ)
    → size ≡ MOST_SYMBOLS + 1 → MOST_SYMBOLS < a.defining → IsOutline a t → size ≡ told (max t.largest t.defining)
over-told a t size e l h = omega (arith, e, h.defining, l)

pub ended-told :
    (known : List Symbol) (f : FormulaTree) (p : Progress) (end : OutlineEnd) (size : ℕ)
    → p.bindings ≡ [] → made_of p ≡ nothing_made → size ≡ MOST_SYMBOLS + 1 → end ≡ TooHeavy
    → IsOutlineEnd end true (outline_of (skolemized (numbers_after known) f (environment_of p.bindings) (made_of p)).matrix)
    → size ≡ told (max (outline_of (skolemized_form known f).matrix).largest (outline_of (skolemized_form known f).matrix).defining)
ended-told known f p end size b m e k h =
    let over : IsOutlineEnd TooHeavy true (outline_of (skolemized_form known f).matrix) =
    subst (λ u. IsOutlineEnd u true (outline_of (skolemized_form known f).matrix)) k
    (subst (λ bs. IsOutlineEnd end true (outline_of (skolemized (numbers_after known) f (environment_of bs) nothing_made).matrix)) b
    (subst (λ o. IsOutlineEnd end true (outline_of (skolemized (numbers_after known) f (environment_of p.bindings) o).matrix)) m h)) in
    omega (arith, e, over)
