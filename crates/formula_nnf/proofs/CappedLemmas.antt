-- Counts that stop at u64's last value come to the same, whether they stop at each step or at the end.
use Rattle.std.proofs.Common.{◌≡◌, ℕ, zero, suc, ◌+◌, ◌-◌, ◌*◌, ◌^◌, ◌<◌, ◌≤◌, min, max, Bool, true, false, ◌&&◌, List, length, map, drop, get_or, refl, ap, sym, ◌∙◌, arith}
use Rattle.std.specs.Prelude.{nat_lt, nat_le, if◌then◌else◌}
use Rattle.std.proofs.lemmas.Bool.{lt-ltb, ltb-true, ltb-false, le-leb, leb-true}
use Rattle.plain_types.specs.Capped.{capped}
use Rattle.tptp_tree.specs.Formula.{FormulaTree, FormulaTrees, no_formulas, formula_then, formulas_of}
use Rattle.tptp_tree.specs.Shape.{formula_of}
use Rattle.tptp_tree.specs.declared.formula.Formula.{Formula}
use Rattle.signature.specs.Clausal.{is_large_count}
use Rattle.formula_nnf.specs.ClauseCount.{ClauseCount, sum_count, product_count, joined_count, constant_count, clause_counts, listed_counts, product_counts, several_counts}
use Rattle.formula_nnf.specs.CappedCount.{capped_count, total_count}
use Rattle.list_lemmas.proofs.Numbers.{times-none, times-more}
use Rattle.list_lemmas.proofs.Bools.{and-false}
use Rattle.list_lemmas.proofs.Places.{drop-item, drop-all}

same : (a b : ClauseCount) → a.clauses ≡ b.clauses → a.defining ≡ b.defining → a ≡ b
same a b h k = λ i. record { clauses = h i; defining = k i }

-- ---- numbers

capped-twice : (a : ℕ) → capped (capped a) ≡ capped a
capped-twice a = omega arith

small : (a : ℕ) → a ≤ 2 ^ 64 - 1 → capped a ≡ a
small a h = omega (arith, h)

times-turned : (a b : ℕ) → a * b ≡ b * a
times-turned a b = omega arith

both-over : (x y : ℕ) → 2 ^ 64 - 1 ≤ x → 2 ^ 64 - 1 ≤ y → capped x ≡ capped y
both-over x y h k = omega (arith, h, k)

-- the product where the first number is over
over-times : (a b : ℕ) → 2 ^ 64 - 1 < a → capped (capped a * capped b) ≡ capped (a * b)
over-times a zero h = ap capped (times-none (capped a) ∙ sym (times-none a))
over-times a (suc b) h =
    both-over (capped a * capped (suc b)) (a * suc b)
    (omega (arith, h, times-more (capped a) (capped (suc b)) (omega arith)))
    (omega (arith, h, times-more a (suc b) (omega arith)))

times-capped : (a b : ℕ) → capped (capped a * capped b) ≡ capped (a * b)
times-capped a b = by (nat_lt (2 ^ 64 - 1) a) refl (nat_lt (2 ^ 64 - 1) b) refl
  where
    by : (t : Bool) → nat_lt (2 ^ 64 - 1) a ≡ t → (u : Bool) → nat_lt (2 ^ 64 - 1) b ≡ u → capped (capped a * capped b) ≡ capped (a * b)
    by true e u f = over-times a b (ltb-true (2 ^ 64 - 1) a e)
    by false e true f =
        ap capped (times-turned (capped a) (capped b)) ∙ over-times b a (ltb-true (2 ^ 64 - 1) b f) ∙ ap capped (times-turned b a)
    by false e false f =
        ap (λ x. capped (x * capped b)) (small a (ltb-false (2 ^ 64 - 1) a e)) ∙ ap (λ y. capped (a * y)) (small b (ltb-false (2 ^ 64 - 1) b f))

-- ---- large products

le-false : (a b : ℕ) → b < a → nat_le a b ≡ false
le-false a b h = by (nat_le a b) refl
  where
    by : (t : Bool) → nat_le a b ≡ t → t ≡ false
    by false e = refl
    by true e = absurd (omega (arith, h, leb-true a b e))

large : (a b : ℕ) → 2 ≤ a → 2 ≤ b → 64 < a * b → is_large_count a b ≡ true
large a b h k l =
    ap (λ t. t && (nat_le 2 b && nat_lt 64 (a * b))) (le-leb 2 a h) ∙ ap (λ t. t && nat_lt 64 (a * b)) (le-leb 2 b k) ∙ lt-ltb 64 (a * b) l

short-first : (a b : ℕ) → a < 2 → is_large_count a b ≡ false
short-first a b h = ap (λ t. t && (nat_le 2 b && nat_lt 64 (a * b))) (le-false 2 a h)

short-second : (a b : ℕ) → b < 2 → is_large_count a b ≡ false
short-second a b h = ap (λ t. nat_le 2 a && (t && nat_lt 64 (a * b))) (le-false 2 b h) ∙ and-false (nat_le 2 a)

over-large : (a b : ℕ) → 2 ^ 64 - 1 < a → is_large_count (capped a) (capped b) ≡ is_large_count a b
over-large a b h = by (nat_lt b 2) refl
  where
    by : (t : Bool) → nat_lt b 2 ≡ t → is_large_count (capped a) (capped b) ≡ is_large_count a b
    by true e =
        let l : b < 2 = ltb-true b 2 e in
        short-second (capped a) (capped b) (omega (arith, l)) ∙ sym (short-second a b l)
    by false e =
        let l : 2 ≤ b = ltb-false b 2 e in
        large (capped a) (capped b) (omega (arith, h)) (omega (arith, l))
        (omega (arith, h, times-more (capped a) (capped b) (omega (arith, l))))
        ∙ sym (large a b (omega (arith, h)) l (omega (arith, h, times-more a b (omega (arith, l)))))

large-turned : (a b : ℕ) → is_large_count a b ≡ is_large_count b a
large-turned a b = ap (λ n. nat_le 2 a && (nat_le 2 b && nat_lt 64 n)) (times-turned a b) ∙ by (nat_le 2 a) (nat_le 2 b) (nat_lt 64 (b * a))
  where
    by : (t u v : Bool) → (t && (u && v)) ≡ (u && (t && v))
    by true u v = refl
    by false true v = refl
    by false false v = refl

large-capped : (a b : ℕ) → is_large_count (capped a) (capped b) ≡ is_large_count a b
large-capped a b = by (nat_lt (2 ^ 64 - 1) a) refl (nat_lt (2 ^ 64 - 1) b) refl
  where
    by : (t : Bool) → nat_lt (2 ^ 64 - 1) a ≡ t → (u : Bool) → nat_lt (2 ^ 64 - 1) b ≡ u → is_large_count (capped a) (capped b) ≡ is_large_count a b
    by true e u f = over-large a b (ltb-true (2 ^ 64 - 1) a e)
    by false e true f =
        large-turned (capped a) (capped b) ∙ over-large b a (ltb-true (2 ^ 64 - 1) b f) ∙ large-turned b a
    by false e false f =
        ap (λ x. is_large_count x (capped b)) (small a (ltb-false (2 ^ 64 - 1) a e)) ∙ ap (is_large_count a) (small b (ltb-false (2 ^ 64 - 1) b f))

-- ---- counts

pub count-twice : (c : ClauseCount) → capped_count (capped_count c) ≡ capped_count c
count-twice c = same _ _ (capped-twice c.clauses) (capped-twice c.defining)

sum-capped : (a b : ClauseCount) → capped_count (sum_count (capped_count a) (capped_count b)) ≡ capped_count (sum_count a b)
sum-capped a b = same _ _ (omega arith) (omega arith)

-- a product, large or not
abbrev product_as : Bool → ClauseCount → ClauseCount → ClauseCount
product_as t a b =
    if t then record { clauses = min a.clauses b.clauses; defining = (a.defining + b.defining) + max a.clauses b.clauses }
    else record { clauses = a.clauses * b.clauses; defining = a.defining + b.defining }

product-as-capped : (t : Bool) (a b : ClauseCount) → capped_count (product_as t (capped_count a) (capped_count b)) ≡ capped_count (product_as t a b)
product-as-capped true a b = same _ _ (omega arith) (omega arith)
product-as-capped false a b = same _ _ (times-capped a.clauses b.clauses) (omega arith)

product-capped : (a b : ClauseCount) → capped_count (product_count (capped_count a) (capped_count b)) ≡ capped_count (product_count a b)
product-capped a b =
    ap (λ t. capped_count (product_as t (capped_count a) (capped_count b))) (large-capped a.clauses b.clauses)
    ∙ product-as-capped (is_large_count a.clauses b.clauses) a b

pub joined-capped :
    (listed : Bool) (a b : ClauseCount) → capped_count (joined_count listed (capped_count a) (capped_count b)) ≡ capped_count (joined_count listed a b)
joined-capped true a b = sum-capped a b
joined-capped false a b = product-capped a b

pub joined-both :
    (listed : Bool) (k l c d r : ClauseCount)
    → k ≡ capped_count c → l ≡ capped_count d → r ≡ capped_count (joined_count listed k l) → r ≡ capped_count (joined_count listed c d)
joined-both listed k l c d r g h e =
    e ∙ ap (λ x. capped_count (joined_count listed x l)) g ∙ ap (λ x. capped_count (joined_count listed (capped_count c) x)) h
    ∙ joined-capped listed c d

pub stays-capped : (k c : ClauseCount) → k ≡ capped_count c → capped_count k ≡ k
stays-capped k c h = ap capped_count h ∙ count-twice c ∙ sym h

-- the second of two
second-capped : (listed : Bool) (a b : ClauseCount) → capped_count (joined_count listed a (capped_count b)) ≡ capped_count (joined_count listed a b)
second-capped listed a b =
    sym (joined-capped listed a (capped_count b))
    ∙ ap (λ c. capped_count (joined_count listed (capped_count a) c)) (count-twice b)
    ∙ joined-capped listed a b

-- the first of two
first-capped : (listed : Bool) (a b : ClauseCount) → capped_count (joined_count listed (capped_count a) b) ≡ capped_count (joined_count listed a b)
first-capped listed a b =
    sym (joined-capped listed (capped_count a) b)
    ∙ ap (λ c. capped_count (joined_count listed c (capped_count b))) (count-twice a)
    ∙ joined-capped listed a b

pub total-capped : (k c : ClauseCount) (n : ℕ) → k ≡ capped_count c → n ≡ capped (total_count k) → n ≡ capped (total_count c)
total-capped k c n h e =
    omega (arith, e, ap (λ (d : ClauseCount). d.clauses) h, ap (λ (d : ClauseCount). d.defining) h)

-- ---- lists of formulas

-- what is counted, joined with the counts of further formulas
abbrev pub rest_counts : Bool → ClauseCount → FormulaTrees → Bool → ClauseCount
rest_counts true a fs sign = sum_count a (listed_counts fs sign)
rest_counts false a fs sign = product_counts a fs sign

pub rest-begin : (listed : Bool) (fs : FormulaTrees) (sign : Bool) → rest_counts listed (constant_count listed) fs sign ≡ several_counts listed fs sign
rest-begin true fs sign = same _ _ (omega arith) (omega arith)
rest-begin false fs sign = refl

products-capped : (a : ClauseCount) (fs : FormulaTrees) (sign : Bool) → capped_count (product_counts (capped_count a) fs sign) ≡ capped_count (product_counts a fs sign)
products-capped a no_formulas sign = count-twice a
products-capped a (formula_then f fs) sign =
    let b : ClauseCount = product_count (capped_count a) (clause_counts f sign) in
    let c : ClauseCount = product_count a (clause_counts f sign) in
    sym (products-capped b fs sign)
    ∙ ap (λ d. capped_count (product_counts d fs sign)) (first-capped false a (clause_counts f sign))
    ∙ products-capped c fs sign

rest-capped : (listed : Bool) (a : ClauseCount) (fs : FormulaTrees) (sign : Bool) → capped_count (rest_counts listed (capped_count a) fs sign) ≡ capped_count (rest_counts listed a fs sign)
rest-capped true a fs sign = first-capped true a (listed_counts fs sign)
rest-capped false a fs sign = products-capped a fs sign

rest-then :
    (listed : Bool) (a : ClauseCount) (f : FormulaTree) (fs : FormulaTrees) (sign : Bool)
    → rest_counts listed (joined_count listed a (clause_counts f sign)) fs sign ≡ rest_counts listed a (formula_then f fs) sign
rest-then true a f fs sign = same _ _ (omega arith) (omega arith)
rest-then false a f fs sign = refl

-- one more formula is counted
pub rest-step :
    (listed : Bool) (fs : List Formula) (i : ℕ) (sign : Bool) (f : Formula) (a b c all : ClauseCount)
    → i < length fs → f ≡ get_or fs i f
    → b ≡ capped_count (clause_counts (formula_of f) sign) → c ≡ capped_count (joined_count listed a b)
    → capped_count (rest_counts listed a (formulas_of (map formula_of (drop i fs))) sign) ≡ all
    → capped_count (rest_counts listed c (formulas_of (map formula_of (drop (i + 1) fs))) sign) ≡ all
rest-step listed fs i sign f a b c all h e g k m =
    let left : FormulaTrees = formulas_of (map formula_of (drop (i + 1) fs)) in
    ap (λ x. capped_count (rest_counts listed x left sign))
    (k ∙ ap (λ x. capped_count (joined_count listed a x)) g ∙ second-capped listed a (clause_counts (formula_of f) sign))
    ∙ rest-capped listed (joined_count listed a (clause_counts (formula_of f) sign)) left sign
    ∙ ap capped_count (rest-then listed a (formula_of f) left sign)
    ∙ ap (λ gs. capped_count (rest_counts listed a (formulas_of (map formula_of gs)) sign)) (sym (drop-item fs i f h e))
    ∙ m

rest-none : (listed : Bool) (a : ClauseCount) (sign : Bool) → rest_counts listed a no_formulas sign ≡ a
rest-none true a sign = same _ _ (omega arith) (omega arith)
rest-none false a sign = refl

pub rest-end :
    (listed : Bool) (fs : List Formula) (i : ℕ) (sign : Bool) (a all : ClauseCount)
    → length fs ≤ i → capped_count a ≡ a
    → capped_count (rest_counts listed a (formulas_of (map formula_of (drop i fs))) sign) ≡ all
    → a ≡ all
rest-end listed fs i sign a all h k m =
    sym k
    ∙ ap capped_count (sym (rest-none listed a sign))
    ∙ ap (λ gs. capped_count (rest_counts listed a (formulas_of (map formula_of gs)) sign)) (sym (drop-all fs i h))
    ∙ m

pub constant-capped : (listed : Bool) → capped_count (constant_count listed) ≡ constant_count listed
constant-capped true = refl
constant-capped false = refl
