-- Measures of lists one after the other and of products, with sums that stop and without.
use Rattle.std.proofs.Common.{◌≡◌, ℕ, zero, suc, ◌+◌, ◌-◌, ◌*◌, ◌^◌, ◌≤◌, ◌==◌, ◌&&◌, max, Bool, true, false, List, [], ◌∷◌, ◌++◌, length, map, refl, ap, sym, ◌∙◌, append-nil, arith}
use Rattle.std.specs.Prelude.{nat_lt, flat_map}
use Rattle.std.proofs.lemmas.Bool.{and_parts, eqb-true, ltb-true, ltb-false}
use Rattle.std.proofs.lemmas.List.Sums.{sum_by-append, sum_by-cons}
use Rattle.fol_base.specs.Clause.{TreeLiteral, literal_size}
use Rattle.signature.specs.Clausal.{Literals, all_pairs}
use Rattle.std.proofs.lemmas.Grind.{flat_map-append}
use Rattle.fol_base.proofs.AboutTerms.TreeLemmas.{tree_size-positive}
use Rattle.skolem.specs.Shape.{matrix_tree}
use Rattle.clausal_form.specs.Written.{written}
use Rattle.clausal_form.specs.Naming.{definition_clauses}
use Rattle.clausal_form.specs.declared.naming.Definition.{Definition}
use Rattle.clausal_form.specs.Measure.{literals_size, symbols_in, largest, ClauseMeasure, measured, sum_measure, product_largest, product_measure, capped_measure, measure_of, capped_measured}
use Rattle.plain_types.specs.Capped.{capped}
use Rattle.clausal_form.specs.declared.measure.Measure.{Measure}
use Rattle.clausal_form.proofs.AboutNaming.PairLemmas.{pairs-unit, unit-pairs}
use Rattle.list_lemmas.proofs.Lists.{length-joined}
use Rattle.list_lemmas.proofs.Numbers.{times-none, times-suc}

same : (a b : ClauseMeasure) → a.clauses ≡ b.clauses → a.symbols ≡ b.symbols → a.largest ≡ b.largest → a ≡ b
same a b h k l = λ i. record { clauses = h i; symbols = k i; largest = l i }

-- ---- one list after the other

pub largest-append : (a b : List Literals) → largest (a ++ b) ≡ max (largest a) (largest b)
largest-append [] b = omega arith
largest-append (c ∷ a) b = omega (arith, largest-append a b)

measured-append : (a b : List Literals) → measured (a ++ b) ≡ sum_measure (measured a) (measured b)
measured-append a b = same _ _ (length-joined a b) (sum_by-append literals_size a b) (largest-append a b)

sum-capped : (a b : ClauseMeasure) → capped_measure (sum_measure (capped_measure a) (capped_measure b)) ≡ capped_measure (sum_measure a b)
sum-capped a b = same _ _ refl (omega arith) (omega arith)

pub measured-sum :
    (a b c : Measure) (cs ds : List Literals)
    → measure_of a ≡ capped_measured cs → measure_of b ≡ capped_measured ds
    → measure_of c ≡ capped_measure (sum_measure (measure_of a) (measure_of b))
    → measure_of c ≡ capped_measured (cs ++ ds)
measured-sum a b c cs ds h k l =
    l ∙ ap (λ x. capped_measure (sum_measure x (measure_of b))) h ∙ ap (λ y. capped_measure (sum_measure (capped_measured cs) y)) k
    ∙ sum-capped (measured cs) (measured ds) ∙ ap capped_measure (sym (measured-append cs ds))

-- ---- products

none-times : (a : ℕ) → 0 * a ≡ 0
none-times a = omega arith

before-length : (c : Literals) (b : List Literals) → length (map (λ d. c ++ d) b) ≡ length b
before-length c [] = refl
before-length c (d ∷ b) = ap suc (before-length c b)

pub before-symbols : (c : Literals) (b : List Literals) → symbols_in (map (λ d. c ++ d) b) ≡ literals_size c * length b + symbols_in b
before-symbols c [] = omega arith
before-symbols c (d ∷ b) =
    omega (
      arith,
      before-symbols c b,
      sum_by-append literal_size c d,
      sum_by-cons literals_size (c ++ d) (map (λ e. c ++ e) b),
      sum_by-cons literals_size d b,
    )

pub before-largest : (c : Literals) (b : List Literals) → largest (map (λ d. c ++ d) b) ≡ product_largest (length b) (literals_size c + largest b)
before-largest c [] = refl
before-largest c (d ∷ []) = omega (arith, sum_by-append literal_size c d)
before-largest c (d ∷ (e ∷ b)) = omega (arith, sum_by-append literal_size c d, before-largest c (e ∷ b))

pub pairs-length : (a b : List Literals) → length (all_pairs a b) ≡ length a * length b
pairs-length [] b = omega arith
pairs-length (c ∷ a) b =
    omega (arith, length-joined (map (λ d. c ++ d) b) (all_pairs a b), before-length c b, pairs-length a b)

pub pairs-symbols : (a b : List Literals) → symbols_in (all_pairs a b) ≡ symbols_in a * length b + symbols_in b * length a
pairs-symbols [] b = omega (arith, times-none (symbols_in b))
pairs-symbols (c ∷ a) b =
    let both : symbols_in (all_pairs (c ∷ a) b) ≡ symbols_in (map (λ d. c ++ d) b) + symbols_in (all_pairs a b) =
    sum_by-append literals_size (map (λ d. c ++ d) b) (all_pairs a b) in
    let sums : symbols_in (all_pairs (c ∷ a) b) ≡ (literals_size c + symbols_in a) * length b + symbols_in b * suc (length a) =
    omega (arith, both, before-symbols c b, pairs-symbols a b) in
    sums ∙ ap (λ x. x * length b + symbols_in b * suc (length a)) (sym (sum_by-cons literals_size c a))

pub some-largest : (n x : ℕ) → 1 ≤ n → product_largest n x ≡ x
some-largest zero x h = absurd (omega (arith, h))
some-largest (suc n) x h = refl

times-some : (a b : ℕ) → 1 ≤ a → 1 ≤ b → 1 ≤ a * b
times-some zero b h k = absurd (omega (arith, h))
times-some (suc a) b h k = omega (arith, k)

largest-step :
    (a b size of_first of_second : ℕ) → (a ≡ 0 → of_first ≡ 0)
    → max (product_largest b (size + of_second)) (product_largest (a * b) (of_first + of_second))
    ≡ product_largest (suc a * b) (max size of_first + of_second)
largest-step a zero size f s h =
    ap (λ n. max 0 (product_largest n (f + s))) (times-none a) ∙ ap (λ n. product_largest n (max size f + s)) (sym (times-none (suc a)))
largest-step zero (suc b) size f s h =
    omega (
      arith,
      h refl,
      ap (λ n. product_largest n (f + s)) (none-times (suc b)),
      some-largest (1 * suc b) (max size f + s) (times-some 1 (suc b) (omega arith) (omega arith)),
    )
largest-step (suc a) (suc b) size f s h =
    omega (
      arith,
      some-largest (suc a * suc b) (f + s) (times-some (suc a) (suc b) (omega arith) (omega arith)),
      some-largest (suc (suc a) * suc b) (max size f + s) (times-some (suc (suc a)) (suc b) (omega arith) (omega arith)),
    )

none-largest : (a : List Literals) → length a ≡ 0 → largest a ≡ 0
none-largest [] h = refl
none-largest (c ∷ a) h = absurd (omega (arith, h))

pub pairs-largest : (a b : List Literals) → largest (all_pairs a b) ≡ product_largest (length a * length b) (largest a + largest b)
pairs-largest [] b = ap (λ n. product_largest n (0 + largest b)) (sym (none-times (length b)))
pairs-largest (c ∷ a) b =
    largest-append (map (λ d. c ++ d) b) (all_pairs a b)
    ∙ ap (λ x. max x (largest (all_pairs a b))) (before-largest c b)
    ∙ ap (λ x. max (product_largest (length b) (literals_size c + largest b)) x) (pairs-largest a b)
    ∙ largest-step (length a) (length b) (literals_size c) (largest a) (largest b) (none-largest a)

measured-pairs : (a b : List Literals) → measured (all_pairs a b) ≡ product_measure (measured a) (measured b)
measured-pairs a b = same _ _ (pairs-length a b) (pairs-symbols a b) (pairs-largest a b)

-- ---- products that stop

both-over : (x y : ℕ) → 2 ^ 64 - 1 ≤ x → 2 ^ 64 - 1 ≤ y → capped x ≡ capped y
both-over x y h k = omega (arith, h, k)

times-capped : (a b : ℕ) → capped (capped a * b) ≡ capped (a * b)
times-capped a zero = ap capped (times-none (capped a) ∙ sym (times-none a))
times-capped a (suc b) = by (nat_lt (2 ^ 64 - 1) a) refl
  where
    by : (t : Bool) → nat_lt (2 ^ 64 - 1) a ≡ t → capped (capped a * suc b) ≡ capped (a * suc b)
    by true e =
        both-over (capped a * suc b) (a * suc b)
        (omega (arith, ltb-true (2 ^ 64 - 1) a e, times-suc (capped a) b))
        (omega (arith, ltb-true (2 ^ 64 - 1) a e, times-suc a b))
    by false e = ap (λ x. capped (x * suc b)) (let small : capped a ≡ a = omega (arith, ltb-false (2 ^ 64 - 1) a e) in small)

sums-capped : (x y z w : ℕ) → capped x ≡ capped z → capped y ≡ capped w → capped (x + y) ≡ capped (z + w)
sums-capped x y z w h k = omega (arith, h, k)

largest-capped : (n a b : ℕ) → capped (product_largest n (capped a + capped b)) ≡ capped (product_largest n (a + b))
largest-capped zero a b = refl
largest-capped (suc n) a b = omega arith

product-capped : (a b : ClauseMeasure) → capped_measure (product_measure (capped_measure a) (capped_measure b)) ≡ capped_measure (product_measure a b)
product-capped a b =
    same _ _ refl
    (sums-capped _ _ _ _ (times-capped a.symbols b.clauses) (times-capped b.symbols a.clauses))
    (largest-capped (a.clauses * b.clauses) a.largest b.largest)

pub measured-product :
    (a b c : Measure) (cs ds : List Literals)
    → measure_of a ≡ capped_measured cs → measure_of b ≡ capped_measured ds
    → measure_of c ≡ capped_measure (product_measure (measure_of a) (measure_of b))
    → measure_of c ≡ capped_measured (all_pairs cs ds)
measured-product a b c cs ds h k l =
    l ∙ ap (λ x. capped_measure (product_measure x (measure_of b))) h ∙ ap (λ y. capped_measure (product_measure (capped_measured cs) y)) k
    ∙ product-capped (measured cs) (measured ds) ∙ ap capped_measure (sym (measured-pairs cs ds))

-- ---- lists without clauses, and of the empty clause alone

pub none-measured : (a : Measure) (cs : List Literals) → measure_of a ≡ capped_measured cs → a.clauses ≡ 0 → cs ≡ []
none-measured a [] h k = refl
none-measured a (c ∷ cs) h k = absurd (omega (arith, k, ap (λ (m : ClauseMeasure). m.clauses) h))

empty-alone : (cs : List Literals) → length cs ≡ 1 → symbols_in cs ≡ 0 → cs ≡ [] ∷ []
empty-alone [] n s = absurd (omega (arith, n))
empty-alone ([] ∷ []) n s = refl
empty-alone ((l ∷ c) ∷ []) n s =
    absurd
    (omega (
      arith,
      s,
      sum_by-cons literals_size (l ∷ c) [],
      sum_by-cons literal_size l c,
      tree_size-positive l.left,
    ))
empty-alone (c ∷ (d ∷ cs)) n s = absurd (omega (arith, n))

pub empty-measured :
    (a : Measure) (cs : List Literals) → measure_of a ≡ capped_measured cs → ((a.clauses == 1) && (a.symbols == 0)) ≡ true → cs ≡ [] ∷ []
empty-measured a cs h t =
    let parts : ((a.clauses == 1) ≡ true) × ((a.symbols == 0) ≡ true) = and_parts _ _ t in
    let one : length cs ≡ 1 = sym (ap (λ (m : ClauseMeasure). m.clauses) h) ∙ eqb-true _ _ parts.0 in
    let stopped : capped (symbols_in cs) ≡ 0 = sym (ap (λ (m : ClauseMeasure). m.symbols) h) ∙ eqb-true _ _ parts.1 in
    let none : symbols_in cs ≡ 0 = omega (arith, stopped) in
    empty-alone cs one none

pub unit-last :
    (b : Measure) (cs ds : List Literals)
    → measure_of b ≡ capped_measured ds → ((b.clauses == 1) && (b.symbols == 0)) ≡ true → cs ≡ all_pairs cs ds
unit-last b cs ds h t = sym (ap (all_pairs cs) (empty-measured b ds h t) ∙ pairs-unit cs)

pub unit-first :
    (a : Measure) (cs ds : List Literals)
    → measure_of a ≡ capped_measured cs → ((a.clauses == 1) && (a.symbols == 0)) ≡ true → ds ≡ all_pairs cs ds
unit-first a cs ds h t = sym (ap (λ xs. all_pairs xs ds) (empty-measured a cs h t) ∙ unit-pairs ds)

pub none-last : (b : Measure) (cs ds : List Literals) → measure_of b ≡ capped_measured ds → b.clauses ≡ 0 → cs ≡ cs ++ ds
none-last b cs ds h k = sym (ap (λ xs. cs ++ xs) (none-measured b ds h k) ∙ append-nil cs)

pub none-first : (a : Measure) (cs ds : List Literals) → measure_of a ≡ capped_measured cs → a.clauses ≡ 0 → ds ≡ cs ++ ds
none-first a cs ds h k = sym (ap (λ xs. xs ++ ds) (none-measured a cs h k))

-- ---- literals and definitions

pub literal-measured :
    (a : Measure) (l : TreeLiteral) (size : ℕ)
    → size ≡ capped (literal_size l) → measure_of a ≡ record { clauses = 1; symbols = size; largest = size }
    → measure_of a ≡ capped_measured ((l ∷ []) ∷ [])
literal-measured a l size h k =
    k
    ∙ same _ _ refl
    (omega (arith, h, sum_by-cons literal_size l [], sum_by-cons literals_size (l ∷ []) []))
    (omega (arith, h, sum_by-cons literal_size l []))

pub defining-then :
    (ds es : List Definition) (d : Definition) (old part one clauses new : Measure)
    → es ≡ ds ++ d ∷ []
    → measure_of old ≡ capped_measured (flat_map definition_clauses ds)
    → measure_of part ≡ capped_measured (written (matrix_tree d.matrix))
    → measure_of one ≡ capped_measured ((d.negated ∷ []) ∷ [])
    → measure_of clauses ≡ capped_measure (product_measure (measure_of one) (measure_of part))
    → measure_of new ≡ capped_measure (sum_measure (measure_of old) (measure_of clauses))
    → measure_of new ≡ capped_measured (flat_map definition_clauses es)
defining-then ds es d old part one clauses new e h k l m n =
    measured-sum old clauses new _ _ h (measured-product one part clauses ((d.negated ∷ []) ∷ []) (written (matrix_tree d.matrix)) l k m) n
    ∙ ap capped_measured (sym (flat_map-append definition_clauses ds (d ∷ [])))
    ∙ ap (λ fs. capped_measured (flat_map definition_clauses fs)) (sym e)
