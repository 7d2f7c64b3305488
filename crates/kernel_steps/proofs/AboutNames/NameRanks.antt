-- The order of signed names by their ranks. A sorted list is determined by which names it has.
use Rattle.std.proofs.Common.{◌≡◌, ℕ, ◌+◌, ◌*◌, ◌<◌, ◌≤◌, Bool, true, false, not, ◌&&◌, ◌||◌, ◌==◌, nat_lt, List, [], ◌∷◌, refl, ap, sym, ◌∙◌, ⊎_elim, arith}
use Rattle.std.specs.Prelude.{if◌then◌else◌}
use Rattle.std.proofs.lemmas.Bool.{and_parts, and_from, or_cases, or_left, or_right, cases_Bool, cases_order, true≢false, eq-eqb, ne_eqb, lt-ltb, le-ltb, ltb-true}
use Rattle.plain_types.specs.declared.sequence.NameLit.{NameLit}
use Rattle.plain_types.specs.Names.{same_name, has_name, without}
use Rattle.plain_types.proofs.NameLemmas.{same_name-refl, same_name-true, has_name-without}
use Rattle.kernel_steps.specs.Names.{name_before, sorted_names, are_sorted, name_rank}
use Rattle.kernel_steps.proofs.AboutNames.NameTruth.{has_name-sorted_names}
use Rattle.kernel_steps.proofs.AboutNames.SortedNames.{sorted_names_law}

-- ---- ranks

abbrev sign : Bool → ℕ
sign p = if p then 1 else 0

-- a name comes before another where its rank is lower
pub before-rank : (n m : NameLit) → name_before n m ≡ nat_lt (name_rank n) (name_rank m)
before-rank n m = by_order n.positive m.positive n.name m.name
  where
    of_one_number :
        (p q : Bool) (a : ℕ) → (nat_lt a a || ((a == a) && (not p && q))) ≡ nat_lt (2 * a + sign p) (2 * a + sign q)
    of_one_number true true a =
        ap (λ b. b || ((a == a) && false)) (le-ltb a a (omega arith)) ∙ ap (λ b. b && false) (eq-eqb a a refl)
        ∙ sym (le-ltb (2 * a + 1) (2 * a + 1) (omega arith))
    of_one_number true false a =
        ap (λ b. b || ((a == a) && false)) (le-ltb a a (omega arith)) ∙ ap (λ b. b && false) (eq-eqb a a refl)
        ∙ sym (le-ltb (2 * a + 1) (2 * a + 0) (omega arith))
    of_one_number false true a =
        or_right (nat_lt a a) ((a == a) && true) (and_from (a == a) true (eq-eqb a a refl) refl)
        ∙ sym (lt-ltb (2 * a + 0) (2 * a + 1) (omega arith))
    of_one_number false false a =
        ap (λ b. b || ((a == a) && false)) (le-ltb a a (omega arith)) ∙ ap (λ b. b && false) (eq-eqb a a refl)
        ∙ sym (le-ltb (2 * a + 0) (2 * a + 0) (omega arith))

    sign-le : (p : Bool) → sign p ≤ 1
    sign-le true = omega arith
    sign-le false = omega arith

    by_order :
        (p q : Bool) (a b : ℕ) → (nat_lt a b || ((a == b) && (not p && q))) ≡ nat_lt (2 * a + sign p) (2 * b + sign q)
    by_order p q a b =
        ⊎_elim
        (λ same. ap (λ c. nat_lt a c || ((a == c) && (not p && q))) (sym same) ∙ of_one_number p q a ∙ ap (λ c. nat_lt (2 * a + sign p) (2 * c + sign q)) same)
        (λ r.
        ⊎_elim
        (λ less.
        or_left (nat_lt a b) _ (lt-ltb a b less)
        ∙ sym (lt-ltb (2 * a + sign p) (2 * b + sign q) (omega (arith, sign-le p))))
        (λ more.
        ap (λ c. c || ((a == b) && (not p && q))) (le-ltb a b (omega arith))
        ∙ ap (λ c. c && (not p && q)) (ne_eqb a b (λ e. omega (arith, e, more)))
        ∙ sym (le-ltb (2 * a + sign p) (2 * b + sign q) (omega (arith, sign-le q))))
        r)
        (cases_order a b)

-- equal names have one rank
same-rank : (n m : NameLit) → same_name n m ≡ true → name_rank n ≡ name_rank m
same-rank n m h = ap name_rank (same_name-true n m h)

-- and names of one rank are equal
pub rank-same : (n m : NameLit) → name_rank n ≡ name_rank m → n ≡ m
rank-same n m h = by n.positive m.positive n.name m.name h
  where
    by : (p q : Bool) (a b : ℕ) → 2 * a + sign p ≡ 2 * b + sign q → (let k : NameLit = record { positive = p; name = a } in k) ≡ record { positive = q; name = b }
    by true true a b e = let s : a ≡ b = omega arith in ap (λ c. let k : NameLit = record { positive = true; name = c } in k) s
    by false false a b e = let s : a ≡ b = omega arith in ap (λ c. let k : NameLit = record { positive = false; name = c } in k) s
    by true false a b e = absurd (omega arith)
    by false true a b e = absurd (omega arith)

-- ---- sorted lists

-- the first of a sorted list comes before the others
pub first-before :
    (n k : NameLit) (ns : List NameLit) → are_sorted (n ∷ ns) ≡ true → has_name k ns ≡ true → name_rank n < name_rank k
first-before n k [] h there = absurd (true≢false (sym there))
first-before n k (m ∷ ms) h there =
    let parts = and_parts (name_before n m) (are_sorted (m ∷ ms)) h in
    let before : name_rank n < name_rank m = ltb-true (name_rank n) (name_rank m) (sym (before-rank n m) ∙ parts.0) in
    ⊎_elim
    (λ here. omega (arith, before, same-rank k m here))
    (λ later. omega (arith, before, first-before m k ms parts.1 later))
    (or_cases (same_name k m) (has_name k ms) there)

-- one that comes before all others goes first
pub sorted-cons :
    (n : NameLit) (ns : List NameLit)
    → are_sorted ns ≡ true → ((k : NameLit) → has_name k ns ≡ true → name_rank n < name_rank k) → are_sorted (n ∷ ns) ≡ true
sorted-cons n [] h before = refl
sorted-cons n (m ∷ ms) h before =
    and_from (name_before n m) (are_sorted (m ∷ ms))
    (before-rank n m ∙ lt-ltb (name_rank n) (name_rank m) (before m (or_left (same_name m m) (has_name m ms) (same_name-refl m)))) h

sorted-tail : (n : NameLit) (ns : List NameLit) → are_sorted (n ∷ ns) ≡ true → are_sorted ns ≡ true
sorted-tail n [] h = refl
sorted-tail n (m ∷ ms) h = (and_parts (name_before n m) (are_sorted (m ∷ ms)) h).1

-- a name isn't behind itself
not-behind : (n k : NameLit) (ns : List NameLit) → are_sorted (n ∷ ns) ≡ true → name_rank k ≡ name_rank n → has_name k ns ≡ false
not-behind n k ns h same =
    ⊎_elim
    (λ there. absurd (let less : name_rank n < name_rank k = first-before n k ns h there in omega (arith, less, same)))
    (λ e. e)
    (cases_Bool (has_name k ns))

-- sorted lists that have the same names are equal
pub same-names :
    (ns ms : List NameLit)
    → are_sorted ns ≡ true → are_sorted ms ≡ true → ((k : NameLit) → has_name k ns ≡ has_name k ms) → ns ≡ ms
same-names [] [] first second same = refl
same-names [] (m ∷ ms) first second same =
    absurd (true≢false (sym (or_left (same_name m m) (has_name m ms) (same_name-refl m)) ∙ sym (same m)))
same-names (n ∷ ns) [] first second same =
    absurd (true≢false (sym (or_left (same_name n n) (has_name n ns) (same_name-refl n)) ∙ same n))
same-names (n ∷ ns) (m ∷ ms) first second same =
    ap (λ k. k ∷ ns) heads
    ∙ ap (λ ks. m ∷ ks) (same-names ns ms (sorted-tail n ns first) (sorted-tail m ms second) tails)
  where
    heads : n ≡ m
    heads =
        rank-same n m
        (⊎_elim
        (λ here. same-rank n m here)
        (λ later.
        ⊎_elim
        (λ here. sym (same-rank m n here))
        (λ behind.
        let less : name_rank m < name_rank n = first-before m n ms second later in
        let more : name_rank n < name_rank m = first-before n m ns first behind in absurd (omega (arith, less, more)))
        (or_cases (same_name m n) (has_name m ns) (same m ∙ or_left (same_name m m) (has_name m ms) (same_name-refl m))))
        (or_cases (same_name n m) (has_name n ms) (sym (same n) ∙ or_left (same_name n n) (has_name n ns) (same_name-refl n))))

    tails : (k : NameLit) → has_name k ns ≡ has_name k ms
    tails k =
        ⊎_elim
        (λ here.
        let is : name_rank k ≡ name_rank n = same-rank k n here in
        not-behind n k ns first is ∙ sym (not-behind m k ms second (is ∙ ap name_rank heads)))
        (λ other.
        sym (ap (λ b. b || has_name k ns) other) ∙ same k ∙ ap (λ b. b || has_name k ms) (ap (same_name k) (sym heads) ∙ other))
        (cases_Bool (same_name k n))

-- ---- the sorted names of a list

pub sorted_names-sorted : (ns : List NameLit) → are_sorted (sorted_names ns) ≡ true
sorted_names-sorted ns = (sorted_names_law ns).0

-- a sorted list with the names of another is that one, sorted
pub are-sorted_names :
    (ns ms : List NameLit) → are_sorted ms ≡ true → ((k : NameLit) → has_name k ms ≡ has_name k ns) → ms ≡ sorted_names ns
are-sorted_names ns ms h same =
    same-names ms (sorted_names ns) h (sorted_names-sorted ns) (λ k. same k ∙ sym (has_name-sorted_names k ns))

-- a sorted list stays
pub sorted-same : (ns : List NameLit) → are_sorted ns ≡ true → ns ≡ sorted_names ns
sorted-same ns h = are-sorted_names ns ns h (λ k. refl)

-- lists of the same names
pub sorted_names-same : (ns ms : List NameLit) → ((k : NameLit) → has_name k ns ≡ has_name k ms) → sorted_names ns ≡ sorted_names ms
sorted_names-same ns ms same =
    are-sorted_names ms (sorted_names ns) (sorted_names-sorted ns) (λ k. has_name-sorted_names k ns ∙ same k)

-- ---- a list without a name

pub without-sorted : (n : NameLit) (ns : List NameLit) → are_sorted ns ≡ true → are_sorted (without n ns) ≡ true
without-sorted n [] h = refl
without-sorted n (m ∷ ms) h =
    kept (same_name n m) (without-sorted n ms (sorted-tail m ms h))
  where
    kept : (s : Bool) → are_sorted (without n ms) ≡ true → are_sorted (if not s then m ∷ without n ms else without n ms) ≡ true
    kept true rest = rest
    kept false rest =
        sorted-cons m (without n ms) rest
        (λ k there.
        first-before m k ms h (and_parts (has_name k ms) (not (same_name n k)) (sym (has_name-without n k ms) ∙ there)).0)
