-- Numbers that are marked one after another, and listed where they had no mark.
use Rattle.std.proofs.Common.{◌≡◌, ℕ, ◌+◌, ◌<◌, ◌≤◌, Bool, true, false, not, ◌&&◌, ◌||◌, ◌==◌, List, [], ◌∷◌, ◌++◌, length, take, get_or, set, refl, ap, sym, ◌∙◌, subst, eqb-true, get_or-set_same, get_or-set_other, arith}
use Rattle.std.proofs.lemmas.List.{take_more, take_all, flat_map_more, get_or_read, length-set}
use Rattle.std.proofs.lemmas.List.Elements.{All-push}
use Rattle.std.proofs.lemmas.List.Folds.{list_any-append}
use Rattle.axiom_filter.specs.Tables.{has_number, is_marked, row_of, neighbours, AreBelow}

pub or-false : (b : Bool) → (b || false) ≡ b
or-false true = refl
or-false false = refl

or-not : (b a : Bool) → b ≡ (b || (a && not a))
or-not true a = refl
or-not false true = refl
or-not false false = refl

or-chain : (a p q : Bool) → ((a || p) || q) ≡ (a || (p || q))
or-chain true p q = refl
or-chain false p q = refl

found-chain : (f a p q : Bool) → ((f || ((a || p) && not a)) || (((a || p) || q) && not (a || p))) ≡ (f || (((a || p) || q) && not a))
found-chain true a p q = refl
found-chain false true p q = refl
found-chain false false true q = refl
found-chain false false false q = refl

pub has-append : (n : ℕ) (xs ys : List ℕ) → has_number n (xs ++ ys) ≡ (has_number n xs || has_number n ys)
has-append n xs ys = list_any-append (λ m. n == m) xs ys

-- Numbers are marked in order; those that had no mark are listed.
pub record Spread (ns : List ℕ) (marks : List Bool) (found : List ℕ) (new_marks : List Bool) (new_found : List ℕ) : Type 0 where
  pub marked : (n : ℕ) → is_marked new_marks n ≡ (is_marked marks n || has_number n ns)
  pub listed : (n : ℕ) → has_number n new_found ≡ (has_number n found || (is_marked new_marks n && not (is_marked marks n)))

pub spread-none : (marks : List Bool) (found : List ℕ) → Spread [] marks found marks found
spread-none marks found = record { marked = λ n. sym (or-false (is_marked marks n)); listed = λ n. or-not (has_number n found) (is_marked marks n) }

-- a number that has a mark
pub spread-marked : (y : ℕ) (marks : List Bool) (found : List ℕ) → is_marked marks y ≡ true → Spread (y ∷ []) marks found marks found
spread-marked y marks found h = record { marked = λ n. by n (n == y) refl; listed = λ n. or-not (has_number n found) (is_marked marks n) }
  where
    by : (n : ℕ) (b : Bool) → (n == y) ≡ b → is_marked marks n ≡ (is_marked marks n || (b || false))
    by n true e = let same : is_marked marks n ≡ true = ap (is_marked marks) (eqb-true n y e) ∙ h in same ∙ ap (λ t. t || true) (sym same)
    by n false e = sym (or-false (is_marked marks n))

-- a number that has none
pub spread-new :
    (y : ℕ) (marks : List Bool) (found : List ℕ)
    → y < length marks → is_marked marks y ≡ false → Spread (y ∷ []) marks found (set marks y true) (found ++ y ∷ [])
spread-new y marks found l h = record { marked = λ n. mark n (n == y) refl; listed = λ n. list n (n == y) refl }
  where
    at : (n : ℕ) (b : Bool) → (n == y) ≡ b → is_marked (set marks y true) n ≡ (is_marked marks n || b)
    at n true e =
        let same : n ≡ y = eqb-true n y e in
        ap (is_marked (set marks y true)) same ∙ get_or-set_same marks y true false l
        ∙ sym (ap (λ t. t || true) (ap (is_marked marks) same ∙ h))
    at n false e = get_or-set_other marks y n true false (other n e) ∙ sym (or-false (is_marked marks n))
      where
        other : (n : ℕ) → (n == y) ≡ false → n ≡ y → ⊥
        other n e s = grind arith

    mark : (n : ℕ) (b : Bool) → (n == y) ≡ b → is_marked (set marks y true) n ≡ (is_marked marks n || (b || false))
    mark n b e = at n b e ∙ ap (λ t. is_marked marks n || t) (sym (or-false b))

    listed-by : (f m b : Bool) → (b ≡ true → m ≡ false) → (f || (b || false)) ≡ (f || ((m || b) && not m))
    listed-by true m b k = refl
    listed-by false true true k = k refl
    listed-by false true false k = refl
    listed-by false false true k = refl
    listed-by false false false k = refl

    list : (n : ℕ) (b : Bool) → (n == y) ≡ b → has_number n (found ++ y ∷ []) ≡ (has_number n found || (is_marked (set marks y true) n && not (is_marked marks n)))
    list n b e =
        has-append n found (y ∷ [])
        ∙ ap (λ t. has_number n found || (t || false)) e
        ∙ listed-by (has_number n found) (is_marked marks n) b (λ s. ap (is_marked marks) (eqb-true n y (e ∙ s)) ∙ h)
        ∙ ap (λ t. has_number n found || (t && not (is_marked marks n))) (sym (at n b e))

pub spread-then :
    (ns ms : List ℕ) (marks : List Bool) (found : List ℕ) (marks1 : List Bool) (found1 : List ℕ) (marks2 : List Bool) (found2 : List ℕ)
    → Spread ns marks found marks1 found1 → Spread ms marks1 found1 marks2 found2 → Spread (ns ++ ms) marks found marks2 found2
spread-then ns ms marks found marks1 found1 marks2 found2 f s = record { marked = mark; listed = list }
  where
    mark : (n : ℕ) → is_marked marks2 n ≡ (is_marked marks n || has_number n (ns ++ ms))
    mark n =
        s.marked n ∙ ap (λ t. t || has_number n ms) (f.marked n) ∙ or-chain (is_marked marks n) (has_number n ns) (has_number n ms)
        ∙ ap (λ t. is_marked marks n || t) (sym (has-append n ns ms))

    list : (n : ℕ) → has_number n found2 ≡ (has_number n found || (is_marked marks2 n && not (is_marked marks n)))
    list n =
        let a = is_marked marks n in
        let p = has_number n ns in
        let q = has_number n ms in
        let second : is_marked marks2 n ≡ ((a || p) || q) = s.marked n ∙ ap (λ t. t || q) (f.marked n) in
        s.listed n
        ∙ ap (λ t. t || (is_marked marks2 n && not (is_marked marks1 n))) (f.listed n)
        ∙ ap (λ t. (has_number n found || (t && not a)) || (is_marked marks2 n && not t)) (f.marked n)
        ∙ ap (λ t. (has_number n found || ((a || p) && not a)) || (t && not (a || p))) second
        ∙ found-chain (has_number n found) a p q
        ∙ ap (λ t. has_number n found || (t && not a)) (sym second)

-- the numbers of one more row
pub neighbours-more :
    (table : List (List ℕ)) (from : List ℕ) (i x : ℕ) (row : List ℕ)
    → i < length from → x ≡ get_or from i 0 → row ≡ row_of table x
    → neighbours table (take i from) ++ row ≡ neighbours table (take (i + 1) from)
neighbours-more table from i x row l e r =
    ap (λ t. neighbours table (take i from) ++ t) (r ∙ ap (row_of table) e)
    ∙ flat_map_more (row_of table) [] (take i from) (get_or from i 0)
    ∙ ap (neighbours table) (sym (take_more from i 0 l))

pub spread-more :
    (row : List ℕ) (i y : ℕ) (marks : List Bool) (found : List ℕ) (marks1 : List Bool) (found1 : List ℕ) (marks2 : List Bool) (found2 : List ℕ)
    → i < length row → y ≡ get_or row i 0
    → Spread (take i row) marks found marks1 found1 → Spread (y ∷ []) marks1 found1 marks2 found2
    → Spread (take (i + 1) row) marks found marks2 found2
spread-more row i y marks found marks1 found1 marks2 found2 l e f s =
    subst (λ ns. Spread ns marks found marks2 found2)
    (ap (λ x. take i row ++ x ∷ []) e ∙ sym (take_more row i 0 l))
    (spread-then (take i row) (y ∷ []) marks found marks1 found1 marks2 found2 f s)

-- ---- the two loops

-- a number of the row without a mark
pub row-new :
    (row : List ℕ) (i : ℕ) (marks : List Bool) (found : List ℕ) (marks1 : List Bool) (found1 : List ℕ) (marks2 : List Bool) (found2 : List ℕ)
    → i < length row → get_or row i 0 < length marks1 → is_marked marks1 (get_or row i 0) ≡ false
    → marks2 ≡ set marks1 (get_or row i 0) true → found2 ≡ found1 ++ get_or row i 0 ∷ []
    → Spread (take i row) marks found marks1 found1 → Spread (take (i + 1) row) marks found marks2 found2
row-new row i marks found marks1 found1 marks2 found2 l inside h m f is =
    spread-more row i (get_or row i 0) marks found marks1 found1 marks2 found2 l refl is
    (subst (λ ms. Spread (get_or row i 0 ∷ []) marks1 found1 ms found2) (sym m)
    (subst (λ ns. Spread (get_or row i 0 ∷ []) marks1 found1 (set marks1 (get_or row i 0) true) ns) (sym f)
    (spread-new (get_or row i 0) marks1 found1 inside h)))

-- a number of the row with a mark
pub row-marked :
    (row : List ℕ) (i : ℕ) (marks : List Bool) (found : List ℕ) (marks1 : List Bool) (found1 : List ℕ) (marks2 : List Bool) (found2 : List ℕ)
    → i < length row → is_marked marks1 (get_or row i 0) ≡ true → marks2 ≡ marks1 → found2 ≡ found1
    → Spread (take i row) marks found marks1 found1 → Spread (take (i + 1) row) marks found marks2 found2
row-marked row i marks found marks1 found1 marks2 found2 l h m f is =
    spread-more row i (get_or row i 0) marks found marks1 found1 marks2 found2 l refl is
    (subst (λ ms. Spread (get_or row i 0 ∷ []) marks1 found1 ms found2) (sym m)
    (subst (λ ns. Spread (get_or row i 0 ∷ []) marks1 found1 marks1 ns) (sym f)
    (spread-marked (get_or row i 0) marks1 found1 h)))

pub row-done :
    (row : List ℕ) (i : ℕ) (marks : List Bool) (found : List ℕ) (marks1 : List Bool) (found1 : List ℕ)
    → length row ≤ i → Spread (take i row) marks found marks1 found1 → Spread row marks found marks1 found1
row-done row i marks found marks1 found1 l is = subst (λ ns. Spread ns marks found marks1 found1) (take_all i row l) is

pub table-done :
    (table : List (List ℕ)) (from : List ℕ) (i : ℕ) (marks : List Bool) (found : List ℕ) (marks1 : List Bool) (found1 : List ℕ)
    → length from ≤ i → Spread (neighbours table (take i from)) marks found marks1 found1 → Spread (neighbours table from) marks found marks1 found1
table-done table from i marks found marks1 found1 l is = subst (λ ns. Spread (neighbours table ns) marks found marks1 found1) (take_all i from l) is

-- a row of the table
pub table-more :
    (table : List (List ℕ)) (from : List ℕ) (i : ℕ) (row slice : List ℕ)
    (marks : List Bool) (found : List ℕ) (marks1 : List Bool) (found1 : List ℕ) (marks2 : List Bool) (found2 : List ℕ)
    → i < length from → get_or from i 0 < length table → row ≡ get_or table (get_or from i 0) row → slice ≡ row
    → ((n : ℕ) → is_marked marks2 n ≡ (is_marked marks1 n || has_number n slice))
    → ((n : ℕ) → has_number n found2 ≡ (has_number n found1 || (is_marked marks2 n && not (is_marked marks1 n))))
    → Spread (neighbours table (take i from)) marks found marks1 found1
    → Spread (neighbours table (take (i + 1) from)) marks found marks2 found2
table-more table from i row slice marks found marks1 found1 marks2 found2 l inside r s marked listed is =
    subst (λ ns. Spread ns marks found marks2 found2)
    (neighbours-more table from i (get_or from i 0) slice l refl (s ∙ get_or_read table (get_or from i 0) row inside r []))
    (spread-then (neighbours table (take i from)) slice marks found marks1 found1 marks2 found2 is (record { marked = marked; listed = listed }))

pub below-push :
    (marks marks2 : List Bool) (found found2 : List ℕ) (n : ℕ)
    → n < length marks → marks2 ≡ set marks n true → found2 ≡ found ++ n ∷ [] → AreBelow (length marks) found → AreBelow (length marks2) found2
below-push marks marks2 found found2 n l m f h =
    subst (λ ns. AreBelow (length marks2) ns) (sym f)
    (subst (λ k. AreBelow k (found ++ n ∷ [])) (sym (ap length m ∙ length-set marks n true))
    (All-push (λ k. k < length marks) found n h l))

pub below-same :
    (marks marks2 : List Bool) (found found2 : List ℕ) → marks2 ≡ marks → found2 ≡ found → AreBelow (length marks) found → AreBelow (length marks2) found2
below-same marks marks2 found found2 m f h =
    subst (λ ns. AreBelow (length marks2) ns) (sym f) (subst (λ k. AreBelow k found) (sym (ap length m)) h)
