-- The variables that occur, in the order in which they were made, each once.
use Rattle.std.proofs.Common.{◌≡◌, ℕ, zero, suc, ◌+◌, ◌-◌, ◌<◌, ◌≤◌, Bool, true, false, ◌||◌, ◌==◌, List, [], ◌∷◌, ◌++◌, length, take, drop, get_or, refl, ap, sym, ◌∙◌, arith, append-nil, eq-eqb, eqb-true}
use Rattle.std.specs.Prelude.{if◌then◌else◌, filter}
use Rattle.std.specs.List.{list_any}
use Rattle.std.specs.List.Sorted.{IsNonDecreasingBy, IsPermutation}
use Rattle.std.proofs.lemmas.List.Folds.{list_any-append}
use Rattle.std.proofs.lemmas.List.Elements.{filter_agree}
use Rattle.std.proofs.lemmas.List.Sorted.{list_any-IsPermutation, IsNonDecreasingBy-drop}
use Rattle.fol_base.specs.Canonical.{numbers_from}
use Rattle.signature.specs.Clausal.{made_in_order}
use Rattle.skolem.proofs.AboutBindings.ListLemmas.{filter-last}
use Rattle.list_lemmas.proofs.Numbers.{not-same}
use Rattle.list_lemmas.proofs.Places.{drop-item, drop-all}

numbers-one : (b k : ℕ) → numbers_from b (suc k) ≡ numbers_from b k ++ (b + k) ∷ []
numbers-one b zero = ap (λ c. c ∷ []) none
  where
    none : b ≡ b + 0
    none = omega arith
numbers-one b (suc k) = ap (λ cs. b ∷ cs) (numbers-one (suc b) k ∙ ap (λ c. numbers_from (suc b) k ++ c ∷ []) same)
  where
    same : suc b + k ≡ b + suc k
    same = omega arith

-- the order with one number more
order-last :
    (n : ℕ) (vs : List ℕ)
    → made_in_order (suc n) vs ≡ made_in_order n vs ++ (if list_any (λ w. n == w) vs then n ∷ [] else [])
order-last n vs =
    ap (filter (λ v. list_any (λ w. v == w) vs)) (numbers-one 0 n ∙ ap (λ c. numbers_from 0 n ++ c ∷ []) none)
    ∙ filter-last (λ v. list_any (λ w. v == w) vs) (numbers_from 0 n) n
  where
    none : 0 + n ≡ n
    none = omega arith

-- numbers that don't occur may be passed over
passed-over :
    (low k : ℕ) (vs : List ℕ) → ((v : ℕ) → low ≤ v → v < k + low → list_any (λ w. v == w) vs ≡ false)
    → made_in_order (k + low) vs ≡ made_in_order low vs
passed-over low zero vs h = ap (λ n. made_in_order n vs) none
  where
    none : 0 + low ≡ low
    none = omega arith
passed-over low (suc k) vs h =
    ap (λ n. made_in_order n vs) more
    ∙ order-last (k + low) vs
    ∙ ap (λ t. made_in_order (k + low) vs ++ (if t then (k + low) ∷ [] else [])) (h (k + low) (omega arith) (omega arith))
    ∙ append-nil (made_in_order (k + low) vs)
    ∙ passed-over low k vs (λ v l g. h v l (omega (arith, g)))
  where
    more : suc k + low ≡ suc (k + low)
    more = omega arith

pub passed-up-to :
    (low high : ℕ) (vs : List ℕ) → low ≤ high → ((v : ℕ) → low ≤ v → v < high → list_any (λ w. v == w) vs ≡ false)
    → made_in_order high vs ≡ made_in_order low vs
passed-up-to low high vs l h =
    ap (λ n. made_in_order n vs) (sym split) ∙ passed-over low (high - low) vs (λ v a b. h v a (omega (arith, b, split)))
  where
    split : high - low + low ≡ high
    split = omega (arith, l)

-- ---- a sorted list

-- a number below the first is below the second
under-second : (w : ℕ) (vs : List ℕ) (v : ℕ) → IsNonDecreasingBy (λ u. u) (w ∷ vs) → v < w → v < get_or vs 0 (suc v)
under-second w [] v up l = omega arith
under-second w (u ∷ vs) v up l = omega (arith, l, up 0 1 0 (omega arith) (omega arith))

-- and is none of the list
none-under : (vs : List ℕ) (v : ℕ) → IsNonDecreasingBy (λ u. u) vs → v < get_or vs 0 (suc v) → list_any (λ w. v == w) vs ≡ false
none-under [] v up l = refl
none-under (w ∷ vs) v up l =
    by (v == w) refl (none-under vs v (IsNonDecreasingBy-drop (λ u. u) 1 (w ∷ vs) up) (under-second w vs v up l))
  where
    by : (t : Bool) → (v == w) ≡ t → list_any (λ u. v == u) vs ≡ false → (t || list_any (λ u. v == u) vs) ≡ false
    by true e g = absurd (omega (arith, l, eqb-true v w e))
    by false e g = g

-- What a walk over a sorted list has found: the numbers below `next` that occur. Up to the limit, none from there on was passed.
pub record Found (limit : ℕ) (vs : List ℕ) (i next : ℕ) (found : List ℕ) : Type 0 where
  pub below : next ≤ limit
  pub same : found ≡ made_in_order next vs
  pub passed : (v : ℕ) → next ≤ v → v < limit → list_any (λ w. v == w) (take i vs) ≡ false

pub found-first : (limit : ℕ) (vs : List ℕ) → Found limit vs 0 0 []
found-first limit vs = record { below = omega arith; same = refl; passed = λ v l h. refl }

take-one : (vs : List ℕ) (i w : ℕ) → i < length vs → w ≡ get_or vs i w → take (i + 1) vs ≡ take i vs ++ w ∷ []
take-one vs i w h e = ap (λ k. take k vs) plus ∙ by vs i h e
  where
    plus : i + 1 ≡ suc i
    plus = omega arith

    by : (us : List ℕ) (j : ℕ) → j < length us → w ≡ get_or us j w → take (suc j) us ≡ take j us ++ w ∷ []
    by [] j g f = absurd (omega (arith, g))
    by (u ∷ us) zero g f = ap (λ x. x ∷ []) (sym f)
    by (u ∷ us) (suc j) g f = ap (λ xs. u ∷ xs) (by us j (omega (arith, g)) f)

-- one more is passed
one-passed :
    (vs : List ℕ) (i w v : ℕ) → i < length vs → w ≡ get_or vs i w → (v ≡ w → ⊥) → list_any (λ u. v == u) (take i vs) ≡ false
    → list_any (λ u. v == u) (take (i + 1) vs) ≡ false
one-passed vs i w v h e d p =
    ap (list_any (λ u. v == u)) (take-one vs i w h e)
    ∙ list_any-append (λ u. v == u) (take i vs) (w ∷ [])
    ∙ ap (λ t. t || ((v == w) || false)) p
    ∙ ap (λ t. t || false) (not-same v w d)

pub found-skip :
    (limit : ℕ) (vs : List ℕ) (i next w : ℕ) (found : List ℕ)
    → i < length vs → w ≡ get_or vs i w → limit ≤ w → Found limit vs i next found → Found limit vs (i + 1) next found
found-skip limit vs i next w found h e b f =
    record {
      below = f.below;
      same = f.same;
      passed = λ v l g. one-passed vs i w v h e (λ q. omega (arith, q, g, b)) (f.passed v l g);
    }

pub found-again :
    (limit : ℕ) (vs : List ℕ) (i next w : ℕ) (found : List ℕ)
    → i < length vs → w ≡ get_or vs i w → w < next → Found limit vs i next found → Found limit vs (i + 1) next found
found-again limit vs i next w found h e a f =
    record {
      below = f.below;
      same = f.same;
      passed = λ v l g. one-passed vs i w v h e (λ q. omega (arith, q, l, a)) (f.passed v l g);
    }

any-parts : (p : ℕ → Bool) (vs : List ℕ) (i : ℕ) → list_any p (take i vs) ≡ false → list_any p (drop i vs) ≡ false → list_any p vs ≡ false
any-parts p vs zero h k = k
any-parts p [] (suc i) h k = refl
any-parts p (v ∷ vs) (suc i) h k = by (p v) h (any-parts p vs i)
  where
    by :
        (t : Bool) → (t || list_any p (take i vs)) ≡ false
        → (list_any p (take i vs) ≡ false → list_any p (drop i vs) ≡ false → list_any p vs ≡ false) → (t || list_any p vs) ≡ false
    by true g f = cc
    by false g f = f g k

any-item : (vs : List ℕ) (i w : ℕ) → i < length vs → w ≡ get_or vs i w → list_any (λ u. w == u) vs ≡ true
any-item [] i w h e = absurd (omega (arith, h))
any-item (v ∷ vs) zero w h e = ap (λ t. t || list_any (λ u. w == u) vs) (eq-eqb w v e)
any-item (v ∷ vs) (suc i) w h e = by (w == v) (any-item vs i w (omega (arith, h)) e)
  where
    by : (t : Bool) → list_any (λ u. w == u) vs ≡ true → (t || list_any (λ u. w == u) vs) ≡ true
    by true g = refl
    by false g = g

pub found-more :
    (limit : ℕ) (vs : List ℕ) (i next w : ℕ) (found new : List ℕ)
    → IsNonDecreasingBy (λ u. u) vs → i < length vs → w ≡ get_or vs i w → next ≤ w → w < limit → new ≡ found ++ w ∷ []
    → Found limit vs i next found → Found limit vs (i + 1) (w + 1) new
found-more limit vs i next w found new up h e l b n f =
    record {
      below = omega (arith, b);
      same =
          n ∙ ap (λ us. us ++ w ∷ []) (f.same ∙ sym (passed-up-to next w vs l under))
          ∙ sym (ap (λ k. made_in_order k vs) plus ∙ order-last w vs ∙ ap (λ t. made_in_order w vs ++ (if t then w ∷ [] else [])) (any-item vs i w h e));
      passed = λ v a g. one-passed vs i w v h e (λ q. omega (arith, q, a)) (f.passed v (omega (arith, a, l)) g);
    }
  where
    plus : w + 1 ≡ suc w
    plus = omega arith

    under : (v : ℕ) → next ≤ v → v < w → list_any (λ u. v == u) vs ≡ false
    under v a g =
        any-parts (λ u. v == u) vs i (f.passed v a (omega (arith, g, b)))
        (none-under (drop i vs) v (IsNonDecreasingBy-drop (λ u. u) i vs up) first)
      where
        first : v < get_or (drop i vs) 0 (suc v)
        first = omega (arith, g, ap (λ us. get_or us 0 (suc v)) (drop-item vs i w h e))

pub found-all :
    (limit : ℕ) (vs : List ℕ) (i next : ℕ) (found : List ℕ) → length vs ≤ i → Found limit vs i next found → found ≡ made_in_order limit vs
found-all limit vs i next found h f =
    f.same ∙ sym (passed-up-to next limit vs f.below (λ v l g.
    any-parts (λ u. v == u) vs i (f.passed v l g) (ap (list_any (λ u. v == u)) (drop-all vs i h))))

-- the order doesn't depend on that of the list
pub order-of-sorted : (n : ℕ) (vs sorted found : List ℕ) → IsPermutation vs sorted → found ≡ made_in_order n sorted → found ≡ made_in_order n vs
order-of-sorted n vs sorted found p h =
    h ∙ sym (filter_agree _ _ (λ v. list_any-IsPermutation (λ w. v == w) vs sorted p) (numbers_from 0 n))
