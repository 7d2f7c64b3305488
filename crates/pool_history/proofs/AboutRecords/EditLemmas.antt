-- Lists after one change: an element set or added, a key inserted or removed, a number more or less.
use Rattle.std.proofs.Common.{◌≡◌, ℕ, zero, suc, ◌+◌, ◌<◌, ◌≤◌, Bool, true, false, not, ◌&&◌, ◌==◌, List, [], ◌∷◌, ◌++◌, map, length, refl, ap, ap₂, sym, ◌∙◌, inl, inr, ◌⊎◌, ⊎_elim, arith}
use Rattle.std.specs.Prelude.{None, Some, cond, nat_lt, slice_get, filter, find, option_map, position}
use Rattle.std.specs.List.{range_with_len}
use Rattle.std.specs.Ordering.{nat_cmp, is_eq, match_ordering}
use Rattle.std.specs.BTreeMap.{insert_entry, is_at}
use Rattle.std.specs.Map.{remove_entry, lookup}
use Rattle.std.specs.declared.cmp.Ordering.TheVariants.{Less, Equal, Greater}
use Rattle.std.proofs.Math.ListN.{set}
use Rattle.std.proofs.lemmas.Bool.{le-ltb, ltb-true, eq-eqb, ne_eqb, eqb-true, cond-true, cond-false, true≢false}
use Rattle.std.proofs.lemmas.List.{length-set}
use Rattle.std.proofs.lemmas.List.Folds.{position_or_len-set}
use Rattle.std.proofs.lemmas.Option.{none-some, same_Some, get_or_from_slice_get}

-- ---- an element that is set

-- what stands there afterwards
pub at-set :
    {X : Type 0} (xs : List X) (n : ℕ) (y : X) (k : ℕ) (z : X)
    → slice_get (set xs n y) k ≡ Some z → ((k ≡ n) × (y ≡ z)) ⊎ ((k ≡ n → ⊥) × (slice_get xs k ≡ Some z))
at-set [] n y k z there = absurd (none-some z there)
at-set (x ∷ xs) zero y zero z there = inl (refl, same_Some y z there)
at-set (x ∷ xs) zero y (suc k) z there = inr ((λ e. absurd (omega (arith, e))), there)
at-set (x ∷ xs) (suc n) y zero z there = inr ((λ e. absurd (omega (arith, e))), there)
at-set (x ∷ xs) (suc n) y (suc k) z there = by (at-set xs n y k z there)
  where
    by : ((k ≡ n) × (y ≡ z)) ⊎ ((k ≡ n → ⊥) × (slice_get xs k ≡ Some z)) → ((suc k ≡ suc n) × (y ≡ z)) ⊎ ((suc k ≡ suc n → ⊥) × (slice_get xs k ≡ Some z))
    by (inl h) = inl (ap suc h.0, h.1)
    by (inr h) = inr ((λ e. h.0 (omega (arith, e))), h.1)

-- an element that passes the test as the old one does
pub position-set :
    {X : Type 0} (p : X → Bool) (xs : List X) (n : ℕ) (x y : X)
    → slice_get xs n ≡ Some x → p y ≡ p x → position p (set xs n y) ≡ position p xs
position-set p xs n x y there same =
    ap₂ (λ k len. cond (nat_lt k len) (Some k) None)
    (position_or_len-set p xs n y x (same ∙ ap p (sym (get_or_from_slice_get xs n x x there)))) (length-set xs n y)

-- ---- one more

pub get-end : {X : Type 0} (xs : List X) (x z : X) (k : ℕ) → slice_get (xs ++ x ∷ []) k ≡ Some z → (slice_get xs k ≡ Some z) ⊎ ((k ≡ length xs) × (x ≡ z))
get-end [] x z zero there = inr (refl, same_Some x z there)
get-end [] x z (suc k) there = absurd (none-some z there)
get-end (y ∷ ys) x z zero there = inl there
get-end (y ∷ ys) x z (suc k) there =
    ⊎_elim (λ before. inl before) (λ (last : (k ≡ length ys) × (x ≡ z)). inr (ap suc last.0, last.1)) (get-end ys x z k there)

-- the one in the middle
pub get-middle : {X : Type 0} (xs : List X) (x : X) (ys : List X) → slice_get (xs ++ x ∷ ys) (length xs) ≡ Some x
get-middle [] x ys = refl
get-middle (z ∷ zs) x ys = get-middle zs x ys

-- ---- filters of numbers

-- all but one of those that pass
pub filter-less :
    (p q : ℕ → Bool) (n : ℕ) (ns : List ℕ)
    → ((k : ℕ) → q k ≡ (p k && not (k == n))) → filter q ns ≡ filter (λ k. not (k == n)) (filter p ns)
filter-less p q n [] each = refl
filter-less p q n (k ∷ ks) each =
    ap (λ b. cond b (k ∷ filter q ks) (filter q ks)) (each k)
    ∙ by (p k) (filter-less p q n ks each)
  where
    by :
        (b : Bool) → filter q ks ≡ filter (λ k. not (k == n)) (filter p ks)
        → cond (b && not (k == n)) (k ∷ filter q ks) (filter q ks) ≡ filter (λ k. not (k == n)) (cond b (k ∷ filter p ks) (filter p ks))
    by true rest = ap (λ xs. cond (not (k == n)) (k ∷ xs) xs) rest
    by false rest = rest

-- pairs by their numbers
pub filter-pairs :
    (w : ℕ → ℕ) (q : ℕ → Bool) (ns : List ℕ)
    → filter (λ (p : ℕ × ℕ). q p.0) (map (λ k. let p : ℕ × ℕ = (k, w k) in p) ns) ≡ map (λ k. let p : ℕ × ℕ = (k, w k) in p) (filter q ns)
filter-pairs w q [] = refl
filter-pairs w q (n ∷ ns) = by (q n) (filter-pairs w q ns)
  where
    f : ℕ → ℕ × ℕ
    f k = (k, w k)

    by :
        (b : Bool)
        → filter (λ (p : ℕ × ℕ). q p.0) (map (λ k. let p : ℕ × ℕ = (k, w k) in p) ns) ≡ map (λ k. let p : ℕ × ℕ = (k, w k) in p) (filter q ns)
        → cond b ((n, w n) ∷ filter (λ (p : ℕ × ℕ). q p.0) (map (λ k. let p : ℕ × ℕ = (k, w k) in p) ns)) (filter (λ (p : ℕ × ℕ). q p.0) (map (λ k. let p : ℕ × ℕ = (k, w k) in p) ns))
        ≡ map (λ k. let p : ℕ × ℕ = (k, w k) in p) (cond b (n ∷ filter q ns) (filter q ns))
    by true rest = ap (λ xs. let p : ℕ × ℕ = (n, w n) in p ∷ xs) rest
    by false rest = rest

-- ---- entries by rising numbers

pub eq-sym : (n m : ℕ) → (n == m) ≡ (m == n)
eq-sym n m = by (n == m) (m == n) refl refl
  where
    by : (b c : Bool) → (n == m) ≡ b → (m == n) ≡ c → b ≡ c
    by true true p q = refl
    by true false p q = absurd (true≢false (sym (eq-eqb m n (sym (eqb-true n m p))) ∙ q))
    by false true p q = absurd (true≢false (sym (eq-eqb n m (sym (eqb-true m n q))) ∙ p))
    by false false p q = refl

module _ {J V : Type 0} (key : J → ℕ) (value : J → V) where
  abbrev pub entry_of : J → ℕ × V
  entry_of j = (key j, value j)

  -- the numbers rise, above the first one and up to the second
  abbrev pub RisingBy : ℕ → ℕ → List J → Type 0
  RisingBy low high [] = low ≤ high
  RisingBy low high (j ∷ js) = (low < key j) × RisingBy (key j) high js

  rising_by-bound : (low high : ℕ) (js : List J) → RisingBy low high js → low ≤ high
  rising_by-bound low high [] rise = rise
  rising_by-bound low high (j ∷ js) rise = omega (arith, rise.0, rising_by-bound (key j) high js rise.1)

  greater : (n m : ℕ) → m < n → {X : Type 0} (a b c : X) → match_ordering (nat_cmp n m) a b c ≡ c
  greater n m above {X} a b c =
      ap (λ o. match_ordering o a b c) (cond-false (nat_lt n m) _ _ (le-ltb n m (omega (arith, above))) ∙ cond-false (n == m) _ _ (ne_eqb n m (λ e. absurd (omega (arith, e, above)))))

  -- a number above all comes last
  pub insert-last :
      (low high n : ℕ) (v : V) (js : List J)
      → RisingBy low high js → high < n → insert_entry nat_cmp (map entry_of js) n v ≡ map entry_of js ++ (n, v) ∷ []
  insert-last low high n v [] rise above = refl
  insert-last low high n v (j ∷ js) rise above =
      greater n (key j) (omega (arith, above, rising_by-bound (key j) high js rise.1)) _ _ _
      ∙ ap (λ es. entry_of j ∷ es) (insert-last (key j) high n v js rise.1 above)

  is_at-eq : (n m : ℕ) → is_at (nat_cmp n) m ≡ (n == m)
  is_at-eq n m = by (nat_lt n m) (n == m) refl refl
    where
      by : (b c : Bool) → nat_lt n m ≡ b → (n == m) ≡ c → is_eq (cond b Less (cond c Equal Greater)) ≡ c
      by true true less same =
          let below : n < m = ltb-true n m less in
          let equal : n ≡ m = eqb-true n m same in
          absurd (omega (arith, below, equal))
      by true false less same = refl
      by false true less same = refl
      by false false less same = refl

  abbrev other : ℕ → J → Bool
  other n j = not (key j == n)

  keeps-above : (low high n : ℕ) (js : List J) → n ≤ low → RisingBy low high js → filter (other n) js ≡ js
  keeps-above low high n [] below rise = refl
  keeps-above low high n (j ∷ js) below rise =
      cond-true (other n j) _ _ (ap not (ne_eqb (key j) n (λ e. absurd (omega (arith, e, below, rise.0)))))
      ∙ ap (λ ks. j ∷ ks) (keeps-above (key j) high n js (omega (arith, below, rise.0)) rise.1)

  -- the entry of a number goes
  pub remove-filter :
      (low high n : ℕ) (js : List J)
      → RisingBy low high js → remove_entry (is_at (nat_cmp n)) (map entry_of js) ≡ map entry_of (filter (other n) js)
  remove-filter low high n [] rise = refl
  remove-filter low high n (j ∷ js) rise =
      ap (λ b. cond b (map entry_of js) (entry_of j ∷ remove_entry (is_at (nat_cmp n)) (map entry_of js))) (is_at-eq n (key j) ∙ eq-sym n (key j))
      ∙ by (key j == n) refl (remove-filter (key j) high n js rise.1)
    where
      by :
          (b : Bool) → (key j == n) ≡ b → remove_entry (is_at (nat_cmp n)) (map entry_of js) ≡ map entry_of (filter (other n) js)
          → cond b (map entry_of js) (entry_of j ∷ remove_entry (is_at (nat_cmp n)) (map entry_of js)) ≡ map entry_of (cond (not b) (j ∷ filter (other n) js) (filter (other n) js))
      by true is rest =
          let same : key j ≡ n = eqb-true (key j) n is in
          ap (map entry_of) (sym (keeps-above (key j) high n js (omega (arith, same)) rise.1))
      by false is rest = ap (λ es. entry_of j ∷ es) rest

  -- the value of a number
  pub lookup-find :
      (low high n : ℕ) (js : List J)
      → RisingBy low high js → lookup (is_at (nat_cmp n)) (map entry_of js) ≡ option_map value (find (λ j. key j == n) js)
  lookup-find low high n [] rise = refl
  lookup-find low high n (j ∷ js) rise =
      ap (λ b. cond b (Some (value j)) (lookup (is_at (nat_cmp n)) (map entry_of js))) (is_at-eq n (key j) ∙ eq-sym n (key j))
      ∙ by (key j == n) (lookup-find (key j) high n js rise.1)
    where
      by :
          (b : Bool) → lookup (is_at (nat_cmp n)) (map entry_of js) ≡ option_map value (find (λ j. key j == n) js)
          → cond b (Some (value j)) (lookup (is_at (nat_cmp n)) (map entry_of js)) ≡ option_map value (cond b (Some j) (find (λ j. key j == n) js))
      by true rest = refl
      by false rest = rest

-- ---- ranges

-- one number more
pub filter-more :
    (p : ℕ → Bool) (from count : ℕ)
    → filter p (range_with_len from (suc count)) ≡ filter p (range_with_len from count) ++ cond (p (from + count)) ((from + count) ∷ []) []
filter-more p from zero = ap (λ k. cond (p k) (k ∷ []) []) (let e : from ≡ from + 0 = omega arith in e)
filter-more p from (suc count) =
    by (p from)
    (filter-more p (from + 1) count
    ∙ ap (λ k. filter p (range_with_len (from + 1) count) ++ cond (p k) (k ∷ []) []) (let e : from + 1 + count ≡ from + suc count = omega arith in e))
  where
    by :
        (b : Bool)
        → filter p (range_with_len (from + 1) (suc count)) ≡ filter p (range_with_len (from + 1) count) ++ cond (p (from + suc count)) ((from + suc count) ∷ []) []
        → cond b (from ∷ filter p (range_with_len (from + 1) (suc count))) (filter p (range_with_len (from + 1) (suc count)))
        ≡ cond b (from ∷ filter p (range_with_len (from + 1) count)) (filter p (range_with_len (from + 1) count)) ++ cond (p (from + suc count)) ((from + suc count) ∷ []) []
    by true rest = ap (λ xs. from ∷ xs) rest
    by false rest = rest
