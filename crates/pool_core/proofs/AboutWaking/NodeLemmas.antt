-- The queue's pairs are of different registered clauses: so there are no more, and a clause that doesn't stand in the queue finds a node. What
-- becomes of the pairs where one clause was looked at anew.
use Rattle.std.proofs.Common.{◌≡◌, ℕ, zero, suc, ◌+◌, ◌<◌, ◌≤◌, Bool, true, false, not, ◌&&◌, ◌==◌, List, [], ◌∷◌, map, length, Contains, refl, ap, sym, ◌∙◌, inl, inr, ◌⊎◌, ⊎_elim, arith}
use Rattle.std.specs.Prelude.{cond, filter}
use Rattle.std.specs.List.{range_with_len, AllByRecursion}
use Rattle.std.proofs.lemmas.Bool.{true≢false, eqb-true, eq-eqb, cases_eq, false_from_ne_true}
use Rattle.fol_base.specs.Clause.{clause_size}
use Rattle.clause_queue.specs.Pairs.{with_pair, without, numbers, IsRising}
use Rattle.clause_queue.proofs.Numbers.{lacks_from}
use Rattle.clause_queue.proofs.PairsLemmas.{absent-without}
use Rattle.clause_queue.proofs.PutBack.{put_back_restores}
use Rattle.pool_history.specs.Record.{PoolRecord, clause_numbered, numbers_of}
use Rattle.pool_history.specs.Claiming.{pair_of}
use Rattle.pool_history.proofs.AboutRecords.EditLemmas.{filter-less, filter-pairs}
use Rattle.pool_history.proofs.AboutClaims.PickLemmas.{In, RiseFrom, filter-rises, contains-in, number-in}

-- ---- how many there are

pub no-more : {X : Type 0} (f : ℕ → X) (p : ℕ → Bool) (from count : ℕ) → length (map f (filter p (range_with_len from count))) ≤ count
no-more f p from zero = omega arith
no-more {X} f p from (suc count) = by (p from) (no-more f p (from + 1) count)
  where
    rest : List ℕ
    rest = filter p (range_with_len (from + 1) count)

    by : (b : Bool) → length (map f rest) ≤ count → length (map f (cond b (from ∷ rest) rest)) ≤ suc count
    by true few = omega (arith, few)
    by false few = omega (arith, few)

-- one less where one doesn't pass
pub one-fewer :
    {X : Type 0} (f : ℕ → X) (p : ℕ → Bool) (n from count : ℕ)
    → p n ≡ false → from ≤ n → n < from + count → length (map f (filter p (range_with_len from count))) + 1 ≤ count
one-fewer f p n from zero fails above below = absurd (omega (arith, above, below))
one-fewer {X} f p n from (suc count) fails above below =
    ⊎_elim here (later (λ above below. one-fewer f p n (from + 1) count fails above below)) (cases_eq n from)
  where
    rest : List ℕ
    rest = filter p (range_with_len (from + 1) count)

    here : n ≡ from → length (map f (cond (p from) (from ∷ rest) rest)) + 1 ≤ suc count
    here same =
        let gone : length (map f (cond (p from) (from ∷ rest) rest)) ≡ length (map f rest) = ap (λ b. length (map f (cond b (from ∷ rest) rest))) (ap p (sym same) ∙ fails) in
        let few : length (map f rest) ≤ count = no-more f p (from + 1) count in
        omega (arith, gone, few)

    later :
        (from + 1 ≤ n → n < from + 1 + count → length (map f rest) + 1 ≤ count)
        → (n ≡ from → ⊥) → length (map f (cond (p from) (from ∷ rest) rest)) + 1 ≤ suc count
    later fewer other = by (p from) (fewer (omega (arith, above, other)) (omega (arith, below)))
      where
        by : (b : Bool) → length (map f rest) + 1 ≤ count → length (map f (cond b (from ∷ rest) rest)) + 1 ≤ suc count
        by true few = omega (arith, few)
        by false few = omega (arith, few)

-- a number that passes is in the filter
pub passes-in : (p : ℕ → Bool) (m from count : ℕ) → p m ≡ true → from ≤ m → m < from + count → In m (filter p (range_with_len from count))
passes-in p m from zero is above below = absurd (omega (arith, above, below))
passes-in p m from (suc count) is above below =
    by (p from) refl (λ more. passes-in p m (from + 1) count is more (omega (arith, below)))
  where
    at-or-above : (m ≡ from) ⊎ (from + 1 ≤ m)
    at-or-above = ⊎_elim (λ (e : m ≡ from). inl e) (λ (ne : m ≡ from → ⊥). inr (omega (arith, ne, above))) (cases_eq m from)

    by :
        (b : Bool) → p from ≡ b → (from + 1 ≤ m → In m (filter p (range_with_len (from + 1) count)))
        → In m (cond b (from ∷ filter p (range_with_len (from + 1) count)) (filter p (range_with_len (from + 1) count)))
    by true here rest = ⊎_elim (λ (e : m ≡ from). inl e) (λ (more : from + 1 ≤ m). inr (rest more)) at-or-above
    by false here rest = rest (let other : m ≡ from → ⊥ = (λ (e : m ≡ from). true≢false (sym is ∙ ap p e ∙ here)) in omega (arith, other, above))

-- ---- the pairs of a record's clauses

and-same : (e x y : Bool) → (e ≡ false → x ≡ y) → (x && not e) ≡ (y && not e)
and-same true x y same = none x ∙ sym (none y)
  where
    none : (b : Bool) → (b && false) ≡ false
    none true = refl
    none false = refl
and-same false x y same = ap (λ b. b && true) (same refl)

and-fails : (e x : Bool) → (e ≡ true → x ≡ false) → x ≡ (x && not e)
and-fails true x fails = fails refl ∙ sym (none x)
  where
    none : (b : Bool) → (b && false) ≡ false
    none true = refl
    none false = refl
and-fails false true fails = refl
and-fails false false fails = refl

module _ (r : PoolRecord) where
  abbrev pub pairs_by : (ℕ → Bool) → List (ℕ × ℕ)
  pairs_by p = map (pair_of r) (filter p (numbers_of r))

  abbrev others : ℕ → ℕ → Bool
  others n k = not (k == n)

  without-as : (p : ℕ → Bool) (n : ℕ) → without n (pairs_by p) ≡ map (pair_of r) (filter (others n) (filter p (numbers_of r)))
  without-as p n = filter-pairs (λ k. clause_size (clause_numbered r k)) (others n) (filter p (numbers_of r))

  -- the other pairs of tests that agree but at one number
  pub same-others : (p q : ℕ → Bool) (n : ℕ) → ((k : ℕ) → (k == n) ≡ false → p k ≡ q k) → without n (pairs_by p) ≡ without n (pairs_by q)
  same-others p q n agree =
      without-as p n
      ∙ ap (map (pair_of r))
      (sym (filter-less p (λ k. p k && not (k == n)) n (numbers_of r) (λ k. refl))
      ∙ filter-less q (λ k. p k && not (k == n)) n (numbers_of r) (λ k. and-same (k == n) (p k) (q k) (agree k)))
      ∙ sym (without-as q n)

  -- a clause that fails stands in no pair
  pub left-out : (p : ℕ → Bool) (n : ℕ) → p n ≡ false → without n (pairs_by p) ≡ pairs_by p
  left-out p n fails =
      without-as p n
      ∙ ap (map (pair_of r))
      (sym (filter-less p p n (numbers_of r) (λ k. and-fails (k == n) (p k) (λ e. ap p (eqb-true k n e) ∙ fails))))

  pairs-rise : (low : ℕ) (ns : List ℕ) → RiseFrom low ns → AllByRecursion (λ (q : ℕ × ℕ). low ≤ q.0) (map (pair_of r) ns) × IsRising (map (pair_of r) ns)
  pairs-rise low [] rise = (tt, tt)
  pairs-rise low (n ∷ ns) rise =
      let rest = pairs-rise (suc n) ns rise.1 in
      ((rise.0, lower (suc n) low (map (pair_of r) ns) (omega (arith, rise.0)) rest.0), (strictly n (map (pair_of r) ns) rest.0, rest.1))
    where
      lower : (high low : ℕ) (qs : List (ℕ × ℕ)) → low ≤ high → AllByRecursion (λ (q : ℕ × ℕ). high ≤ q.0) qs → AllByRecursion (λ (q : ℕ × ℕ). low ≤ q.0) qs
      lower high low [] less all = tt
      lower high low (q ∷ qs) less all = (omega (arith, less, all.0), lower high low qs less all.1)

      strictly : (n : ℕ) (qs : List (ℕ × ℕ)) → AllByRecursion (λ (q : ℕ × ℕ). suc n ≤ q.0) qs → AllByRecursion (λ (q : ℕ × ℕ). n < q.0) qs
      strictly n [] all = tt
      strictly n (q ∷ qs) all = (omega (arith, all.0), strictly n qs all.1)

  -- one that passes stands in its place
  pub put-in : (p : ℕ → Bool) (n : ℕ) → p n ≡ true → n < length r.registered → with_pair (pair_of r n) (without n (pairs_by p)) ≡ pairs_by p
  put-in p n passes below =
      put_back_restores (pair_of r n) (pairs_by p) (pairs-rise 0 (filter p (numbers_of r)) (filter-rises p 0 (length r.registered))).1
      (contains-in r n (filter p (numbers_of r)) (passes-in p n 0 (length r.registered) passes (omega arith) (omega (arith, below))))

  -- ---- nodes

  -- there are no more pairs than clauses
  pub few-pairs : (p : ℕ → Bool) → length (pairs_by p) ≤ length r.registered
  few-pairs p = no-more (pair_of r) p 0 (length r.registered)

  -- and fewer without one
  pub fewer-without : (p : ℕ → Bool) (n : ℕ) → n < length r.registered → length (without n (pairs_by p)) + 1 ≤ length r.registered
  fewer-without p n below =
      let fails : (p n && not (n == n)) ≡ false = by (p n) (n == n) (eq-eqb n n refl) in
      let few : length (map (pair_of r) (filter (λ k. p k && not (k == n)) (numbers_of r))) + 1 ≤ length r.registered =
      one-fewer (pair_of r) (λ k. p k && not (k == n)) n 0 (length r.registered) fails (omega arith) (omega (arith, below)) in
      let same : length (without n (pairs_by p)) ≡ length (map (pair_of r) (filter (λ k. p k && not (k == n)) (numbers_of r))) =
      ap length (without-as p n ∙ ap (map (pair_of r)) (sym (filter-less p (λ k. p k && not (k == n)) n (numbers_of r) (λ k. refl)))) in
      omega (arith, few, same)
    where
      by : (b e : Bool) → e ≡ true → (b && not e) ≡ false
      by true e is = ap not is
      by false e is = refl

  -- a clause that isn't there fails the test
  pub absent-fails : (p : ℕ → Bool) (n : ℕ) → n < length r.registered → (Contains (numbers (pairs_by p)) n → ⊥) → p n ≡ false
  absent-fails p n below lacks =
      false_from_ne_true (p n) (λ passes.
      lacks (number-in r n (filter p (numbers_of r)) (passes-in p n 0 (length r.registered) passes (omega arith) (omega (arith, below)))))

pub none-without : (n : ℕ) (ps : List (ℕ × ℕ)) → Contains (numbers (without n ps)) n → ⊥
none-without n ps = lacks_from n (without n ps) (absent-without n ps)
