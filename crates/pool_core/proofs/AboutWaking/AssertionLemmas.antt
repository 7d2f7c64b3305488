-- The assertions of registered clauses: which are there, and what comes with one more clause.
use Rattle.std.proofs.Common.{◌≡◌, ℕ, zero, suc, ◌+◌, ◌<◌, List, [], ◌∷◌, ◌++◌, map, length, append-nil, append_assoc, refl, ap, sym, ◌∙◌, arith}
use Rattle.std.specs.Prelude.{Option, Some, option_map, slice_get}
use Rattle.std.proofs.lemmas.Option.{none-some, same_Some, slice_get-map}
use Rattle.plain_types.specs.declared.sequence.NameLit.{NameLit}
use Rattle.plain_types.specs.Names.{negative_of}
use Rattle.fol_base.specs.Subsumption.{assertions}
use Rattle.pool_history.specs.Record.{Registered}
use Rattle.pool_core.specs.Asserting.{asserted_by, assertions_from}
use Rattle.pool_core.specs.declared.tag_index.Assertion.{Assertion}

-- the names of a clause of the bank are what it asserts
pub asserted-names : (ns : List ℕ) → assertions (map negative_of ns) ≡ ns
asserted-names [] = refl
asserted-names (n ∷ ns) = ap (λ (ms : List ℕ). n ∷ ms) (asserted-names ns)

-- ---- items of two lists

get-first : {X : Type 0} (xs ys : List X) (i : ℕ) (x : X) → slice_get xs i ≡ Some x → slice_get (xs ++ ys) i ≡ Some x
get-first [] ys i x there = absurd (none-some x there)
get-first (z ∷ zs) ys zero x there = there
get-first (z ∷ zs) ys (suc i) x there = get-first zs ys i x there

get-second : {X : Type 0} (xs ys : List X) (i : ℕ) (x : X) → slice_get ys i ≡ Some x → slice_get (xs ++ ys) (length xs + i) ≡ Some x
get-second [] ys i x there = ap (slice_get ys) (let e : 0 + i ≡ i = omega arith in e) ∙ there
get-second (z ∷ zs) ys i x there =
    ap (slice_get (z ∷ zs ++ ys)) (let e : length (z ∷ zs) + i ≡ suc (length zs + i) = omega arith in e) ∙ get-second zs ys i x there

-- ---- which assertions are there

pub assertion-there :
    (n : ℕ) (cs : List Registered) (k : ℕ) (c : Registered) (i tag : ℕ)
    → slice_get cs k ≡ Some c → slice_get (assertions c.clause.names) i ≡ Some tag
    → (place : ℕ) × (slice_get (assertions_from n cs) place ≡ Some (asserted_by (n + k) tag))
assertion-there n [] k c i tag there asserts = absurd (none-some c there)
assertion-there n (d ∷ ds) zero c i tag there asserts = (
  i,
  get-first (map (asserted_by n) (assertions d.clause.names)) (assertions_from (suc n) ds) i (asserted_by (n + 0) tag)
      (slice_get-map (asserted_by n) (assertions d.clause.names) i
      ∙ ap (λ (e : Registered). option_map (asserted_by n) (slice_get (assertions e.clause.names) i)) (same_Some d c there)
      ∙ ap (option_map (asserted_by n)) asserts
      ∙ ap (λ m. let o : Option Assertion = Some (asserted_by m tag) in o) (let e : n ≡ n + 0 = omega arith in e)),
)
assertion-there n (d ∷ ds) (suc k) c i tag there asserts =
    let rest = assertion-there (suc n) ds k c i tag there asserts in (
      length (map (asserted_by n) (assertions d.clause.names)) + rest.0,
      get-second (map (asserted_by n) (assertions d.clause.names)) (assertions_from (suc n) ds) rest.0 (asserted_by (n + suc k) tag)
          (rest.1 ∙ ap (λ m. let o : Option Assertion = Some (asserted_by m tag) in o) (let e : suc n + k ≡ n + suc k = omega arith in e)),
    )

-- each is of a registered clause
pub assertion-within : (n : ℕ) (cs : List Registered) (place : ℕ) (a : Assertion) → slice_get (assertions_from n cs) place ≡ Some a → a.number < n + length cs
assertion-within n [] place a there = absurd (none-some a there)
assertion-within n (c ∷ cs) place a there =
    by (λ at here. assertion-within (suc n) cs at a here) (assertions c.clause.names) place there
  where
    by :
        ((at : ℕ) → slice_get (assertions_from (suc n) cs) at ≡ Some a → a.number < suc n + length cs)
        → (ts : List ℕ) (place : ℕ) → slice_get (map (asserted_by n) ts ++ assertions_from (suc n) cs) place ≡ Some a → a.number < n + suc (length cs)
    by rest [] place there = let below = rest place there in omega (arith, below)
    by rest (t ∷ ts) zero there = let same : n ≡ a.number = ap (λ (b : Assertion). b.number) (same_Some (asserted_by n t) a there) in omega (arith, same)
    by rest (t ∷ ts) (suc place) there = by rest ts place there

-- ---- one more clause

pub assertions-more :
    (n : ℕ) (cs : List Registered) (c : Registered)
    → assertions_from n (cs ++ c ∷ []) ≡ assertions_from n cs ++ map (asserted_by (n + length cs)) (assertions c.clause.names)
assertions-more n [] c =
    append-nil (map (asserted_by n) (assertions c.clause.names))
    ∙ ap (λ m. map (asserted_by m) (assertions c.clause.names)) (let e : n ≡ n + 0 = omega arith in e)
assertions-more n (d ∷ ds) c =
    ap (λ (xs : List Assertion). map (asserted_by n) (assertions d.clause.names) ++ xs)
    (assertions-more (suc n) ds c
    ∙ ap (λ m. assertions_from (suc n) ds ++ map (asserted_by m) (assertions c.clause.names)) (let e : suc n + length ds ≡ n + suc (length ds) = omega arith in e))
    ∙ sym (append_assoc (map (asserted_by n) (assertions d.clause.names)) (assertions_from (suc n) ds)
    (map (asserted_by (n + suc (length ds))) (assertions c.clause.names)))

-- without names it asserts nothing
pub assertions-same : (n : ℕ) (cs : List Registered) (c : Registered) → c.clause.names ≡ [] → assertions_from n (cs ++ c ∷ []) ≡ assertions_from n cs
assertions-same n cs c none =
    assertions-more n cs c
    ∙ ap (λ (ns : List NameLit). assertions_from n cs ++ map (asserted_by (n + length cs)) (assertions ns)) none
    ∙ append-nil (assertions_from n cs)
