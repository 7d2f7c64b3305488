-- The clause that a queue picks is the one that is given next.
use Rattle.std.proofs.Common.{◌≡◌, ℕ, zero, suc, ◌+◌, ◌<◌, ◌≤◌, Bool, true, false, ◌&&◌, List, [], ◌∷◌, map, length, get_or, refl, ap, sym, ◌∙◌, subst, inl, inr, ◌⊎◌, ⊎_elim, arith}
use Rattle.std.specs.Prelude.{Option, None, Some, cond, nat_lt, filter, All, Contains, IfSome, IsNone, ◌==◌, ◌↔◌, ◌%◌}
use Rattle.std.specs.List.{best_of, range_with_len}
use Rattle.std.proofs.lemmas.Bool.{ltb-true, ltb-false, cond-true, cond-false, eq-eqb, ne_eqb}
use Rattle.std.proofs.lemmas.List.Elements.{All-nil, All-cons}
use Rattle.std.proofs.lemmas.Option.{none-some, same_Some}
use Rattle.fol_base.specs.Clause.{clause_size}
use Rattle.clause_queue.specs.Order.{IsNoHeavier}
use Rattle.clause_queue.specs.Pairs.{numbers}
use Rattle.clause_queue.specs.Pick.{IsPick}
use Rattle.clause_queue.specs.declared.choice.Choice.{Choice}
use Rattle.clause_queue.specs.declared.choice.Choice.TheVariants.{Light, Old}
use Rattle.clause_queue.proofs.Numbers.{pick_unique}
use Rattle.pool_history.specs.Record.{PoolRecord, clause_numbered, waits, is_awake}
use Rattle.pool_history.specs.Claiming.{ready, picked, next_choice, next_given, is_lighter, pair_of}
use Rattle.pool_history.specs.Laws.{PicksAreChosen}

-- ---- numbers that rise

abbrev pub RiseFrom : ℕ → List ℕ → Type 0
RiseFrom low [] = Unit {0}
RiseFrom low (n ∷ ns) = (low ≤ n) × RiseFrom (suc n) ns

rise-lower : (low lower : ℕ) (ns : List ℕ) → lower ≤ low → RiseFrom low ns → RiseFrom lower ns
rise-lower low lower [] less rise = tt
rise-lower low lower (n ∷ ns) less rise = (omega (arith, less, rise.0), rise.1)

pub filter-rises : (p : ℕ → Bool) (from count : ℕ) → RiseFrom from (filter p (range_with_len from count))
filter-rises p from zero = tt
filter-rises p from (suc count) = by (p from) (filter-rises p (from + 1) count)
  where
    by :
        (b : Bool) → RiseFrom (from + 1) (filter p (range_with_len (from + 1) count))
        → RiseFrom from (cond b (from ∷ filter p (range_with_len (from + 1) count)) (filter p (range_with_len (from + 1) count)))
    by true rest = (omega arith, rise-lower (from + 1) (suc from) (filter p (range_with_len (from + 1) count)) (omega arith) rest)
    by false rest = rise-lower (from + 1) from (filter p (range_with_len (from + 1) count)) (omega arith) rest

-- ---- members

abbrev pub In : ℕ → List ℕ → Type 0
In m [] = ⊥
In m (n ∷ ns) = (m ≡ n) ⊎ In m ns

module _ (r : PoolRecord) where
  abbrev w : ℕ → ℕ
  w n = clause_size (clause_numbered r n)

  -- no heavier than another
  abbrev Light-as : ℕ → ℕ → Type 0
  Light-as m n = (w m ≤ w n) × (w m ≡ w n → m ≤ n)

  abbrev Lightest : ℕ → List ℕ → Type 0
  Lightest m [] = Unit {0}
  Lightest m (n ∷ ns) = Light-as m n × Lightest m ns

  tied : (n x m : ℕ) → Light-as m n → w n ≤ w x → suc n ≤ x → w m ≡ w x → m ≤ x
  tied n x m at more above e =
      let low = at.0 in
      let same : w m ≡ w n = omega (arith, low, more, e) in
      let below : m ≤ n = at.1 same in
      omega (arith, below, above)

  best : (n : ℕ) (ns : List ℕ) → RiseFrom (suc n) ns → let m = best_of (is_lighter r) n ns in Light-as m n × Lightest m ns × ((m ≡ n) ⊎ In m ns)
  best n [] rise = ((omega arith, λ e. omega arith), tt, inl refl)
  best n (x ∷ xs) rise =
      by (nat_lt (w x) (w n)) refl (best x xs rise.1) (best n xs (rise-lower (suc x) (suc n) xs (omega (arith, rise.0)) rise.1))
    where
      by :
          (b : Bool) → nat_lt (w x) (w n) ≡ b
          → (let m = best_of (is_lighter r) x xs in Light-as m x × Lightest m xs × ((m ≡ x) ⊎ In m xs))
          → (let m = best_of (is_lighter r) n xs in Light-as m n × Lightest m xs × ((m ≡ n) ⊎ In m xs))
          → let m = best_of (is_lighter r) (cond b x n) xs in Light-as m n × (Light-as m x × Lightest m xs) × ((m ≡ n) ⊎ ((m ≡ x) ⊎ In m xs))
      by true is new old =
          let less : w x < w n = ltb-true (w x) (w n) is in
          let m : ℕ = best_of (is_lighter r) x xs in (
            (let at = new.0.0 in omega (arith, at, less), λ e. absurd (let at = new.0.0 in omega (arith, at, less, e))),
            (new.0, new.1),
            inr new.2,
          )
      by false is new old =
          let more : w n ≤ w x = ltb-false (w x) (w n) is in
          let above = rise.0 in (
            old.0,
            ((let at = old.0.0 in omega (arith, at, more), λ e. tied n x (best_of (is_lighter r) n xs) old.0 more above e), old.1),
            ⊎_elim (λ here. inl here) (λ later. inr (inr later)) old.2,
          )

-- ---- the pick

pub contains-in : (r : PoolRecord) (m : ℕ) (ns : List ℕ) → In m ns → Contains (map (pair_of r) ns) (pair_of r m)
contains-in r m [] there = absurd there
contains-in r m (n ∷ ns) (inl here) = Contains-from (map (pair_of r) (n ∷ ns)) 0 (pair_of r m) (omega arith) (ap (pair_of r) (sym here))
  where
    Contains-from : (ps : List (ℕ × ℕ)) (k : ℕ) (p : ℕ × ℕ) → k < length ps → get_or ps k p ≡ p → Contains ps p
    Contains-from ps k p below is = (k, below, is)
contains-in r m (n ∷ ns) (inr later) =
    let rest = contains-in r m ns later in
    (suc rest.0, (let b = rest.1 in omega (arith, b)), rest.2)

pub number-in : (r : PoolRecord) (m : ℕ) (ns : List ℕ) → In m ns → Contains (numbers (map (pair_of r) ns)) m
number-in r m [] there = absurd there
number-in r m (n ∷ ns) (inl here) = (0, omega arith, sym here)
number-in r m (n ∷ ns) (inr later) = let rest = number-in r m ns later in (suc rest.0, (let below = rest.1 in omega (arith, below)), rest.2)

all-lightest : (r : PoolRecord) (m : ℕ) (ns : List ℕ) → Lightest r m ns → All (λ q. IsNoHeavier (pair_of r m) q) (map (pair_of r) ns)
all-lightest r m [] light = All-nil (λ q. IsNoHeavier (pair_of r m) q)
all-lightest r m (n ∷ ns) light = All-cons (λ q. IsNoHeavier (pair_of r m) q) (pair_of r n) (map (pair_of r) ns) light.0 (all-lightest r m ns light.1)

all-above : (r : PoolRecord) (low : ℕ) (ns : List ℕ) → RiseFrom low ns → All (λ (q : ℕ × ℕ). low ≤ q.0) (map (pair_of r) ns)
all-above r low [] rise = All-nil (λ (q : ℕ × ℕ). low ≤ q.0)
all-above r low (n ∷ ns) rise =
    All-cons (λ (q : ℕ × ℕ). low ≤ q.0) (pair_of r n) (map (pair_of r) ns) rise.0
    (all-above r low ns (rise-lower (suc n) low ns (omega (arith, rise.0)) rise.1))

abbrev picks-well : PoolRecord → Choice → List ℕ → Type 0
picks-well r choice ns = (m : ℕ) × (picked r choice ns ≡ Some m) × IsPick choice (map (pair_of r) ns) m

some-pick : (r : PoolRecord) (choice : Choice) (n : ℕ) (ns : List ℕ) → RiseFrom 0 (n ∷ ns) → picks-well r choice (n ∷ ns)
some-pick r Light n ns rise =
    let m : ℕ = best_of (is_lighter r) n ns in
    let found = best r n ns rise.1 in
    (m, refl, (clause_size (clause_numbered r m), contains-in r m (n ∷ ns) found.2, all-lightest r m (n ∷ ns) (found.0, found.1)))
some-pick r Old n ns rise = (
  n,
  refl,
  (
    (0, omega arith, refl),
    All-cons (λ (q : ℕ × ℕ). n ≤ q.0) (pair_of r n) (map (pair_of r) ns) (omega arith)
        (all-above r n ns (rise-lower (suc n) n ns (omega arith) rise.1)),
  ),
)

-- what is given is ready
pub given-in : (r : PoolRecord) (n : ℕ) → next_given r ≡ Some n → In n (ready r)
given-in r n next = by (next_choice r) (ready r) (filter-rises (λ k. waits r k && is_awake r k) 0 (length r.registered)) next
  where
    by : (choice : Choice) (ns : List ℕ) → RiseFrom 0 ns → picked r choice ns ≡ Some n → In n ns
    by choice [] rise none = absurd (none-some n none)
    by Light (k ∷ ks) rise found = subst (λ m. In m (k ∷ ks)) (same_Some (best_of (is_lighter r) k ks) n found) (best r k ks rise.1).2
    by Old (k ∷ ks) rise found = inl (sym (same_Some k n found))

no-pick : (choice : Choice) (n : ℕ) → IsPick choice [] n → ⊥
no-pick Light n pick = let there = (pick.1).1 in absurd (omega (arith, there))
no-pick Old n pick = let there = (pick.0).1 in absurd (omega (arith, there))

-- what a queue of those that are ready picks is given next
pub pick-is-given :
    (r : PoolRecord) (pairs : List (ℕ × ℕ)) (choice : Choice) (n : ℕ)
    → pairs ≡ map (pair_of r) (ready r) → choice ≡ next_choice r → IsPick choice pairs n → next_given r ≡ Some n
pick-is-given r pairs choice n are is pick =
    by (ready r) (filter-rises (λ k. waits r k && is_awake r k) 0 (length r.registered)) (subst (λ ps. IsPick choice ps n) are pick)
    ∙ refl
  where
    by : (ns : List ℕ) → RiseFrom 0 ns → IsPick choice (map (pair_of r) ns) n → picked r (next_choice r) ns ≡ Some n
    by [] rise pick = absurd (no-pick choice n pick)
    by (k ∷ ks) rise pick =
        let found = some-pick r choice k ks rise in
        ap (λ c. picked r c (k ∷ ks)) (sym is) ∙ found.1
        ∙ ap (λ (m : ℕ). let o : Option ℕ = Some m in o) (pick_unique choice (map (pair_of r) (k ∷ ks)) found.0 n found.2 pick)

-- the same of an answer that may be none
pub peek-is-given :
    (r : PoolRecord) (pairs : List (ℕ × ℕ)) (choice : Choice) (o : Option ℕ)
    → pairs ≡ map (pair_of r) (ready r) → choice ≡ next_choice r → IfSome o (IsPick choice pairs) → (IsNone o ↔ (pairs ≡ [])) → o ≡ next_given r
peek-is-given r pairs choice (Some n) are is pick none = sym (pick-is-given r pairs choice n are is pick)
peek-is-given r pairs choice None are is pick none = by (ready r) (none.0 refl) are
  where
    by : (ns : List ℕ) → pairs ≡ [] → pairs ≡ map (pair_of r) ns → None ≡ picked r (next_choice r) ns
    by [] empty are = refl
    by (k ∷ ks) empty are = absurd (let e : ◌≡◌ {A = ℕ} 0 (suc (length (map (pair_of r) ks))) = ap length (sym empty ∙ are) in omega (arith, e))

pub picks_are_chosen : PicksAreChosen
picks_are_chosen r n next = by (next_choice r) (ready r) (filter-rises (λ k. waits r k && is_awake r k) 0 (length r.registered)) next
  where
    by : (choice : Choice) (ns : List ℕ) → RiseFrom 0 ns → picked r choice ns ≡ Some n → IsPick choice (map (pair_of r) ns) n
    by choice [] rise none = absurd (none-some n none)
    by choice (k ∷ ks) rise found =
        let pick = some-pick r choice k ks rise in
        subst (IsPick choice (map (pair_of r) (k ∷ ks))) (same_Some pick.0 n (sym pick.1 ∙ found)) pick.2

-- ---- the choice

pub old-choice : (r : PoolRecord) (place : ℕ) → place ≡ r.claims % 6 → place ≡ 5 → Old ≡ next_choice r
old-choice r place is last = sym (cond-true ((r.claims % 6) == 5) Old Light (eq-eqb (r.claims % 6) 5 (sym is ∙ last)))

pub light-choice : (r : PoolRecord) (place : ℕ) → place ≡ r.claims % 6 → (place ≡ 5 → ⊥) → Light ≡ next_choice r
light-choice r place is other = sym (cond-false ((r.claims % 6) == 5) Old Light (ne_eqb (r.claims % 6) 5 (λ e. other (is ∙ e))))
