-- What the work of a batch changes of a pool's fields: clauses die, are done, and come.
use Rattle.std.proofs.Common.{◌≡◌, ℕ, zero, suc, ◌+◌, ◌<◌, ◌≤◌, Bool, true, false, not, ◌&&◌, ◌||◌, ◌==◌, List, [], ◌∷◌, ◌++◌, map, length, refl, ap, ap₂, sym, ◌∙◌, subst, ⊎_elim, arith}
use Rattle.std.specs.Prelude.{Option, None, Some, cond, nat_lt, find, filter, is_none, position, slice_get, option_map, option_and_then, All}
use Rattle.std.specs.List.{list_any, range_with_len}
use Rattle.std.proofs.Math.ListN.{set}
use Rattle.std.proofs.Math.Seq.{map-set_same}
use Rattle.std.proofs.lemmas.Bool.{or_parts, or_from, or_left, or_right, lt-ltb, le-ltb, eq-eqb, ne_eqb, cond-true, cond-false, not-true}
use Rattle.std.proofs.lemmas.List.{length-map}
use Rattle.std.proofs.lemmas.List.Elements.{All-set, All-push}
use Rattle.std.proofs.lemmas.List.Folds.{list_any-append}
use Rattle.std.proofs.lemmas.Option.{none-some, get_or_from_slice_get, slice_get_within, slice_get-map}
use Rattle.fol_base.specs.Clause.{clause_size}
use Rattle.kernel_steps.specs.Split.{has_number}
use Rattle.clause_queue.specs.Pairs.{with_pair, without}
use Rattle.term_bank.specs.declared.bank.Bank.{Bank}
use Rattle.term_bank.specs.declared.table.Table.{Table}
use Rattle.pool_history.specs.Record.{PoolRecord, Death, GivenJob, clause_numbered, numbers_of, has_died, lives, is_out, waits, is_awake}
use Rattle.pool_history.specs.Claiming.{ready, pair_of}
use Rattle.pool_history.specs.Returning.{dies, becomes_active}
use Rattle.pool_history.specs.Answers.{death_of}
use Rattle.pool_core.specs.Splits.{SplitView, AreSplitsOf, split_view}
use Rattle.clause_register.specs.Register.{death_at, is_living_at, dead_in, made_active}
use Rattle.pool_core.specs.Started.{registered_at, IsOfTable}
use Rattle.pool_core.specs.State.{IsRegistration, IsProofStateOf, AreOfRegistered}
use Rattle.pool_core.specs.Placing.{with_queue}
use Rattle.pool_history.specs.declared.outcome.Outcome.{Outcome}
use Rattle.pool_core.specs.declared.pool.ProofState.{ProofState}
use Rattle.clause_register.specs.declared.register.Registration.{Registration}
use Rattle.pool_history.proofs.AboutRecords.EditLemmas.{at-set, filter-less, filter-pairs}
use Rattle.pool_core.proofs.AboutBeginnings.LivingLemmas.{no-death}
use Rattle.clause_register.proofs.PlaceLemmas.{no-place}
use Rattle.pool_history.proofs.AboutRecords.ItemLemmas.{all-at}

-- ---- the first of a list with one more

find-end-new : {X : Type 0} (p : X → Bool) (xs : List X) (x : X) → list_any p xs ≡ false → p x ≡ true → find p (xs ++ x ∷ []) ≡ Some x
find-end-new p [] x none passes = cond-true (p x) (Some x) None passes
find-end-new p (y ∷ ys) x none passes =
    let parts = or_parts (p y) (list_any p ys) none in
    cond-false (p y) (Some y) (find p (ys ++ x ∷ [])) parts.0 ∙ find-end-new p ys x parts.1 passes

find-end-old : {X : Type 0} (p : X → Bool) (xs : List X) (x : X) → p x ≡ false → find p (xs ++ x ∷ []) ≡ find p xs
find-end-old p [] x fails = cond-false (p x) (Some x) None fails
find-end-old p (y ∷ ys) x fails = ap (λ o. cond (p y) (Some y) o) (find-end-old p ys x fails)

-- none of a list passes
none-of : {X : Type 0} (p : X → Bool) (xs : List X) → ((m : ℕ) (x : X) → slice_get xs m ≡ Some x → p x ≡ false) → list_any p xs ≡ false
none-of p [] each = refl
none-of p (x ∷ xs) each = or_from (p x) (list_any p xs) (each 0 x refl) (none-of p xs (λ m y there. each (suc m) y there))

none-found : {X : Type 0} (p : X → Bool) (xs : List X) → list_any p xs ≡ false → find p xs ≡ None
none-found p [] none = refl
none-found p (x ∷ xs) none =
    let parts = or_parts (p x) (list_any p xs) none in
    cond-false (p x) (Some x) (find p xs) parts.0 ∙ none-found p xs parts.1

-- ---- numbers of registered clauses

other-number : (k m n : ℕ) → m < n → n ≤ k → (k == m) ≡ false
other-number k m n below above = ne_eqb k m (λ e. absurd (omega (arith, e, below, above)))

-- nothing is told of a number that is still to come
module _ (r : PoolRecord) (k : ℕ) (told : AreOfRegistered r) (past : length r.registered ≤ k) where
  pub no-position : position (λ m. k == m) r.positions ≡ None
  no-position = no-place (λ m. k == m) r.positions (λ i m there.
      other-number k m (length r.registered) (all-at (λ n. n < length r.registered) r.positions i m told.positions there) past)

  pub not-active : has_number k r.active ≡ false
  not-active = none-of (λ m. k == m) r.active (λ i m there.
      other-number k m (length r.registered) (all-at (λ n. n < length r.registered) r.active i m told.active there) past)

  pub not-out : is_out r k ≡ false
  not-out = none-of (λ (j : GivenJob). k == j.number) r.given (λ i j there.
      other-number k j.number (length r.registered) (all-at (λ (j : GivenJob). j.number < length r.registered) r.given i j told.given there) past)

  pub not-dead : has_died r.deaths k ≡ false
  not-dead = none-of (λ (d : Death). k == d.victim) r.deaths (λ i d there.
      other-number k d.victim (length r.registered) (all-at (λ (d : Death). d.victim < length r.registered) r.deaths i d told.victims there) past)

  pub no-death-of : death_of r k ≡ None
  no-death-of = ap (option_map (λ (d : Death). d.event)) (none-found (λ (d : Death). k == d.victim) r.deaths not-dead)

-- ---- what the fields tell

module _ (bank : Bank) (table : Table) where
  pub count-of : (s : ProofState) (r : PoolRecord) → IsProofStateOf bank table s r → length r.registered ≡ length s.register.clauses
  count-of s r is = ap length (sym is.registered) ∙ length-map s.register.clauses registered_at

  pub registered-at :
      (s : ProofState) (r : PoolRecord) (n : ℕ) (z : Registration)
      → IsProofStateOf bank table s r → slice_get s.register.clauses n ≡ Some z → slice_get r.registered n ≡ Some (registered_at z)
  registered-at s r n z is there =
      ap (λ xs. slice_get xs n) (sym is.registered) ∙ slice_get-map registered_at s.register.clauses n
      ∙ ap (λ (o : Option Registration). option_map registered_at o) there

  -- the clause of a number lives where no death is noted
  pub lives-here :
      (s : ProofState) (r : PoolRecord) (n : ℕ) (z : Registration)
      → IsProofStateOf bank table s r → slice_get s.register.clauses n ≡ Some z → lives r n ≡ is_none z.death
  lives-here s r n z is there =
      ap (λ b. b && not (has_died r.deaths n)) (lt-ltb n (length r.registered) (slice_get_within r.registered n (registered_at z) (registered-at s r n z is there)))
      ∙ sym (no-death r.deaths n) ∙ ap is_none (sym (is.registrations n z there).death)

  -- the death of any number
  pub death-at : (s : ProofState) (r : PoolRecord) (n : ℕ) → IsProofStateOf bank table s r → death_at s.register.clauses n ≡ death_of r n
  death-at s r n is = by (slice_get s.register.clauses n) refl
    where
      by : (o : Option Registration) → slice_get s.register.clauses n ≡ o → option_and_then (λ (z : Registration). z.death) o ≡ death_of r n
      by None none =
          sym (no-death-of r n is.of_registered
          (let count = count-of s r is in let past : length s.register.clauses ≤ n = past-end s.register.clauses n none in omega (arith, count, past)))
        where
          past-end : (zs : List Registration) (m : ℕ) → slice_get zs m ≡ None → length zs ≤ m
          past-end [] m none = omega arith
          past-end (z ∷ zs) zero none = absurd (none-some z (sym none))
          past-end (z ∷ zs) (suc m) none = let rest = past-end zs m none in omega (arith, rest)
      by (Some z) there = (is.registrations n z there).death

  pub living-at : (s : ProofState) (r : PoolRecord) (n : ℕ) → IsProofStateOf bank table s r → is_living_at s.register.clauses n ≡ lives r n
  living-at s r n is =
      ap₂ (λ (k : ℕ) (o : Option ℕ). nat_lt n k && is_none o) (sym (count-of s r is)) (death-at s r n is)
      ∙ ap (λ b. nat_lt n (length r.registered) && b) (no-death r.deaths n)

  -- ---- a clause dies

  one-dead : (l d e w a : Bool) → (((l && not (d || (e || false))) && w) && a) ≡ ((((l && not d) && w) && a) && not e)
  one-dead false d e w a = refl
  one-dead true true e w a = refl
  one-dead true false true w a = sym (none (w && a))
    where
      none : (b : Bool) → (b && false) ≡ false
      none true = refl
      none false = refl
  one-dead true false false w a = sym (all (w && a))
    where
      all : (b : Bool) → (b && true) ≡ b
      all true = refl
      all false = refl

  abbrev death_in : ℕ → List ℕ → PoolRecord → Death
  death_in n justifiers r = record { victim = n; event = r.events; justifiers = justifiers }

  ready-died :
      (n : ℕ) (justifiers : List ℕ) (r : PoolRecord)
      → map (pair_of (dies n justifiers r)) (ready (dies n justifiers r)) ≡ without n (map (pair_of r) (ready r))
  ready-died n justifiers r =
      ap (map (pair_of r))
      (filter-less (λ k. waits r k && is_awake r k) (λ k. waits (dies n justifiers r) k && is_awake (dies n justifiers r) k) n (numbers_of r) (λ k.
      ap (λ b. ((nat_lt k (length r.registered) && not b) && (not (is_out r k) && not (has_number k r.active))) && is_awake r k)
      (list_any-append (λ (d : Death). k == d.victim) r.deaths (death_in n justifiers r ∷ []))
      ∙ one-dead (nat_lt k (length r.registered)) (has_died r.deaths k) (k == n) (not (is_out r k) && not (has_number k r.active)) (is_awake r k)))
      ∙ sym (filter-pairs (λ k. clause_size (clause_numbered r k)) (λ k. not (k == n)) (ready r))

  pub died-state :
      (s t : ProofState) (r : PoolRecord) (n event : ℕ) (justifiers : List ℕ) (pairs : List (ℕ × ℕ)) (z : Registration)
      → slice_get s.register.clauses n ≡ Some z → is_none z.death ≡ true → event ≡ r.events
      → t.register.clauses ≡ set s.register.clauses n (dead_in event z) → t.queue.pairs ≡ without n pairs
      → t.steps.items ≡ s.steps.items → t.ended ≡ s.ended → split_view t.splits ≡ split_view s.splits
      → t.asserting.entries ≡ s.asserting.entries → IsProofStateOf bank table (with_queue pairs s) r → IsProofStateOf bank table t (dies n justifiers r)
  died-state s t r n event justifiers pairs z there alive same register queue steps ended splits asserting is = record {
    registered =
        ap (map registered_at) register
        ∙ map-set_same registered_at ss n (dead_in event z) z (ap registered_at (sym (get_or_from_slice_get ss n z z there))) ∙ is.registered;
    of_table =
        subst (All (IsOfTable bank table)) (sym register)
        (All-set (IsOfTable bank table) ss n (dead_in event z)
        (let was = all-at (IsOfTable bank table) ss n z is.of_table there in record { of_bank = was.of_bank; known = was.known }) is.of_table);
    registrations = λ k y at. ⊎_elim
        (λ (here : (k ≡ n) × (dead_in event z ≡ y)).
        let was = is.registrations n z there in
        subst (IsRegistration (dies n justifiers r) k) here.1
        (subst (λ m. IsRegistration (dies n justifiers r) m (dead_in event z)) (sym here.0)
        (record {
          position = was.position;
          death =
              ap Some same
              ∙ ap (option_map (λ (d : Death). d.event))
              (sym (find-end-new (λ (d : Death). n == d.victim) r.deaths (death_in n justifiers r) undead (eq-eqb n n refl)));
          active = was.active;
        })))
        (λ (other : (k ≡ n → ⊥) × (slice_get ss k ≡ Some y)).
        let was = is.registrations k y other.1 in
        record {
          position = was.position;
          death =
              was.death
              ∙ ap (option_map (λ (d : Death). d.event))
              (sym (find-end-old (λ (d : Death). k == d.victim) r.deaths (death_in n justifiers r) (ne_eqb k n other.0)));
          active = was.active;
        })
        (at-set ss n (dead_in event z) k y (ap (λ xs. slice_get xs k) (sym register) ∙ at));
    queue = queue ∙ ap (without n) is.queue ∙ sym (ready-died n justifiers r);
    steps = steps ∙ is.steps;
    ended = ended ∙ is.ended;
    splits = subst (λ (v : SplitView). AreSplitsOf v r.parts r.lines r.propositional r.model r.modelled) (sym splits) is.splits;
    tags = is.tags;
    asserting = asserting ∙ is.asserting;
    of_registered = record {
      positions = is.of_registered.positions;
      active = is.of_registered.active;
      given = is.of_registered.given;
      placed = is.of_registered.placed;
      victims =
          All-push (λ (d : Death). d.victim < length r.registered) r.deaths (death_in n justifiers r) is.of_registered.victims
          (slice_get_within r.registered n (registered_at z) (registered-at (with_queue pairs s) r n z is there));
    };
    no_empty = is.no_empty;
  }
    where
      ss : List Registration
      ss = s.register.clauses

      undead : has_died r.deaths n ≡ false
      undead = not-true (has_died r.deaths n) (sym (no-death r.deaths n) ∙ ap is_none (sym (is.registrations n z there).death) ∙ alive)

  -- ---- a job is done

  one-done : (l o i e a : Bool) → ((l && (not o && not (i || (e || false)))) && a) ≡ (((l && (not o && not i)) && a) && not e)
  one-done false o i e a = refl
  one-done true true i e a = refl
  one-done true false true e a = refl
  one-done true false false true a = sym (none a)
    where
      none : (b : Bool) → (b && false) ≡ false
      none true = refl
      none false = refl
  one-done true false false false a = sym (all a)
    where
      all : (b : Bool) → (b && true) ≡ b
      all true = refl
      all false = refl

  ready-done : (n : ℕ) (r : PoolRecord) → map (pair_of (becomes_active n r)) (ready (becomes_active n r)) ≡ without n (map (pair_of r) (ready r))
  ready-done n r =
      ap (map (pair_of r))
      (filter-less (λ k. waits r k && is_awake r k) (λ k. waits (becomes_active n r) k && is_awake (becomes_active n r) k) n (numbers_of r) (λ k.
      ap (λ b. (lives r k && (not (is_out r k) && not b)) && is_awake r k) (list_any-append (λ m. k == m) r.active (n ∷ []))
      ∙ one-done (lives r k) (is_out r k) (has_number k r.active) (k == n) (is_awake r k)))
      ∙ sym (filter-pairs (λ k. clause_size (clause_numbered r k)) (λ k. not (k == n)) (ready r))

  pub finished-state :
      (s t : ProofState) (r : PoolRecord) (n : ℕ) (pairs : List (ℕ × ℕ)) (z : Registration)
      → slice_get s.register.clauses n ≡ Some z
      → t.register.clauses ≡ set s.register.clauses n (made_active z) → t.queue.pairs ≡ without n pairs
      → t.steps.items ≡ s.steps.items → t.ended ≡ s.ended → split_view t.splits ≡ split_view s.splits
      → t.asserting.entries ≡ s.asserting.entries → IsProofStateOf bank table (with_queue pairs s) r → IsProofStateOf bank table t (becomes_active n r)
  finished-state s t r n pairs z there register queue steps ended splits asserting is = record {
    registered =
        ap (map registered_at) register
        ∙ map-set_same registered_at ss n (made_active z) z (ap registered_at (sym (get_or_from_slice_get ss n z z there))) ∙ is.registered;
    of_table =
        subst (All (IsOfTable bank table)) (sym register)
        (All-set (IsOfTable bank table) ss n (made_active z)
        (let was = all-at (IsOfTable bank table) ss n z is.of_table there in record { of_bank = was.of_bank; known = was.known }) is.of_table);
    registrations = λ k y at. ⊎_elim
        (λ (here : (k ≡ n) × (made_active z ≡ y)).
        let was = is.registrations n z there in
        subst (IsRegistration (becomes_active n r) k) here.1
        (subst (λ m. IsRegistration (becomes_active n r) m (made_active z)) (sym here.0)
        (record {
          position = was.position;
          death = was.death;
          active =
              sym (list_any-append (λ m. n == m) r.active (n ∷ [])
              ∙ or_right (has_number n r.active) (has_number n (n ∷ [])) (or_left (n == n) false (eq-eqb n n refl)));
        })))
        (λ (other : (k ≡ n → ⊥) × (slice_get ss k ≡ Some y)).
        let was = is.registrations k y other.1 in
        record {
          position = was.position;
          death = was.death;
          active =
              was.active ∙ sym (false-right (has_number k r.active))
              ∙ ap (λ b. has_number k r.active || (b || false)) (sym (ne_eqb k n other.0))
              ∙ sym (list_any-append (λ m. k == m) r.active (n ∷ []));
        })
        (at-set ss n (made_active z) k y (ap (λ xs. slice_get xs k) (sym register) ∙ at));
    queue = queue ∙ ap (without n) is.queue ∙ sym (ready-done n r);
    steps = steps ∙ is.steps;
    ended = ended ∙ is.ended;
    splits = subst (λ (v : SplitView). AreSplitsOf v r.parts r.lines r.propositional r.model r.modelled) (sym splits) is.splits;
    tags = is.tags;
    asserting = asserting ∙ is.asserting;
    of_registered = record {
      positions = is.of_registered.positions;
      active =
          All-push (λ m. m < length r.registered) r.active n is.of_registered.active
          (slice_get_within r.registered n (registered_at z) (registered-at (with_queue pairs s) r n z is there));
      given = is.of_registered.given;
      placed = is.of_registered.placed;
      victims = is.of_registered.victims;
    };
    no_empty = is.no_empty;
  }
    where
      ss : List Registration
      ss = s.register.clauses

      false-right : (b : Bool) → (b || (false || false)) ≡ b
      false-right true = refl
      false-right false = refl

  -- ---- the pool is ended

  pub ended-state :
      (s t : ProofState) (r : PoolRecord) (o : Outcome)
      → t.register.clauses ≡ s.register.clauses → t.queue.pairs ≡ s.queue.pairs → t.steps.items ≡ s.steps.items → t.ended ≡ Some o → split_view t.splits ≡ split_view s.splits
      → t.asserting.entries ≡ s.asserting.entries → IsProofStateOf bank table s r → IsProofStateOf bank table t (record r { ended = Some o })
  ended-state s t r o register queue steps ended splits asserting is = record {
    registered = ap (map registered_at) register ∙ is.registered;
    of_table = subst (All (IsOfTable bank table)) (sym register) is.of_table;
    registrations = λ k y at.
        let was = is.registrations k y (ap (λ xs. slice_get xs k) (sym register) ∙ at) in
        record { position = was.position; death = was.death; active = was.active };
    queue = queue ∙ is.queue;
    steps = steps ∙ is.steps;
    ended = ended;
    splits = subst (λ (v : SplitView). AreSplitsOf v r.parts r.lines r.propositional r.model r.modelled) (sym splits) is.splits;
    tags = is.tags;
    asserting = asserting ∙ is.asserting;
    of_registered = let told = is.of_registered in
        record { positions = told.positions; active = told.active; given = told.given; placed = told.placed; victims = told.victims };
    no_empty = λ none. absurd (none-some o (sym none));
  }

-- ---- ranges

-- what is alike below a bound
pub map-filter-within :
    {X : Type 0} (p q : ℕ → Bool) (f g : ℕ → X) (from count bound : ℕ)
    → from + count ≤ bound → ((k : ℕ) → k < bound → p k ≡ q k) → ((k : ℕ) → k < bound → f k ≡ g k)
    → map f (filter p (range_with_len from count)) ≡ map g (filter q (range_with_len from count))
map-filter-within p q f g from zero bound within same alike = refl
map-filter-within {X} p q f g from (suc count) bound within same alike =
    ap (λ b. map f (cond b (from ∷ filter p rest) (filter p rest))) (same from (omega (arith, within)))
    ∙ by (q from) (map-filter-within p q f g (from + 1) count bound (omega (arith, within)) same alike)
  where
    rest : List ℕ
    rest = range_with_len (from + 1) count

    by :
        (b : Bool) → map f (filter p rest) ≡ map g (filter q rest)
        → map f (cond b (from ∷ filter p rest) (filter p rest)) ≡ map g (cond b (from ∷ filter q rest) (filter q rest))
    by true more = ap₂ (λ (x : X) (xs : List X). x ∷ xs) (alike from (omega (arith, within))) more
    by false more = more

-- a pair whose number is above all others comes last
pub with_pair-above :
    (n size : ℕ) (w : ℕ → ℕ × ℕ) (p : ℕ → Bool) (from count : ℕ) → ((k : ℕ) → (w k).0 ≡ k) → from + count ≤ n
    → with_pair (n, size) (map w (filter p (range_with_len from count))) ≡ map w (filter p (range_with_len from count)) ++ (n, size) ∷ []
with_pair-above n size w p from zero numbered_so within = refl
with_pair-above n size w p from (suc count) numbered_so within = by (p from) (with_pair-above n size w p (from + 1) count numbered_so (omega (arith, within)))
  where
    rest : List ℕ
    rest = filter p (range_with_len (from + 1) count)

    by :
        (b : Bool) → with_pair (n, size) (map w rest) ≡ map w rest ++ (n, size) ∷ []
        → with_pair (n, size) (map w (cond b (from ∷ rest) rest)) ≡ map w (cond b (from ∷ rest) rest) ++ (n, size) ∷ []
    by true more =
        cond-false (nat_lt n (w from).0) _ _ (le-ltb n (w from).0 (let e = numbered_so from in omega (arith, e, within)))
        ∙ ap (λ (ps : List (ℕ × ℕ)). w from ∷ ps) more
    by false more = more

pub get-front : {X : Type 0} (xs : List X) (x : X) (k : ℕ) → k < length xs → slice_get (xs ++ x ∷ []) k ≡ slice_get xs k
get-front [] x k below = absurd (omega (arith, below))
get-front (y ∷ ys) x zero below = refl
get-front (y ∷ ys) x (suc k) below = get-front ys x k (omega (arith, below))

pub get-last : {X : Type 0} (xs : List X) (x : X) → slice_get (xs ++ x ∷ []) (length xs) ≡ Some x
get-last [] x = refl
get-last (y ∷ ys) x = get-last ys x
