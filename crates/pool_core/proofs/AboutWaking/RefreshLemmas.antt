-- The fields after a clause was looked at anew, and after a model has come.
use Rattle.std.proofs.Common.{◌≡◌, ℕ, ◌+◌, ◌<◌, ◌≤◌, ◌^◌, Bool, true, false, not, ◌&&◌, ◌||◌, ◌==◌, List, [], ◌∷◌, map, length, Contains, refl, ap, ap₂, sym, ◌∙◌, subst, inl, inr, ◌⊎◌, arith}
use Rattle.std.specs.Prelude.{Option, None, Some, is_none, is_some, position, slice_get, All, if◌then◌else◌}
use Rattle.std.specs.List.{list_any}
use Rattle.std.specs.Map.{values_of}
use Rattle.std.proofs.lemmas.Bool.{true≢false, and_from, cond-true, cond-false, eq-eqb, eqb-true}
use Rattle.std.proofs.lemmas.List.Elements.{All-head, All-tail}
use Rattle.fol_base.specs.Clause.{TreeClause, clause_size}
use Rattle.kernel_steps.specs.Split.{has_number}
use Rattle.sat_core.specs.Clause.{valuation_of}
use Rattle.term_bank.specs.declared.bank.Bank.{Bank}
use Rattle.term_bank.specs.declared.table.Table.{Table}
use Rattle.clause_queue.specs.Pairs.{with_pair, without, numbers}
use Rattle.pool_history.specs.Record.{PoolRecord, GivenJob, is_awake, is_awake_under, is_out, lives, waits}
use Rattle.pool_history.specs.Claiming.{pair_of, ready}
use Rattle.pool_core.specs.Asserting.{Assertions}
use Rattle.pool_core.specs.Noted.{clause_in}
use Rattle.pool_core.specs.Placing.{with_queue}
use Rattle.pool_core.specs.State.{HasNodes, IsProofStateOf, job_entry}
use Rattle.pool_core.specs.Waking.{AreLookedAt, AssertsNoFlip, AssertsNoneFrom, IsSomeWaking, IsWakingStateOf, flips, looked_at, ready_by}
use Rattle.pool_core.specs.declared.pool.OutJob.{OutJob}
use Rattle.pool_core.specs.declared.pool.ProofState.{ProofState}
use Rattle.clause_register.specs.declared.register.Registration.{Registration}
use Rattle.pool_core.specs.declared.splits.Splits.{Splits}
use Rattle.pool_core.specs.declared.tag_index.Assertion.{Assertion}
use Rattle.pool_history.proofs.AboutRecords.ItemLemmas.{item-at, none-passes}
use Rattle.pool_core.proofs.AboutReturns.ProofStateLemmas.{count-of, lives-here, map-filter-within}
use Rattle.pool_core.proofs.AboutWaking.AwakeLemmas.{AreAmong, all-fit, all-tagged, awake-as-before, awake-here, clause-here}
use Rattle.pool_core.proofs.AboutWaking.NodeLemmas.{pairs_by, same-others, left-out, put-in, few-pairs, fewer-without, absent-fails}
use Rattle.pool_core.proofs.AboutWaking.TagLemmas.{flips-begin, flips-on, flips-past}

-- ---- the same fields with another queue

pub requeued :
    (bank : Bank) (table : Table) (s t : ProofState) (r : PoolRecord) (pairs : List (ℕ × ℕ))
    → IsProofStateOf bank table (with_queue pairs s) r → t ≡ record s { queue = t.queue } → t.queue.pairs ≡ map (pair_of r) (ready r)
    → IsProofStateOf bank table t r
requeued bank table s t r pairs is rest queue =
    subst (λ (u : ProofState). IsProofStateOf bank table u r) (sym rest)
    (record {
      registered = is.registered;
      of_table = is.of_table;
      registrations = is.registrations;
      queue = queue;
      steps = is.steps;
      ended = is.ended;
      splits = is.splits;
      tags = is.tags;
      asserting = is.asserting;
      of_registered = is.of_registered;
      no_empty = is.no_empty;
    })

-- the other fields stay through two changes of the queue
pub rest-stays : (s t u : ProofState) → t ≡ record s { queue = t.queue } → u ≡ record t { queue = u.queue } → u ≡ record s { queue = u.queue }
rest-stays s t u first second = second ∙ ap (λ (v : ProofState). record v { queue = u.queue }) first

pub nodes-stay :
    (s t : ProofState) → t ≡ record s { queue = t.queue } → length t.queue.pairs + t.queue.spare ≡ length s.queue.pairs + s.queue.spare
    → HasNodes s 0 → HasNodes t 0
nodes-stay s t rest sum nodes =
    let same : length t.register.clauses ≡ length s.register.clauses = ap (λ (v : ProofState). length v.register.clauses) rest in
    omega (arith, same, sum, nodes)

-- ---- nodes

module _ (bank : Bank) (table : Table) (s : ProofState) (r : PoolRecord) where
  -- a clause that doesn't stand in the queue finds a node
  pub node-for :
      (n : ℕ) → IsProofStateOf bank table s r → HasNodes s 0 → n < length s.register.clauses → (Contains (numbers s.queue.pairs) n → ⊥) → 0 < s.queue.spare
  node-for n is nodes below lacks =
      let count = count-of bank table s r is in
      let few : length (without n (pairs_by r (λ k. waits r k && is_awake r k))) + 1 ≤ length r.registered =
      fewer-without r (λ k. waits r k && is_awake r k) n (omega (arith, below, count)) in
      let out : without n (pairs_by r (λ k. waits r k && is_awake r k)) ≡ pairs_by r (λ k. waits r k && is_awake r k) =
      left-out r (λ k. waits r k && is_awake r k) n
      (absent-fails r (λ k. waits r k && is_awake r k) n (omega (arith, below, count)) (λ has. lacks (subst (λ ps. Contains (numbers ps) n) (sym is.queue) has))) in
      let same : length (without n (pairs_by r (λ k. waits r k && is_awake r k))) ≡ length s.queue.pairs = ap length (out ∙ sym is.queue) in
      omega (arith, count, few, same, nodes)

  -- and so does one that is registered
  pub node-for-new : IsProofStateOf bank table s r → HasNodes s 1 → 0 < s.queue.spare
  node-for-new is nodes =
      let count = count-of bank table s r is in
      let few : length (pairs_by r (λ k. waits r k && is_awake r k)) ≤ length r.registered = few-pairs r (λ k. waits r k && is_awake r k) in
      let same : length s.queue.pairs ≡ length (pairs_by r (λ k. waits r k && is_awake r k)) = ap length is.queue in
      omega (arith, count, few, same, nodes)

-- ---- a clause that waits again

pub waits-again :
    (bank : Bank) (table : Table) (s t : ProofState) (r : PoolRecord) (n : ℕ) (pairs : List (ℕ × ℕ))
    → n < length s.register.clauses → waits r n ≡ true → s.queue.pairs ≡ without n pairs → IsProofStateOf bank table (with_queue pairs s) r
    → t ≡ record s { queue = t.queue }
    → t.queue.pairs
    ≡ (if is_awake_under (valuation_of s.splits.model) s.splits.parts.parts (clause_in s.register.clauses n)
    then with_pair (n, clause_size (clause_in s.register.clauses n)) s.queue.pairs else s.queue.pairs)
    → IsProofStateOf bank table t r
waits-again bank table s t r n pairs below waiting queue is rest put =
    requeued bank table s t r pairs is rest
    (put
    ∙ ap₂ (λ (b : Bool) (c : TreeClause). if b then with_pair (n, clause_size c) s.queue.pairs else s.queue.pairs)
    (awake-here bank table (with_queue pairs s) r is n) (clause-here bank table (with_queue pairs s) r is n)
    ∙ ap (λ ps. if is_awake r n then with_pair (pair_of r n) ps else ps) (queue ∙ ap (without n) is.queue)
    ∙ by (is_awake r n) refl)
  where
    count : length r.registered ≡ length s.register.clauses
    count = count-of bank table (with_queue pairs s) r is

    test : ℕ → Bool
    test k = waits r k && is_awake r k

    by :
        (b : Bool) → is_awake r n ≡ b
        → (if b then with_pair (pair_of r n) (without n (pairs_by r test)) else without n (pairs_by r test)) ≡ pairs_by r test
    by true awake = put-in r test n (and_from (waits r n) (is_awake r n) waiting awake) (let c = count in omega (arith, c, below))
    by false asleep = left-out r test n (ap₂ (λ (x y : Bool). x && y) waiting asleep)

-- ---- a clause that is looked at anew

pub looked-state :
    (bank : Bank) (table : Table) (s t : ProofState) (jobs : List (ℕ × OutJob)) (awake : ℕ → Bool) (r : PoolRecord) (n : ℕ)
    → n < length s.register.clauses → IsWakingStateOf bank table s jobs awake r → t ≡ record s { queue = t.queue }
    → t.queue.pairs ≡ (if waits r n && is_awake r n then with_pair (pair_of r n) (without n s.queue.pairs) else without n s.queue.pairs)
    → IsWakingStateOf bank table t jobs (looked_at r n awake) r
looked-state bank table s t jobs awake r n below is rest put = record {
  proof = requeued bank table s (with_queue (map (pair_of r) (ready r)) t) r (map (pair_of r) (ready r)) is.proof (ap (with_queue (map (pair_of r) (ready r))) rest) refl;
  queue =
      put
      ∙ ap (λ ps. if waits r n && is_awake r n then with_pair (pair_of r n) (without n ps) else without n ps) is.queue
      ∙ ap (λ ps. if waits r n && is_awake r n then with_pair (pair_of r n) ps else ps) (same-others r old new n (λ k other. ap (λ b. waits r k && b) (sym (cond-false (k == n) (is_awake r k) (awake k) other))))
      ∙ by (waits r n && is_awake r n) here;
  given = is.given;
}
  where
    old : ℕ → Bool
    old k = waits r k && awake k

    new : ℕ → Bool
    new k = waits r k && looked_at r n awake k

    here : new n ≡ (waits r n && is_awake r n)
    here = ap (λ b. waits r n && b) (cond-true (n == n) (is_awake r n) (awake n) (eq-eqb n n refl))

    count : length r.registered ≡ length s.register.clauses
    count = count-of bank table (with_queue (map (pair_of r) (ready r)) s) r is.proof

    by :
        (b : Bool) → new n ≡ b
        → (if b then with_pair (pair_of r n) (without n (pairs_by r new)) else without n (pairs_by r new)) ≡ pairs_by r new
    by true passes = put-in r new n passes (let c = count in omega (arith, c, below))
    by false fails = left-out r new n fails

-- the queue without a clause has a node for it
pub looked-node :
    (bank : Bank) (table : Table) (s : ProofState) (jobs : List (ℕ × OutJob)) (awake : ℕ → Bool) (r : PoolRecord) (n : ℕ) (pairs : List (ℕ × ℕ)) (spare : ℕ)
    → n < length s.register.clauses → IsWakingStateOf bank table s jobs awake r → HasNodes s 0
    → pairs ≡ without n s.queue.pairs → length pairs + spare ≡ length s.queue.pairs + s.queue.spare → 0 < spare
looked-node bank table s jobs awake r n pairs spare below is nodes taken sum =
    let count = count-of bank table (with_queue (map (pair_of r) (ready r)) s) r is.proof in
    let few : length (without n (pairs_by r (λ k. waits r k && awake k))) + 1 ≤ length r.registered = fewer-without r (λ k. waits r k && awake k) n (omega (arith, below, count)) in
    let same : length pairs ≡ length (without n (pairs_by r (λ k. waits r k && awake k))) = ap length (taken ∙ ap (without n) is.queue) in
    omega (arith, count, few, same, nodes, sum)

-- ---- whether a clause waits

not-waiting : (l o a : Bool) → l ≡ false → (l && (not o && not a)) ≡ false
not-waiting l o a dead = ap (λ b. b && (not o && not a)) dead

is-out-by : (n : ℕ) (js : List GivenJob) → list_any (λ (o : OutJob). n == o.number) (values_of (map job_entry js)) ≡ list_any (λ (j : GivenJob). n == j.number) js
is-out-by n [] = refl
is-out-by n (j ∷ js) = ap (λ b. (n == j.number) || b) (is-out-by n js)

-- a clause without a position is in no hand
never-out : (n : ℕ) (ps : List ℕ) (js : List GivenJob) → position (λ m. n == m) ps ≡ None → All (λ (j : GivenJob). has_number j.number ps ≡ true) js → list_any (λ (j : GivenJob). n == j.number) js ≡ false
never-out n ps [] none placed = refl
never-out n ps (j ∷ js) none placed =
    by (n == j.number) refl (never-out n ps js none (All-tail (λ (i : GivenJob). has_number i.number ps ≡ true) j js placed))
  where
    by :
        (b : Bool) → (n == j.number) ≡ b → list_any (λ (i : GivenJob). n == i.number) js ≡ false
        → (b || list_any (λ (i : GivenJob). n == i.number) js) ≡ false
    by true same rest = absurd (true≢false
        (sym (ap (λ k. has_number k ps) (eqb-true n j.number same) ∙ All-head (λ (i : GivenJob). has_number i.number ps ≡ true) j js placed)
        ∙ none-passes (λ m. n == m) ps none))
    by false other rest = rest

module _ (bank : Bank) (table : Table) (s : ProofState) (r : PoolRecord) (jobs : List (ℕ × OutJob)) (n : ℕ) (z : Registration)
    (is : IsProofStateOf bank table s r) (there : slice_get s.register.clauses n ≡ Some z) (out : jobs ≡ map job_entry r.given) where
  pub dead-waits-not : is_some z.death ≡ true → waits r n ≡ false
  dead-waits-not dead = not-waiting (lives r n) (is_out r n) (has_number n r.active) (lives-here bank table s r n z is there ∙ by z.death dead)
    where
      by : (o : Option ℕ) → is_some o ≡ true → is_none o ≡ false
      by None h = absurd (true≢false (sym h))
      by (Some e) h = refl

  pub active-waits-not : z.is_active ≡ true → waits r n ≡ false
  active-waits-not done =
      ap (λ b. lives r n && (not (is_out r n) && not b)) (sym (is.registrations n z there).active ∙ done) ∙ by (lives r n) (is_out r n)
    where
      by : (l o : Bool) → (l && (not o && false)) ≡ false
      by false o = refl
      by true true = refl
      by true false = refl

  waits-as : is_some z.death ≡ false → z.is_active ≡ false → waits r n ≡ not (is_out r n)
  waits-as alive idle =
      ap₂ (λ (l a : Bool). l && (not (is_out r n) && not a)) (lives-here bank table s r n z is there ∙ by z.death alive) (sym (is.registrations n z there).active ∙ idle)
      ∙ last (not (is_out r n))
    where
      by : (o : Option ℕ) → is_some o ≡ false → is_none o ≡ true
      by None h = refl
      by (Some e) h = absurd (true≢false h)

      last : (b : Bool) → (true && (b && not false)) ≡ b
      last true = refl
      last false = refl

  pub new-waits : is_some z.death ≡ false → z.is_active ≡ false → is_none z.position ≡ true → waits r n ≡ true
  new-waits alive idle new =
      waits-as alive idle ∙ ap not (never-out n r.positions r.given (sym (is.registrations n z there).position ∙ by z.position new) is.of_registered.placed)
    where
      by : (o : Option ℕ) → is_none o ≡ true → o ≡ None
      by None h = refl
      by (Some e) h = absurd (true≢false (sym h))

  pub old-waits : is_some z.death ≡ false → z.is_active ≡ false → (b : Bool) → b ≡ list_any (λ (o : OutJob). n == o.number) (values_of jobs) → not b ≡ waits r n
  old-waits alive idle b held =
      ap not (held ∙ ap (λ es. list_any (λ (o : OutJob). n == o.number) (values_of es)) out ∙ is-out-by n r.given) ∙ sym (waits-as alive idle)

-- ---- a model

-- at first the clauses are awake as they were
pub model-begins :
    (bank : Bank) (table : Table) (s t : ProofState) (jobs : List (ℕ × OutJob)) (truths kept was : List Bool) (count : ℕ) (r : PoolRecord)
    → IsProofStateOf bank table s r → jobs ≡ map job_entry r.given → kept ≡ truths → was ≡ s.splits.model
    → t ≡ record s { splits = record s.splits { model = kept; modelled = count } }
    → let now : PoolRecord = record r { model = truths; modelled = count } in
    IsWakingStateOf bank table t jobs (is_awake (record now { model = was })) now
model-begins bank table s t jobs truths kept was count r is out same old rest = record {
  proof =
      subst (λ (u : ProofState). IsProofStateOf bank table (with_queue (map (pair_of now) (ready now)) u) now) (sym rest)
      (record {
        registered = is.registered;
        of_table = is.of_table;
        registrations = λ n z there. let was = is.registrations n z there in record { position = was.position; death = was.death; active = was.active };
        queue = refl;
        steps = is.steps;
        ended = is.ended;
        splits = record {
          parts = is.splits.parts;
          component_lines = is.splits.component_lines;
          definition_lines = is.splits.definition_lines;
          propositional = is.splits.propositional;
          propositional_lines = is.splits.propositional_lines;
          model = same;
          modelled = refl;
          components = is.splits.components;
          definitions = is.splits.definitions;
          known = is.splits.known;
        };
        tags = is.tags;
        asserting = is.asserting;
        of_registered = let told = is.of_registered in
            record { positions = told.positions; active = told.active; given = told.given; placed = told.placed; victims = told.victims };
        no_empty = is.no_empty;
      });
  queue =
      ap (λ (u : ProofState). u.queue.pairs) rest ∙ is.queue
      ∙ ap (λ (was : List Bool). map (pair_of now) (ready_by (is_awake (record now { model = was })) now)) (sym (old ∙ is.splits.model));
  given = out;
}
  where
    now : PoolRecord
    now = record r { model = truths; modelled = count }

-- at last each clause is awake as it is under the model
pub model-ends :
    (bank : Bank) (table : Table) (s : ProofState) (jobs : List (ℕ × OutJob)) (was : List Bool) (now : ℕ → Bool) (count : ℕ) (r : PoolRecord)
    → IsWakingStateOf bank table s jobs now r → AreLookedAt r (is_awake (record r { model = was })) now (AssertsNoFlip count was s)
    → AreAmong count s
    → IsProofStateOf bank table s r
model-ends bank table s jobs was now count r is looked among =
    requeued bank table s s r (map (pair_of r) (ready r)) is.proof refl
    (is.queue
    ∙ map-filter-within (λ k. waits r k && now k) (λ k. waits r k && is_awake r k) (pair_of r) (pair_of r) 0 (length r.registered) (length r.registered) (omega arith)
    (λ k below. ap (λ b. waits r k && b) (by k below (looked k))) (λ k below. refl))
  where
    full : ProofState
    full = with_queue (map (pair_of r) (ready r)) s

    by : (k : ℕ) → k < length r.registered → (now k ≡ is_awake r k) ⊎ ((now k ≡ is_awake (record r { model = was }) k) × AssertsNoFlip count was s k) → now k ≡ is_awake r k
    by k below (inl seen) = seen
    by k below (inr unseen) =
        let count_is = count-of bank table full r is.proof in
        let item = item-at s.register.clauses k (omega (arith, below, count_is)) in
        unseen.0 ∙ awake-as-before bank table full r is.proof was count k item.0 among item.1 unseen.1

-- ---- the tags, one after another

-- the clauses of the first tags whose names flip were looked at
pub record AreFlippedSoFar (was : List Bool) (jobs : List (ℕ × OutJob)) (s t : ProofState) (count : ℕ) : Type 0 where
  pub came :
      (bank : Bank) (table : Table) (r : PoolRecord) → IsWakingStateOf bank table s jobs (is_awake (record r { model = was })) r
      → (now : ℕ → Bool) × IsWakingStateOf bank table t jobs now r × AreLookedAt r (is_awake (record r { model = was })) now (AssertsNoFlip count was s)
  pub nodes : length t.queue.pairs + t.queue.spare ≡ length s.queue.pairs + s.queue.spare
  pub rest : t ≡ record s { queue = t.queue }

module _ (was : List Bool) (jobs : List (ℕ × OutJob)) (s : ProofState) where
  pub none-flipped : AreFlippedSoFar was jobs s s 0
  none-flipped = record {
    came = λ bank table r is. (is_awake (record r { model = was }), is, flips-begin r was s (is_awake (record r { model = was })));
    nodes = refl;
    rest = refl;
  }

  pub some-flipped :
      (t : ProofState) (count : ℕ) (bank : Bank) (table : Table) (r : PoolRecord)
      → IsWakingStateOf bank table s jobs (is_awake (record r { model = was })) r → AreFlippedSoFar was jobs s t count → IsSomeWaking t jobs
  some-flipped t count bank table r is so_far = let came = so_far.came bank table r is in (bank, table, came.0, r, came.1)

  -- the clauses of one more
  pub one-flipped :
      (t u : ProofState) (tag count : ℕ)
      → tag ≡ count
      → ((bank : Bank) (table : Table) (awake : ℕ → Bool) (r : PoolRecord) → IsWakingStateOf bank table t jobs awake r
      → (now : ℕ → Bool) × IsWakingStateOf bank table u jobs now r × AreLookedAt r awake now (AssertsNoneFrom 0 t.asserting.entries tag))
      → length u.queue.pairs + u.queue.spare ≡ length t.queue.pairs + t.queue.spare → u ≡ record t { queue = u.queue }
      → AreFlippedSoFar was jobs s t count → AreFlippedSoFar was jobs s u (count + 1)
  one-flipped t u tag count same refreshed nodes rest so_far = record {
    came = λ bank table r is.
        let before = so_far.came bank table r is in
        let after = refreshed bank table before.0 r before.1 in (
          after.0,
          after.1,
          flips-on r was s (is_awake (record r { model = was })) before.0 after.0 count before.2
              (subst (λ (v : ProofState). AreLookedAt r before.0 after.0 (AssertsNoneFrom 0 v.asserting.entries count)) so_far.rest
              (subst (λ k. AreLookedAt r before.0 after.0 (AssertsNoneFrom 0 t.asserting.entries k)) same after.2)),
        );
    nodes = nodes ∙ so_far.nodes;
    rest = rest-stays s t u so_far.rest rest;
  }

  pub one-unflipped :
      (t : ProofState) (tag count : ℕ)
      → tag ≡ count → flips was t.splits.model t.splits.parts.parts tag ≡ false → AreFlippedSoFar was jobs s t count → AreFlippedSoFar was jobs s t (count + 1)
  one-unflipped t tag count same stays so_far = record {
    came = λ bank table r is.
        let before = so_far.came bank table r is in (
          before.0,
          before.1,
          flips-past r was s (is_awake (record r { model = was })) before.0 count
              (subst (λ (v : ProofState). flips was v.splits.model v.splits.parts.parts count ≡ false) so_far.rest
              (subst (λ k. flips was t.splits.model t.splits.parts.parts k ≡ false) same stays)) before.2,
        );
    nodes = so_far.nodes;
    rest = so_far.rest;
  }

  flipped-ends :
      (t : ProofState) (count : ℕ) (bank : Bank) (table : Table) (r : PoolRecord)
      → IsWakingStateOf bank table s jobs (is_awake (record r { model = was })) r
      → ((full : ProofState) → IsProofStateOf bank table full r → full.register ≡ s.register → full.splits ≡ s.splits → full.asserting ≡ s.asserting → AreAmong count full)
      → AreFlippedSoFar was jobs s t count → IsProofStateOf bank table t r
  flipped-ends t count bank table r is among so_far =
      let came = so_far.came bank table r is in
      model-ends bank table t jobs was came.0 count r came.1
      (subst (λ (v : ProofState). AreLookedAt r (is_awake (record r { model = was })) came.0 (AssertsNoFlip count was v)) (sym so_far.rest) came.2)
      (among (with_queue (map (pair_of r) (ready r)) t) came.1.proof
      (ap (λ (v : ProofState). v.register) so_far.rest) (ap (λ (v : ProofState). v.splits) so_far.rest) (ap (λ (v : ProofState). v.asserting) so_far.rest))

  -- all tags of 32 bits
  pub flipped-fit :
      (t : ProofState) (count : ℕ) (bank : Bank) (table : Table) (r : PoolRecord)
      → IsWakingStateOf bank table s jobs (is_awake (record r { model = was })) r
      → All (λ (a : Assertion). a.tag < 2 ^ 32) s.asserting.entries → 2 ^ 32 ≤ count
      → AreFlippedSoFar was jobs s t count → IsProofStateOf bank table t r
  flipped-fit t count bank table r is fit wide so_far =
      flipped-ends t count bank table r is
      (λ full whole register splits asserting.
      all-fit bank table full r whole was count
      (subst (λ (x : Assertions). All (λ (a : Assertion). a.tag < 2 ^ 32) x.entries) (sym asserting) fit) wide) so_far

  -- all tags of parts
  pub flipped-all :
      (t : ProofState) (count : ℕ) (bank : Bank) (table : Table) (r : PoolRecord)
      → IsWakingStateOf bank table s jobs (is_awake (record r { model = was })) r
      → length s.splits.parts.parts ≤ count
      → AreFlippedSoFar was jobs s t count → IsProofStateOf bank table t r
  flipped-all t count bank table r is wide so_far =
      flipped-ends t count bank table r is
      (λ full whole register splits asserting.
      all-tagged bank table full r whole was count
      (let same : length full.splits.parts.parts ≡ length s.splits.parts.parts = ap (λ (x : Splits). length x.parts.parts) splits in omega (arith, same, wide))) so_far
