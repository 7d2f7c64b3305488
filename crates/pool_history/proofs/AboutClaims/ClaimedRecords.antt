-- The record after a claim: positions, what is given, what waits, jobs.
use Rattle.std.proofs.Common.{◌≡◌, ℕ, zero, suc, ◌+◌, ◌<◌, Bool, true, false, not, ◌&&◌, ◌||◌, ◌==◌, List, [], ◌∷◌, ◌++◌, map, length, append-nil, refl, ap, ap₂, sym, ◌∙◌, inl, inr, arith}
use Rattle.std.specs.Prelude.{None, Some, cond, nat_lt, if◌then◌else◌, find, filter, position}
use Rattle.std.specs.List.{range_with_len, position_or_len}
use Rattle.std.proofs.Math.Seq.{drop-append_seam, drop-length}
use Rattle.std.proofs.lemmas.Bool.{true≢false, and_parts, le-ltb, eq-eqb, ne_eqb, cond-true, cond-false, or_parts}
use Rattle.std.proofs.lemmas.List.Folds.{list_any-append}
use Rattle.std.proofs.lemmas.Option.{none-some}
use Rattle.fol_base.specs.Clause.{clause_size}
use Rattle.kernel_steps.specs.Split.{has_number}
use Rattle.clause_queue.specs.Pairs.{without}
use Rattle.pool_history.specs.Record.{PoolRecord, Death, GivenJob, clause_numbered, numbers_of, lives, is_out, waits, is_awake}
use Rattle.pool_history.specs.Claiming.{ready, next_given, new_job, given_out, claimed_by, pair_of}
use Rattle.pool_history.specs.Replay.{with_events, after}
use Rattle.pool_history.specs.News.{TreeChange, changes_between, first_told}
use Rattle.pool_history.specs.declared.options.Options.{Options}
use Rattle.pool_history.specs.declared.event.Event.TheVariants.{Claim}
use Rattle.pool_history.proofs.AboutRecords.EditLemmas.{filter-less, filter-pairs}
use Rattle.pool_history.proofs.AboutBounds.JobLemmas.{Rising, rising-bound}
use Rattle.pool_history.proofs.AboutClaims.PickLemmas.{In, given-in}
use Rattle.pool_history.proofs.AboutRecords.ItemLemmas.{none-place}

-- ---- numbers in a list

-- the place of a number that isn't there is the list's length
pub absent-place : (n : ℕ) (ns : List ℕ) → has_number n ns ≡ false → position_or_len (λ m. n == m) ns ≡ length ns
absent-place n [] none = refl
absent-place n (m ∷ ms) none =
    let parts = or_parts (n == m) (has_number n ms) none in
    ap (λ b. cond (not b) (1 + position_or_len (λ k. n == k) ms) 0) parts.0
    ∙ let e : 1 + position_or_len (λ k. n == k) ms ≡ suc (length ms) = (let rest = absent-place n ms parts.1 in omega (arith, rest)) in e

-- and that of one that is there is below it
pub present-place : (n : ℕ) (ns : List ℕ) → has_number n ns ≡ true → position_or_len (λ m. n == m) ns < length ns
present-place n [] some = absurd (true≢false (sym some))
present-place n (m ∷ ms) some = by (n == m) refl (present-place n ms)
  where
    by :
        (b : Bool) → (n == m) ≡ b → (has_number n ms ≡ true → position_or_len (λ k. n == k) ms < length ms)
        → position_or_len (λ k. n == k) (m ∷ ms) < suc (length ms)
    by true is below =
        let here : ◌≡◌ {A = ℕ} (position_or_len (λ k. n == k) (m ∷ ms)) 0 = ap (λ b. cond (not b) (1 + position_or_len (λ k. n == k) ms) 0) is in
        omega (arith, here)
    by false is below =
        let later : position_or_len (λ k. n == k) (m ∷ ms) ≡ 1 + position_or_len (λ k. n == k) ms = ap (λ b. cond (not b) (1 + position_or_len (λ k. n == k) ms) 0) is in
        let rest = below (sym (ap (λ b. b || has_number n ms) is) ∙ some) in
        omega (arith, later, rest)

pub absent-position : (n : ℕ) (ns : List ℕ) → has_number n ns ≡ false → position (λ m. n == m) ns ≡ None
absent-position n ns none = cond-false (nat_lt (position_or_len (λ m. n == m) ns) (length ns)) _ _ (le-ltb (position_or_len (λ m. n == m) ns) (length ns) (let e = absent-place n ns none in omega (arith, e)))

-- a number has a position exactly where it is there
pub has-position : (n p : ℕ) (ns : List ℕ) → position (λ m. n == m) ns ≡ Some p → has_number n ns ≡ true
has-position n p ns found = by (has_number n ns) refl
  where
    by : (b : Bool) → has_number n ns ≡ b → b ≡ true
    by true is = refl
    by false is = absurd (none-some p (sym (absent-position n ns is) ∙ found))

pub has-no-position : (n : ℕ) (ns : List ℕ) → position (λ m. n == m) ns ≡ None → has_number n ns ≡ false
has-no-position n ns none = by (has_number n ns) refl
  where
    by : (b : Bool) → has_number n ns ≡ b → b ≡ false
    by true is =
        absurd (let below = present-place n ns is in let place : position_or_len (λ m. n == m) ns ≡ length ns = none-place (λ m. n == m) ns none in omega (arith, below, place))
    by false is = refl

-- ---- the record after a claim

abbrev pub positions_with : ℕ → PoolRecord → List ℕ
positions_with n r = if has_number n r.positions then r.positions else r.positions ++ n ∷ []

abbrev pub claim_after : Options → ℕ → ℕ → PoolRecord → List ℕ → PoolRecord
claim_after options job n r ps = with_events (r.events + 1) (given_out options job n (record r { positions = ps }))

pub after-claim : (options : Options) (job n : ℕ) (r : PoolRecord) → next_given r ≡ Some n → after options r (Claim job) ≡ claim_after options job n r (positions_with n r)
after-claim options job n r next =
    ap (λ o. with_events (r.events + 1) (claimed_by options job o r)) next
    ∙ by (has_number n r.positions)
  where
    by :
        (b : Bool)
        → with_events (r.events + 1) (given_out options job n (if b then r else record r { positions = r.positions ++ n ∷ [] }))
        ≡ claim_after options job n r (if b then r.positions else r.positions ++ n ∷ [])
    by true = refl
    by false = refl

-- what it tells
pub changes-claimed :
    (options : Options) (job n : ℕ) (r : PoolRecord) (ns : List ℕ)
    → changes_between r (claim_after options job n r (r.positions ++ ns)) ≡ map (λ k. TreeChange.activated k (clause_numbered r k)) ns
changes-claimed options job n r ns =
    ap₂ (λ (ms : List ℕ) (ds : List Death). map (λ k. TreeChange.activated k (clause_numbered r k)) ms ++ map (λ (d : Death). TreeChange.died d.victim) ds)
    (drop-append_seam r.positions ns) (drop-length r.deaths)
    ∙ append-nil (map (λ k. TreeChange.activated k (clause_numbered r k)) ns)

pub told-first : (options : Options) (job n : ℕ) (r : PoolRecord) → changes_between r (claim_after options job n r (positions_with n r)) ≡ first_told r n
told-first options job n r = by (has_number n r.positions)
  where
    by :
        (b : Bool)
        → changes_between r (claim_after options job n r (if b then r.positions else r.positions ++ n ∷ []))
        ≡ (if b then [] else TreeChange.activated n (clause_numbered r n) ∷ [])
    by true = ap (λ ps. changes_between r (claim_after options job n r ps)) (sym (append-nil r.positions)) ∙ changes-claimed options job n r []
    by false = changes-claimed options job n r (n ∷ [])

-- ---- what is given

pub in-filter : (p : ℕ → Bool) (m from count : ℕ) → In m (filter p (range_with_len from count)) → (p m ≡ true) × (m < from + count)
in-filter p m from zero there = absurd there
in-filter p m from (suc count) there = by (p from) refl (in-filter p m (from + 1) count) there
  where
    by :
        (b : Bool) → p from ≡ b
        → (In m (filter p (range_with_len (from + 1) count)) → (p m ≡ true) × (m < from + 1 + count))
        → In m (cond b (from ∷ filter p (range_with_len (from + 1) count)) (filter p (range_with_len (from + 1) count)))
        → (p m ≡ true) × (m < from + suc count)
    by true is rest (inl same) = (ap p same ∙ is, omega (arith, same))
    by true is rest (inr later) = let found = rest later in (found.0, let below = found.1 in omega (arith, below))
    by false is rest later = let found = rest later in (found.0, let below = found.1 in omega (arith, below))

-- the clause that is given waits and is registered
pub given-waits : (r : PoolRecord) (n : ℕ) → next_given r ≡ Some n → (waits r n ≡ true) × (n < length r.registered)
given-waits r n next =
    let found = in-filter (λ k. waits r k && is_awake r k) n 0 (length r.registered) (given-in r n next) in
    ((and_parts (waits r n) (is_awake r n) found.0).0, let below = found.1 in omega (arith, below))

-- ---- what waits after a claim

one-less : (l o e i w : Bool) → ((l && (not (o || (e || false)) && i)) && w) ≡ (((l && (not o && i)) && w) && not e)
one-less false o e i w = refl
one-less true true e i w = refl
one-less true false true i w = sym (none ((not false && i) && w))
  where
    none : (b : Bool) → (b && false) ≡ false
    none true = refl
    none false = refl
one-less true false false i w = sym (all (i && w))
  where
    all : (b : Bool) → (b && true) ≡ b
    all true = refl
    all false = refl

pub ready-claimed :
    (options : Options) (job n : ℕ) (r : PoolRecord) (ps : List ℕ)
    → map (pair_of (claim_after options job n r ps)) (ready (claim_after options job n r ps)) ≡ without n (map (pair_of r) (ready r))
ready-claimed options job n r ps =
    ap (map (pair_of r))
    (filter-less (λ k. waits r k && is_awake r k) (λ k. waits s k && is_awake s k) n (numbers_of r) (λ k.
    ap (λ b. (lives r k && (not b && not (has_number k r.active))) && is_awake r k)
    (list_any-append (λ (j : GivenJob). k == j.number) r.given (new_job options job n (record r { positions = ps }) ∷ []))
    ∙ one-less (lives r k) (is_out r k) (k == n) (not (has_number k r.active)) (is_awake r k)))
    ∙ sym (filter-pairs (λ k. clause_size (clause_numbered r k)) (λ k. not (k == n)) (ready r))
  where
    s : PoolRecord
    s = claim_after options job n r ps

-- ---- jobs

-- the job that comes last is found
pub find-last :
    (low high : ℕ) (js : List GivenJob) (j : GivenJob)
    → Rising low high js → high < j.job → find (λ (i : GivenJob). i.job == j.job) (js ++ j ∷ []) ≡ Some j
find-last low high [] j rise above = cond-true (j.job == j.job) (Some j) None (eq-eqb j.job j.job refl)
find-last low high (i ∷ is) j rise above =
    cond-false (i.job == j.job) _ _ (ne_eqb i.job j.job (λ e. absurd (let more = rising-bound i.job high is rise.1 in omega (arith, e, above, more))))
    ∙ find-last i.job high is j rise.1 above
