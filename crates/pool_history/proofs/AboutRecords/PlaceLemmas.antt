-- Positions hold registered clauses, each once, and what jobs were told: so for every list of events.
use Rattle.std.proofs.Common.{◌≡◌, ◌≢◌, ℕ, zero, suc, ◌+◌, ◌<◌, Bool, true, false, not, ◌==◌, List, [], ◌∷◌, ◌++◌, map, length, get_or, refl, ap, sym, ◌∙◌, subst, arith}
use Rattle.std.specs.Prelude.{Option, None, Some, nat_lt, is_none, fold, filter, AllPairs, if◌then◌else◌}
use Rattle.std.specs.List.{list_all}
use Rattle.std.proofs.lemmas.Bool.{true≢false, and_parts, and_from, or_left, or_right, ltb-true, lt-ltb, eq-eqb}
use Rattle.std.proofs.lemmas.List.{length-append}
use Rattle.std.proofs.lemmas.List.Quantifiers.{all_pairs_push}
use Rattle.fol_base.proofs.WorkedExamples.TestLemmas.{list_all-joined}
use Rattle.kernel_steps.specs.Split.{has_number}
use Rattle.kernel_steps.proofs.AboutSplits.SplitTables.{has-left, has-right}
use Rattle.sat_core.specs.declared.answer.Chain as log
use Rattle.pool_history.specs.Record.{PoolRecord, GivenJob, SolverJob, lives, told_now, given_job, without_job, nothing_registered}
use Rattle.pool_history.specs.Claiming.{new_job, next_given, claimed_by}
use Rattle.pool_history.specs.Returning.{removed, becomes_active, worked, returns_to}
use Rattle.pool_history.specs.Solving.{modelled_by, refuted_by}
use Rattle.pool_history.specs.Replay.{Origin, retold, after, start, replay}
use Rattle.pool_history.specs.Wholeness.{has_positions, PositionsAreRegistered, ToldHavePositions}
use Rattle.pool_history.specs.declared.options.Options.{Options}
use Rattle.pool_history.specs.declared.batch.Batch.{Batch}
use Rattle.pool_history.specs.declared.batch.Work.{Work}
use Rattle.pool_history.specs.declared.batch.Work.TheVariants.{Gone, Met}
use Rattle.pool_history.specs.declared.event.Event.{Event}
use Rattle.pool_history.specs.declared.event.Event.TheVariants.{Claim, Return, Stale, Void, ClaimSolve, ReturnModel, ReturnRefuted, Abandon}
use Rattle.pool_history.proofs.AboutClaims.ClaimedRecords.{after-claim, given-waits}
use Rattle.pool_history.proofs.AboutCounting.DeathLemmas.{all-weaker}
use Rattle.pool_history.proofs.AboutRecords.FrameLemmas.{by-if, inputs-register}
use Rattle.pool_history.proofs.AboutRecords.GrowthLemmas.{Grows, removed-grows, met-grows, registers-grows}
use Rattle.pool_history.proofs.AboutLines.JoinedLemmas.{by-test}

-- ---- lists of numbers

pub has-first : (n : ℕ) (xs : List ℕ) → has_number n (n ∷ xs) ≡ true
has-first n xs = or_left (n == n) (has_number n xs) (eq-eqb n n refl)

-- each number of a list is one of a longer one
pub has-each : (xs ys : List ℕ) → list_all (λ n. has_number n (xs ++ ys)) ys ≡ true
has-each xs [] = refl
has-each xs (y ∷ ys) =
    and_from (has_number y (xs ++ y ∷ ys)) (list_all (λ n. has_number n (xs ++ y ∷ ys)) ys) (has-right y xs (y ∷ ys) (has-first y ys))
    (all-weaker (λ n. has_number n ys) (λ n. has_number n (xs ++ y ∷ ys))
    (λ n there. has-right n xs (y ∷ ys) (or_right (n == y) (has_number n ys) there)) ys (has-each [] ys))

pub all-kept : {X : Type 0} (p q : X → Bool) (xs : List X) → list_all p xs ≡ true → list_all p (filter q xs) ≡ true
all-kept p q [] all = refl
all-kept p q (x ∷ xs) all =
    let parts = and_parts (p x) (list_all p xs) all in
    by-test (λ ys. list_all p ys ≡ true) (q x) (x ∷ filter q xs) (filter q xs)
    (λ kept. and_from (p x) (list_all p (filter q xs)) parts.0 (all-kept p q xs parts.1)) (λ left. all-kept p q xs parts.1)

get-has : (xs : List ℕ) (k d : ℕ) → k < length xs → has_number (get_or xs k d) xs ≡ true
get-has [] k d within = absurd (omega (arith, within))
get-has (x ∷ xs) zero d within = has-first x xs
get-has (x ∷ xs) (suc k) d within = or_right (get_or xs k d == x) (has_number (get_or xs k d) xs) (get-has xs k d (omega (arith, within)))

-- ---- records

pub record IsPlaced (count : ℕ) (positions : List ℕ) (given : List GivenJob) : Type 0 where
  pub registered : list_all (λ n. nat_lt n count) positions ≡ true
  pub differ : AllPairs (λ n m. n ≢ m) positions
  pub told : list_all (has_positions positions) given ≡ true

abbrev pub Placed : PoolRecord → Type 0
Placed r = IsPlaced (length r.registered) r.positions r.given

more-places : (xs ys : List ℕ) (j : GivenJob) → has_positions xs j ≡ true → has_positions (xs ++ ys) j ≡ true
more-places xs ys j h =
    let parts = and_parts (has_number j.number xs) (list_all (λ n. has_number n xs) j.told) h in
    and_from (has_number j.number (xs ++ ys)) (list_all (λ n. has_number n (xs ++ ys)) j.told) (has-left j.number xs ys parts.0)
    (all-weaker (λ n. has_number n xs) (λ n. has_number n (xs ++ ys)) (λ n there. has-left n xs ys there) j.told parts.1)

told-places : (r : PoolRecord) → list_all (λ n. has_number n r.positions) (told_now r) ≡ true
told-places r = all-kept (λ n. has_number n r.positions) (lives r) r.positions (has-each [] r.positions)

placed-grown : (r s : PoolRecord) → Grows r s → Placed r → Placed s
placed-grown r s grown placed =
    subst (λ ps. IsPlaced (length s.registered) ps s.given) (sym grown.positions)
    (subst (IsPlaced (length s.registered) r.positions) (sym grown.given)
    (record {
      registered = all-weaker (λ n. nat_lt n (length r.registered)) (λ n. nat_lt n (length s.registered)) wider r.positions placed.registered;
      differ = placed.differ;
      told = placed.told;
    }))
  where
    wider : (n : ℕ) → nat_lt n (length r.registered) ≡ true → nat_lt n (length s.registered) ≡ true
    wider n below =
        let less : n < length r.registered = ltb-true n (length r.registered) below in
        let count : length s.registered ≡ length r.registered + length grown.clauses.0 =
        ap length grown.clauses.1 ∙ length-append r.registered grown.clauses.0 in
        lt-ltb n (length s.registered) (omega (arith, less, count))

module _ (options : Options) where
  abbrev without : ℕ → PoolRecord → PoolRecord
  without job r = record r { given = without_job job r.given }

  without-placed : (job : ℕ) (r : PoolRecord) → Placed r → Placed (without job r)
  without-placed job r placed = record {
    registered = placed.registered;
    differ = placed.differ;
    told = all-kept (has_positions r.positions) (λ (j : GivenJob). not (j.job == job)) r.given placed.told;
  }

  -- ---- claims

  claimed-places :
      (job n : ℕ) (r : PoolRecord) (ps : List ℕ)
      → list_all (λ k. nat_lt k (length r.registered)) ps ≡ true → AllPairs (λ k m. k ≢ m) ps → has_number n ps ≡ true
      → list_all (has_positions ps) r.given ≡ true
      → IsPlaced (length r.registered) ps (r.given ++ new_job options job n (record r { positions = ps }) ∷ [])
  claimed-places job n r ps registered differ there told =
      let s : PoolRecord = record r { positions = ps } in
      record {
        registered = registered;
        differ = differ;
        told =
            list_all-joined (has_positions ps) r.given (new_job options job n s ∷ []) told
            (and_from (has_positions ps (new_job options job n s)) true
            (and_from (has_number n ps) (list_all (λ k. has_number k ps) (told_now s)) there (told-places s)) refl);
      }

  claimed-placed : (job n : ℕ) (r : PoolRecord) → next_given r ≡ Some n → Placed r → Placed (after options r (Claim job))
  claimed-placed job n r next placed = subst Placed (sym (after-claim options job n r next)) (by (has_number n r.positions) refl)
    where
      below : nat_lt n (length r.registered) ≡ true
      below = lt-ltb n (length r.registered) (given-waits r n next).1

      by :
          (b : Bool) → has_number n r.positions ≡ b
          → let ps : List ℕ = (if b then r.positions else r.positions ++ n ∷ []) in
          IsPlaced (length r.registered) ps (r.given ++ new_job options job n (record r { positions = ps }) ∷ [])
      by true there = claimed-places job n r r.positions placed.registered placed.differ there placed.told
      by false none =
          claimed-places job n r (r.positions ++ n ∷ [])
          (list_all-joined (λ k. nat_lt k (length r.registered)) r.positions (n ∷ []) placed.registered (and_from (nat_lt n (length r.registered)) true below refl))
          (all_pairs_push (λ k m. k ≢ m) r.positions n placed.differ
          (λ k d within same. true≢false (sym (ap (λ m. has_number m r.positions) (sym same) ∙ get-has r.positions k d within) ∙ none)))
          (has-right n r.positions (n ∷ []) (has-first n []))
          (all-weaker (has_positions r.positions) (has_positions (r.positions ++ n ∷ [])) (more-places r.positions (n ∷ [])) r.given placed.told)

  -- ---- other events

  worked-placed : (job n : ℕ) (work : Work) (r : PoolRecord) → Placed r → Placed (worked options n work (without job r))
  worked-placed job n (Gone m) r placed =
      placed-grown (without job r) (removed options m (without job r)) (removed-grows options m (without job r)) (without-placed job r placed)
  worked-placed job n (Met entries removals) r placed =
      placed-grown (becomes_active n (without job r)) (worked options n (Met entries removals) (without job r)) (met-grows options n entries removals (without job r))
      (without-placed job r placed)

  returned-placed : (batch : Batch) (o : Option GivenJob) (r : PoolRecord) → Placed r → Placed (returns_to options batch o r)
  returned-placed batch None r placed = placed
  returned-placed batch (Some j) r placed =
      by-if Placed (is_none r.ended) (worked options j.number batch.work (without batch.job r)) (becomes_active j.number (without batch.job r))
      (worked-placed batch.job j.number batch.work r placed) (without-placed batch.job r placed)

  retold-placed : (job : ℕ) (r : PoolRecord) (js : List GivenJob) → list_all (has_positions r.positions) js ≡ true → list_all (has_positions r.positions) (map (λ (j : GivenJob). if j.job == job then retold r j else j) js) ≡ true
  retold-placed job r [] told = refl
  retold-placed job r (j ∷ js) told =
      let parts = and_parts (has_positions r.positions j) (list_all (has_positions r.positions) js) told in
      let own = and_parts (has_number j.number r.positions) (list_all (λ n. has_number n r.positions) j.told) parts.0 in
      and_from (has_positions r.positions (if j.job == job then retold r j else j))
      (list_all (has_positions r.positions) (map (λ (k : GivenJob). if k.job == job then retold r k else k) js))
      (by-if (λ (k : GivenJob). has_positions r.positions k ≡ true) (j.job == job) (retold r j) j
      (and_from (has_number j.number r.positions) (list_all (λ n. has_number n r.positions) (told_now r)) own.0 (told-places r)) parts.0)
      (retold-placed job r js parts.1)

  modelled-placed : (o : Option SolverJob) (truths : List Bool) (r : PoolRecord) → Placed r → Placed (modelled_by o truths r)
  modelled-placed None truths r placed = placed
  modelled-placed (Some s) truths r placed = placed

  refuted-placed : (o : Option SolverJob) (chains : List log.Chain) (r : PoolRecord) → Placed r → Placed (refuted_by o chains r)
  refuted-placed None chains r placed = placed
  refuted-placed (Some s) chains r placed = by-if Placed (is_none r.ended) _ _ placed placed

  pub after-placed : (r : PoolRecord) (e : Event) → Placed r → Placed (after options r e)
  after-placed r (Claim job) placed = by (next_given r) refl
    where
      by : (o : Option ℕ) → next_given r ≡ o → Placed (after options r (Claim job))
      by None none = subst (λ o. Placed (claimed_by options job o r)) (sym none) placed
      by (Some n) next = claimed-placed job n r next placed
  after-placed r (Return batch) placed = returned-placed batch (given_job r batch.job) r placed
  after-placed r (Stale job justifier) placed = record {
    registered = placed.registered;
    differ = placed.differ;
    told = retold-placed job r r.given placed.told;
  }
  after-placed r (Void job) placed = without-placed job r placed
  after-placed r (ClaimSolve job) placed = placed
  after-placed r (ReturnModel job truths) placed = modelled-placed r.solver truths r placed
  after-placed r (ReturnRefuted job chains) placed = refuted-placed r.solver chains r placed
  after-placed r (Abandon job) placed = without-placed job r placed

  history-placed : (es : List Event) (r : PoolRecord) → Placed r → Placed (fold (after options) r es)
  history-placed [] r placed = placed
  history-placed (e ∷ es) r placed = history-placed es (after options r e) (after-placed r e placed)

pub start-placed : (origin : Origin) → Placed (start origin)
start-placed origin =
    placed-grown nothing_registered (start origin)
    (registers-grows nothing_registered (start origin) (inputs-register origin.options.split 0 origin.inputs nothing_registered))
    (record { registered = refl; differ = λ i j d before within. absurd (omega (arith, within)); told = refl })

pub replay-placed : (origin : Origin) (history : List Event) → Placed (replay origin history)
replay-placed origin history = history-placed origin.options history (start origin) (start-placed origin)

pub positions_are_registered : PositionsAreRegistered
positions_are_registered origin history = let placed = replay-placed origin history in (placed.registered, placed.differ)

pub told_have_positions : ToldHavePositions
told_have_positions origin history = (replay-placed origin history).told
