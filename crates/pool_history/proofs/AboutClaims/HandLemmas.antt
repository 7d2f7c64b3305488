-- The clauses whose jobs are out: each is registered, is not active, and is in one job's hand.
use Rattle.std.proofs.Common.{◌≡◌, ◌≢◌, ℕ, ◌+◌, ◌<◌, ◌≤◌, Bool, true, false, not, ◌||◌, ◌==◌, List, [], ◌∷◌, ◌++◌, map, length, refl, ap, sym, ◌∙◌, subst, arith}
use Rattle.std.specs.Prelude.{Option, None, Some, cond, is_none, is_some, find, filter, fold, AllPairs, if◌then◌else◌}
use Rattle.std.specs.List.{list_any, list_all, AllByRecursion}
use Rattle.std.proofs.lemmas.Bool.{true≢false, and_from, or_parts, or_from, eq-eqb, not_from_false}
use Rattle.std.proofs.lemmas.List.{length-append}
use Rattle.std.proofs.lemmas.List.Elements.{All-from_recursion}
use Rattle.std.proofs.lemmas.List.Folds.{list_any-append}
use Rattle.std.proofs.lemmas.List.Kept.{AllPairs-cons}
use Rattle.std.proofs.lemmas.Option.{none-some, same_Some}
use Rattle.kernel_steps.specs.Split.{has_number}
use Rattle.sat_core.specs.declared.answer.Chain as log
use Rattle.pool_history.specs.Record.{PoolRecord, GivenJob, SolverJob, given_job, without_job, nothing_registered}
use Rattle.pool_history.specs.Claiming.{next_given, new_job}
use Rattle.pool_history.specs.Returning.{removed, becomes_active, worked, returns_to}
use Rattle.pool_history.specs.Solving.{modelled_by, refuted_by}
use Rattle.pool_history.specs.Replay.{Origin, after, start, replay, retold}
use Rattle.pool_history.specs.Lawful.{IsAllowed, IsLawfulFrom, IsLawful}
use Rattle.pool_history.specs.Laws.{OneJobAClause}
use Rattle.pool_history.specs.declared.options.Options.{Options}
use Rattle.pool_history.specs.declared.batch.Batch.{Batch}
use Rattle.pool_history.specs.declared.batch.Work.{Work}
use Rattle.pool_history.specs.declared.batch.Work.TheVariants.{Gone, Met}
use Rattle.pool_history.specs.declared.event.Event.{Event}
use Rattle.pool_history.specs.declared.event.Event.TheVariants.{Claim, Return, Stale, Void, ClaimSolve, ReturnModel, ReturnRefuted, Abandon}
use Rattle.pool_history.proofs.AboutRecords.EditLemmas.{eq-sym}
use Rattle.pool_history.proofs.AboutRecords.FrameLemmas.{by-if, inputs-register}
use Rattle.pool_history.proofs.AboutRecords.GrowthLemmas.{Grows, grows-all, removed-grows, met-grows, registers-grows, waiting-parts}
use Rattle.pool_history.proofs.AboutClaims.ClaimedRecords.{after-claim, positions_with, given-waits}

-- ---- lists of jobs

-- each of another clause
abbrev pub Apart : List GivenJob → Type 0
Apart [] = Unit {0}
Apart (j ∷ js) = (list_any (λ (k : GivenJob). j.number == k.number) js ≡ false) × Apart js

none-filter : (p keep : GivenJob → Bool) (js : List GivenJob) → list_any p js ≡ false → list_any p (filter keep js) ≡ false
none-filter p keep [] none = refl
none-filter p keep (j ∷ js) none =
    let parts = or_parts (p j) (list_any p js) none in
    by (keep j) parts.0 (none-filter p keep js parts.1)
  where
    by : (b : Bool) → p j ≡ false → list_any p (filter keep js) ≡ false → list_any p (cond b (j ∷ filter keep js) (filter keep js)) ≡ false
    by true here rest = or_from (p j) (list_any p (filter keep js)) here rest
    by false here rest = rest

apart-filter : (keep : GivenJob → Bool) (js : List GivenJob) → Apart js → Apart (filter keep js)
apart-filter keep [] apart = tt
apart-filter keep (j ∷ js) apart = by (keep j) (apart-filter keep js apart.1)
  where
    by : (b : Bool) → Apart (filter keep js) → Apart (cond b (j ∷ filter keep js) (filter keep js))
    by true rest = (none-filter (λ (k : GivenJob). j.number == k.number) keep js apart.0, rest)
    by false rest = rest

pub all-filter : (P : GivenJob → Type 0) (keep : GivenJob → Bool) (js : List GivenJob) → AllByRecursion P js → AllByRecursion P (filter keep js)
all-filter P keep [] all = tt
all-filter P keep (j ∷ js) all = by (keep j) (all-filter P keep js all.1)
  where
    by : (b : Bool) → AllByRecursion P (filter keep js) → AllByRecursion P (cond b (j ∷ filter keep js) (filter keep js))
    by true rest = (all.0, rest)
    by false rest = rest

pub all-end : (P : GivenJob → Type 0) (js : List GivenJob) (j : GivenJob) → AllByRecursion P js → P j → AllByRecursion P (js ++ j ∷ [])
all-end P [] j all last = (last, tt)
all-end P (k ∷ ks) j all last = (all.0, all-end P ks j all.1 last)

pub all-weaker : (P Q : GivenJob → Type 0) → ((j : GivenJob) → P j → Q j) → (js : List GivenJob) → AllByRecursion P js → AllByRecursion Q js
all-weaker P Q weaker [] all = tt
all-weaker P Q weaker (j ∷ js) all = (weaker j all.0, all-weaker P Q weaker js all.1)

all-both : (P Q R : GivenJob → Type 0) → ((j : GivenJob) → P j → Q j → R j) → (js : List GivenJob) → AllByRecursion P js → AllByRecursion Q js → AllByRecursion R js
all-both P Q R both [] ps qs = tt
all-both P Q R both (j ∷ js) ps qs = (both j ps.0 qs.0, all-both P Q R both js ps.1 qs.1)

apart-end : (js : List GivenJob) (j : GivenJob) → Apart js → list_any (λ (k : GivenJob). j.number == k.number) js ≡ false → Apart (js ++ j ∷ [])
apart-end [] j apart none = (refl, tt)
apart-end (k ∷ ks) j apart none =
    let parts = or_parts (j.number == k.number) (list_any (λ (i : GivenJob). j.number == i.number) ks) none in (
      list_any-append (λ (i : GivenJob). k.number == i.number) ks (j ∷ [])
          ∙ or_from (list_any (λ (i : GivenJob). k.number == i.number) ks) ((k.number == j.number) || false) apart.0
          (or_from (k.number == j.number) false (eq-sym k.number j.number ∙ parts.0) refl),
      apart-end ks j apart.1 parts.1,
    )

module _ (f : GivenJob → GivenJob) (same : (j : GivenJob) → (f j).number ≡ j.number) where
  any-map : (n : ℕ) (js : List GivenJob) → list_any (λ (k : GivenJob). n == k.number) (map f js) ≡ list_any (λ (k : GivenJob). n == k.number) js
  any-map n [] = refl
  any-map n (j ∷ js) =
      ap (λ m. (n == m) || list_any (λ (k : GivenJob). n == k.number) (map f js)) (same j) ∙ ap (λ b. (n == j.number) || b) (any-map n js)

  apart-map : (js : List GivenJob) → Apart js → Apart (map f js)
  apart-map [] apart = tt
  apart-map (j ∷ js) apart =
      (ap (λ n. list_any (λ (k : GivenJob). n == k.number) (map f js)) (same j) ∙ any-map j.number js ∙ apart.0, apart-map js apart.1)

  all-map : (P : ℕ → Type 0) (js : List GivenJob) → AllByRecursion (λ (j : GivenJob). P j.number) js → AllByRecursion (λ (j : GivenJob). P j.number) (map f js)
  all-map P [] all = tt
  all-map P (j ∷ js) all = (subst P (sym (same j)) all.0, all-map P js all.1)

-- the clauses of a list of which none is this one
none-all : (n : ℕ) (js : List GivenJob) → list_any (λ (k : GivenJob). n == k.number) js ≡ false → AllByRecursion (λ (k : GivenJob). (k.number == n) ≡ false) js
none-all n [] none = tt
none-all n (j ∷ js) none =
    let parts = or_parts (n == j.number) (list_any (λ (k : GivenJob). n == k.number) js) none in
    (eq-sym j.number n ∙ parts.0, none-all n js parts.1)

pub all-none : (n : ℕ) (js : List GivenJob) → AllByRecursion (λ (k : GivenJob). (k.number == n) ≡ false) js → list_any (λ (k : GivenJob). n == k.number) js ≡ false
all-none n [] all = refl
all-none n (j ∷ js) all = or_from (n == j.number) (list_any (λ (k : GivenJob). n == k.number) js) (eq-sym n j.number ∙ all.0) (all-none n js all.1)

-- what holds of all holds of the one that is found
pub all-found : (P : GivenJob → Type 0) (job : ℕ) (js : List GivenJob) (j : GivenJob) → AllByRecursion P js → find (λ (k : GivenJob). k.job == job) js ≡ Some j → P j
all-found P job [] j all found = absurd (none-some j found)
all-found P job (k ∷ ks) j all found = by (k.job == job) found (all-found P job ks j all.1)
  where
    by : (b : Bool) → cond b (Some k) (find (λ (k : GivenJob). k.job == job) ks) ≡ Some j → (find (λ (k : GivenJob). k.job == job) ks ≡ Some j → P j) → P j
    by true found rest = subst P (same_Some k j found) all.0
    by false found rest = rest found

-- the others are of other clauses
pub others-apart :
    (job : ℕ) (js : List GivenJob) (j : GivenJob)
    → Apart js → find (λ (k : GivenJob). k.job == job) js ≡ Some j → AllByRecursion (λ (k : GivenJob). (k.number == j.number) ≡ false) (without_job job js)
others-apart job [] j apart found = tt
others-apart job (k ∷ ks) j apart found = by (k.job == job) found (λ found. others-apart job ks j apart.1 found)
  where
    by :
        (b : Bool) → cond b (Some k) (find (λ (k : GivenJob). k.job == job) ks) ≡ Some j
        → (find (λ (k : GivenJob). k.job == job) ks ≡ Some j → AllByRecursion (λ (k : GivenJob). (k.number == j.number) ≡ false) (without_job job ks))
        → AllByRecursion (λ (k : GivenJob). (k.number == j.number) ≡ false) (cond (not b) (k ∷ without_job job ks) (without_job job ks))
    by true found rest =
        subst (λ (i : GivenJob). AllByRecursion (λ (k : GivenJob). (k.number == i.number) ≡ false) (without_job job ks)) (same_Some k j found)
        (all-filter (λ (i : GivenJob). (i.number == k.number) ≡ false) (λ (i : GivenJob). not (i.job == job)) ks (none-all k.number ks apart.0))
    by false found rest =
        (eq-sym k.number j.number ∙ all-found (λ (i : GivenJob). (i.number == k.number) ≡ false) job ks j (none-all k.number ks apart.0) found, rest found)

-- ---- records

pub record AreInHand (r : PoolRecord) : Type 0 where
  pub apart : Apart r.given
  pub idle : AllByRecursion (λ (j : GivenJob). has_number j.number r.active ≡ false) r.given
  pub known : AllByRecursion (λ (j : GivenJob). j.number < length r.registered) r.given

still-known : (r s : PoolRecord) (js : List GivenJob) → length r.registered ≤ length s.registered → AllByRecursion (λ (j : GivenJob). j.number < length r.registered) js → AllByRecursion (λ (j : GivenJob). j.number < length s.registered) js
still-known r s js more known = all-weaker (λ (j : GivenJob). j.number < length r.registered) (λ (j : GivenJob). j.number < length s.registered) (λ j below. omega (arith, below, more)) js known

-- nothing changes of the jobs, or some go
fewer-in-hand : (keep : GivenJob → Bool) (r s : PoolRecord) → s.given ≡ filter keep r.given → s.active ≡ r.active → length r.registered ≤ length s.registered → AreInHand r → AreInHand s
fewer-in-hand keep r s given active more hands = record {
  apart = subst Apart (sym given) (apart-filter keep r.given hands.apart);
  idle =
      subst (λ js. AllByRecursion (λ (j : GivenJob). has_number j.number s.active ≡ false) js) (sym given)
      (subst (λ ns. AllByRecursion (λ (j : GivenJob). has_number j.number ns ≡ false) (filter keep r.given)) (sym active)
      (all-filter (λ (j : GivenJob). has_number j.number r.active ≡ false) keep r.given hands.idle));
  known =
      subst (λ js. AllByRecursion (λ (j : GivenJob). j.number < length s.registered) js) (sym given)
      (still-known r s (filter keep r.given) more (all-filter (λ (j : GivenJob). j.number < length r.registered) keep r.given hands.known));
}

pub same-in-hand : (r s : PoolRecord) → s.given ≡ r.given → s.active ≡ r.active → length r.registered ≤ length s.registered → AreInHand r → AreInHand s
same-in-hand r s given active more hands = record {
  apart = subst Apart (sym given) hands.apart;
  idle =
      subst (λ js. AllByRecursion (λ (j : GivenJob). has_number j.number s.active ≡ false) js) (sym given)
      (subst (λ ns. AllByRecursion (λ (j : GivenJob). has_number j.number ns ≡ false) r.given) (sym active) hands.idle);
  known =
      subst (λ js. AllByRecursion (λ (j : GivenJob). j.number < length s.registered) js) (sym given) (still-known r s r.given more hands.known);
}

longer : (r s : PoolRecord) → Grows r s → length r.registered ≤ length s.registered
longer r s grown =
    let same : length s.registered ≡ length (r.registered ++ grown.clauses.0) = ap length grown.clauses.1 in
    omega (arith, same, length-append r.registered grown.clauses.0)

module _ (is_predicate : ℕ → Bool) (options : Options) where
  abbrev without : ℕ → PoolRecord → PoolRecord
  without job r = record r { given = without_job job r.given }

  -- the clause of the job is active then
  active-in-hand : (job : ℕ) (j : GivenJob) (r s : PoolRecord) → given_job r job ≡ Some j → Grows (becomes_active j.number (without job r)) s → AreInHand r → AreInHand s
  active-in-hand job j r s found grown hands =
      same-in-hand (becomes_active j.number (without job r)) s grown.given grown.active (longer (becomes_active j.number (without job r)) s grown)
      (record {
        apart = apart-filter (λ (k : GivenJob). not (k.job == job)) r.given hands.apart;
        idle =
            all-both (λ (k : GivenJob). has_number k.number r.active ≡ false) (λ (k : GivenJob). (k.number == j.number) ≡ false)
            (λ (k : GivenJob). has_number k.number (r.active ++ j.number ∷ []) ≡ false)
            (λ k idle other.
            list_any-append (λ m. k.number == m) r.active (j.number ∷ [])
            ∙ or_from (has_number k.number r.active) ((k.number == j.number) || false) idle (or_from (k.number == j.number) false other refl))
            (without_job job r.given)
            (all-filter (λ (k : GivenJob). has_number k.number r.active ≡ false) (λ (k : GivenJob). not (k.job == job)) r.given hands.idle)
            (others-apart job r.given j hands.apart found);
        known = all-filter (λ (k : GivenJob). k.number < length r.registered) (λ (k : GivenJob). not (k.job == job)) r.given hands.known;
      })

  gone-in-hand : (job : ℕ) (r s : PoolRecord) → Grows (without job r) s → AreInHand r → AreInHand s
  gone-in-hand job r s grown hands =
      fewer-in-hand (λ (k : GivenJob). not (k.job == job)) r s grown.given grown.active (longer (without job r) s grown) hands

  worked-in-hand : (job : ℕ) (j : GivenJob) (work : Work) (r : PoolRecord) → given_job r job ≡ Some j → AreInHand r → AreInHand (worked options j.number work (without job r))
  worked-in-hand job j (Gone m) r found hands = gone-in-hand job r (removed options m (without job r)) (removed-grows options m (without job r)) hands
  worked-in-hand job j (Met entries removals) r found hands =
      active-in-hand job j r (worked options j.number (Met entries removals) (without job r)) found (met-grows options j.number entries removals (without job r)) hands

  returned-in-hand : (batch : Batch) (o : Option GivenJob) (r : PoolRecord) → given_job r batch.job ≡ o → AreInHand r → AreInHand (returns_to options batch o r)
  returned-in-hand batch None r found hands = hands
  returned-in-hand batch (Some j) r found hands =
      by-if AreInHand (is_none r.ended) (worked options j.number batch.work (without batch.job r)) (becomes_active j.number (without batch.job r))
      (worked-in-hand batch.job j batch.work r found hands)
      (active-in-hand batch.job j r (becomes_active j.number (without batch.job r)) found (grows-all (becomes_active j.number (without batch.job r))) hands)

  claimed-in-hand : (job n : ℕ) (r : PoolRecord) → next_given r ≡ Some n → AreInHand r → AreInHand (after options r (Claim job))
  claimed-in-hand job n r next hands =
      let waits = given-waits r n next in
      let is = waiting-parts r n waits.0 in
      let j : GivenJob = new_job options job n (record r { positions = positions_with n r }) in
      subst AreInHand (sym (after-claim options job n r next))
      (record {
        apart = apart-end r.given j hands.apart is.in_hand;
        idle = all-end (λ (k : GivenJob). has_number k.number r.active ≡ false) r.given j hands.idle is.idle;
        known = all-end (λ (k : GivenJob). k.number < length r.registered) r.given j hands.known waits.1;
      })

  modelled-in-hand : (o : Option SolverJob) (truths : List Bool) (r : PoolRecord) → AreInHand r → AreInHand (modelled_by o truths r)
  modelled-in-hand None truths r hands = hands
  modelled-in-hand (Some s) truths r hands = record { apart = hands.apart; idle = hands.idle; known = hands.known }

  refuted-in-hand : (o : Option SolverJob) (chains : List log.Chain) (r : PoolRecord) → AreInHand r → AreInHand (refuted_by o chains r)
  refuted-in-hand None chains r hands = hands
  refuted-in-hand (Some s) chains r hands =
      by-if AreInHand (is_none r.ended) _ _ (record { apart = hands.apart; idle = hands.idle; known = hands.known })
      (record { apart = hands.apart; idle = hands.idle; known = hands.known })

  -- counting an event changes nothing of them
  counted-in-hand : (r : PoolRecord) (count : ℕ) → AreInHand r → AreInHand (record r { events = count })
  counted-in-hand r count hands = record { apart = hands.apart; idle = hands.idle; known = hands.known }

  retold-number : (job : ℕ) (r : PoolRecord) (j : GivenJob) → (if j.job == job then retold r j else j).number ≡ j.number
  retold-number job r j = by-if (λ (i : GivenJob). i.number ≡ j.number) (j.job == job) (retold r j) j refl refl

  pub after-in-hand : (r : PoolRecord) (e : Event) → IsAllowed is_predicate options r e → AreInHand r → AreInHand (after options r e)
  after-in-hand r (Claim job) allowed hands =
      by (next_given r) refl allowed.2
    where
      by : (o : Option ℕ) → next_given r ≡ o → is_some o ≡ true → AreInHand (after options r (Claim job))
      by None e is = absurd (true≢false (sym is))
      by (Some n) e is = claimed-in-hand job n r e hands
  after-in-hand r (Return batch) allowed hands = counted-in-hand (returns_to options batch (given_job r batch.job) r) (r.events + 1) (returned-in-hand batch (given_job r batch.job) r refl hands)
  after-in-hand r (Stale job justifier) allowed hands = record {
    apart = apart-map (λ (j : GivenJob). if j.job == job then retold r j else j) (retold-number job r) r.given hands.apart;
    idle = all-map (λ (j : GivenJob). if j.job == job then retold r j else j) (retold-number job r) (λ n. has_number n r.active ≡ false) r.given hands.idle;
    known = all-map (λ (j : GivenJob). if j.job == job then retold r j else j) (retold-number job r) (λ n. n < length r.registered) r.given hands.known;
  }
  after-in-hand r (Void job) allowed hands =
      fewer-in-hand (λ (k : GivenJob). not (k.job == job)) r (after options r (Void job)) refl refl (omega arith) hands
  after-in-hand r (ClaimSolve job) allowed hands = record { apart = hands.apart; idle = hands.idle; known = hands.known }
  after-in-hand r (ReturnModel job truths) allowed hands = counted-in-hand (modelled_by r.solver truths r) (r.events + 1) (modelled-in-hand r.solver truths r hands)
  after-in-hand r (ReturnRefuted job chains) allowed hands = counted-in-hand (refuted_by r.solver chains r) (r.events + 1) (refuted-in-hand r.solver chains r hands)
  after-in-hand r (Abandon job) allowed hands =
      fewer-in-hand (λ (k : GivenJob). not (k.job == job)) r (after options r (Abandon job)) refl refl (omega arith) hands

  history-in-hand : (es : List Event) (r : PoolRecord) → IsLawfulFrom is_predicate options r es → AreInHand r → AreInHand (fold (after options) r es)
  history-in-hand [] r lawful hands = hands
  history-in-hand (e ∷ es) r lawful hands = history-in-hand es (after options r e) lawful.1 (after-in-hand r e lawful.0 hands)

pub hands-of : (is_predicate : ℕ → Bool) (origin : Origin) (es : List Event) → IsLawful is_predicate origin es → AreInHand (replay origin es)
hands-of is_predicate origin es lawful =
    let begun = registers-grows nothing_registered (start origin) (inputs-register origin.options.split 0 origin.inputs nothing_registered) in
    history-in-hand is_predicate origin.options es (start origin) lawful
    (same-in-hand nothing_registered (start origin) begun.given begun.active (omega arith) (record { apart = tt; idle = tt; known = tt }))

-- ---- the law

pub one_job_a_clause : OneJobAClause
one_job_a_clause is_predicate origin history lawful =
    let hands = hands-of is_predicate origin history lawful in
    let r : PoolRecord = replay origin history in
    (pairs r.given hands.apart, none-active r.active r.given hands.idle)
  where
    pairs : (js : List GivenJob) → Apart js → AllPairs (λ (j k : GivenJob). j.number ≢ k.number) js
    pairs [] apart = λ i j d less within. absurd (omega (arith, within))
    pairs (j ∷ js) apart =
        AllPairs-cons (λ (i k : GivenJob). i.number ≢ k.number) j js
        (All-from_recursion (λ (k : GivenJob). j.number ≢ k.number) js
        (all-weaker (λ (k : GivenJob). (k.number == j.number) ≡ false) (λ (k : GivenJob). j.number ≢ k.number)
        (λ k other same. true≢false (sym (eq-eqb k.number j.number (sym same)) ∙ other)) js (none-all j.number js apart.0)))
        (pairs js apart.1)

    none-active : (active : List ℕ) (js : List GivenJob) → AllByRecursion (λ (j : GivenJob). has_number j.number active ≡ false) js → list_all (λ (j : GivenJob). not (has_number j.number active)) js ≡ true
    none-active active [] all = refl
    none-active active (j ∷ js) all =
        and_from (not (has_number j.number active)) (list_all (λ (k : GivenJob). not (has_number k.number active)) js)
        (not_from_false (has_number j.number active) all.0) (none-active active js all.1)
