-- The state of a pool that is open, beside what is covered: who died, what jobs are told, and what clauses met. Each event but a return keeps
-- it.
use Rattle.std.proofs.Common.{◌≡◌, ℕ, ◌+◌, Bool, true, false, not, ◌==◌, List, [], ◌∷◌, ◌++◌, length, map, append-nil, refl, sym, ◌∙◌, subst, arith, if◌then◌else◌}
use Rattle.std.specs.Prelude.{Option, None, Some, nat_lt}
use Rattle.std.specs.List.{list_all, AllByRecursion}
use Rattle.fol_base.specs.Selection.{SelectionMode}
use Rattle.kbo_order.proofs.AboutMultisets.MemberLemmas.{In, In-left}
use Rattle.kernel_steps.specs.Split.{has_number}
use Rattle.kernel_steps.specs.declared.key.Key.{Key}
use Rattle.literal_selection.specs.Mode.{mode_of}
use Rattle.kernel_steps.proofs.AboutSplits.SplitTables.{has-right}
use Rattle.pool_history.specs.Record.{PoolRecord, Registered, Death, GivenJob, without_job}
use Rattle.pool_history.specs.Claiming.{new_job, next_given, claimed_by}
use Rattle.pool_history.specs.Replay.{retold, with_events, after}
use Rattle.pool_history.specs.declared.options.Options.{Options}
use Rattle.pool_history.specs.declared.event.Event.TheVariants.{Claim}
use Rattle.pool_history.proofs.AboutClaims.ClaimedRecords.{positions_with, claim_after, after-claim}
use Rattle.pool_history.proofs.AboutRecords.FrameLemmas.{by-if}
use Rattle.pool_history.proofs.AboutClaims.HandLemmas.{all-filter, all-end, all-weaker}
use Rattle.pool_history.proofs.AboutRecords.PlaceLemmas.{Placed, has-first}
use Rattle.laws_saturation.specs.Found.{Find}
use Rattle.laws_saturation.proofs.AboutCarried.VictimLemmas.{Victims}
use Rattle.laws_saturation.proofs.AboutCarried.MeetingLemmas.{IsToldRight, HaveMet, told-later, told-now, met-later}

-- ---- lists that are continued

abbrev pub Extends : {X : Type 0} → List X → List X → Type 0
Extends {X} xs ys = (more : List X) × (ys ≡ xs ++ more)

pub extends-same : {X : Type 0} (xs ys : List X) → ys ≡ xs → Extends xs ys
extends-same xs ys same = ([], same ∙ sym (append-nil xs))

pub told-grown :
    (limit : ℕ) (ps qs : List ℕ) (ds es : List Death) (ks ls : List Key) (js : List GivenJob)
    → Extends ps qs → Extends ds es → Extends ks ls
    → AllByRecursion (IsToldRight limit ps ds ks) js → AllByRecursion (IsToldRight limit qs es ls) js
told-grown limit ps qs ds es ks ls js places deaths counted told =
    subst (λ xs. AllByRecursion (IsToldRight limit xs es ls) js) (sym places.1)
    (subst (λ xs. AllByRecursion (IsToldRight limit (ps ++ places.0) xs ls) js) (sym deaths.1)
    (subst (λ xs. AllByRecursion (IsToldRight limit (ps ++ places.0) (ds ++ deaths.0) xs) js) (sym counted.1)
    (all-weaker (IsToldRight limit ps ds ks) (IsToldRight limit (ps ++ places.0) (ds ++ deaths.0) (ks ++ counted.0))
    (told-later limit ps places.0 ds deaths.0 ks counted.0) js told)))

pub met-grown :
    (is_predicate : ℕ → Bool) (mode : SelectionMode) (cs xs : List Registered) (ps qs active actives : List ℕ) (ds es : List Death)
    (Few Many : ℕ → Key → Type 0)
    → ((last : ℕ) (key : Key) → Few last key → Many last key)
    → list_all (λ n. nat_lt n (length cs)) ps ≡ true → Extends cs xs → Extends ps qs → actives ≡ active → Extends ds es
    → HaveMet is_predicate mode cs ps active ds Few → HaveMet is_predicate mode xs qs actives es Many
met-grown is_predicate mode cs xs ps qs active actives ds es Few Many grows within clauses places same deaths met =
    subst (λ zs. HaveMet is_predicate mode zs qs actives es Many) (sym clauses.1)
    (subst (λ zs. HaveMet is_predicate mode (cs ++ clauses.0) zs actives es Many) (sym places.1)
    (subst (λ zs. HaveMet is_predicate mode (cs ++ clauses.0) (ps ++ places.0) zs es Many) (sym same)
    (subst (λ zs. HaveMet is_predicate mode (cs ++ clauses.0) (ps ++ places.0) active zs Many) (sym deaths.1)
    (met-later is_predicate mode cs clauses.0 ps places.0 active ds deaths.0 Few Many grows within met))))

-- an inference was counted, and found by the job of a clause
abbrev pub WasFound : List Key → List Find → ℕ → Key → Type 0
WasFound counted finds last key = In key counted × In (record { by = last; key = key }) finds

pub found-more :
    (ks ls : List Key) (finds more : List Find) → Extends ks ls → Extends finds more → (last : ℕ) (key : Key) → WasFound ks finds last key → WasFound ls more last key
found-more ks ls finds more counted found last key was = (
  subst (λ xs. In key xs) (sym counted.1) (In-left key ks counted.0 was.0),
  subst (λ xs. In (record { by = last; key = key }) xs) (sym found.1) (In-left (record { by = last; key = key }) finds found.0 was.1),
)

-- the finds are those of the events so far
module _ (is_predicate : ℕ → Bool) (options : Options) (finds : List Find) where
  abbrev the_mode : SelectionMode
  the_mode = mode_of options.select

  -- ---- states

  pub record IsState (r : PoolRecord) : Type 0 where
    pub victims : Victims r
    pub told : AllByRecursion (IsToldRight options.inferences r.positions r.deaths r.counted) r.given
    pub met : HaveMet is_predicate the_mode r.registered r.positions r.active r.deaths (WasFound r.counted finds)

  abbrev pub HasState : PoolRecord → Type 0
  HasState r = r.ended ≡ None → IsState r

  -- what an event leaves that changes nothing of it
  pub same-state : (r : PoolRecord) (events : ℕ) → IsState r → IsState (with_events events r)
  same-state r events state = record { victims = state.victims; told = state.told; met = state.met }

  -- a job is no longer out
  pub without-state : (r : PoolRecord) (job : ℕ) → IsState r → IsState (record r { given = without_job job r.given })
  without-state r job state = record {
    victims = state.victims;
    told = all-filter (IsToldRight options.inferences r.positions r.deaths r.counted) (λ (j : GivenJob). not (j.job == job)) r.given state.told;
    met = state.met;
  }

  -- ---- a job that is told anew

  pub retold-told :
      (job : ℕ) (r : PoolRecord) (js : List GivenJob)
      → list_all (λ n. nat_lt n (length r.registered)) r.positions ≡ true
      → AllByRecursion (IsToldRight options.inferences r.positions r.deaths r.counted) js
      → AllByRecursion (IsToldRight options.inferences r.positions r.deaths r.counted) (map (λ (j : GivenJob). if j.job == job then retold r j else j) js)
  retold-told job r [] within told = tt
  retold-told job r (j ∷ js) within told = (
    by-if (IsToldRight options.inferences r.positions r.deaths r.counted) (j.job == job) (retold r j) j
        (told-now options.inferences r.registered r.positions r.deaths r.counted (retold r j) (told.0).placed within refl (told.0).enough) told.0,
    retold-told job r js within told.1,
  )

  -- ---- claims

  -- the clause has a position
  record IsPlacedBy (n : ℕ) (ps qs : List ℕ) : Type 0 where
    longer : Extends ps qs
    there : has_number n qs ≡ true

  placed-by : (n : ℕ) (r : PoolRecord) → IsPlacedBy n r.positions (positions_with n r)
  placed-by n r = by (has_number n r.positions) refl
    where
      by : (b : Bool) → has_number n r.positions ≡ b → IsPlacedBy n r.positions (if b then r.positions else r.positions ++ n ∷ [])
      by true is = record { longer = extends-same r.positions r.positions refl; there = is }
      by false none = record { longer = (n ∷ [], refl); there = has-right n r.positions (n ∷ []) (has-first n []) }

  given-state :
      (job n : ℕ) (r : PoolRecord) (ps : List ℕ)
      → IsPlacedBy n r.positions ps → list_all (λ k. nat_lt k (length r.registered)) r.positions ≡ true
      → list_all (λ k. nat_lt k (length r.registered)) ps ≡ true → IsState r → IsState (claim_after options job n r ps)
  given-state job n r ps by before within state =
      let new : GivenJob = new_job options job n (record r { positions = ps }) in
      record {
        victims = state.victims;
        told =
            all-end (IsToldRight options.inferences ps r.deaths r.counted) r.given new
            (told-grown options.inferences r.positions ps r.deaths r.deaths r.counted r.counted r.given by.longer (extends-same r.deaths r.deaths refl)
            (extends-same r.counted r.counted refl) state.told)
            (told-now options.inferences r.registered ps r.deaths r.counted new by.there within refl (omega arith));
        met =
            met-grown is_predicate the_mode r.registered r.registered r.positions ps r.active r.active r.deaths r.deaths (WasFound r.counted finds)
            (WasFound r.counted finds) (λ last key was. was) before (extends-same r.registered r.registered refl) by.longer refl
            (extends-same r.deaths r.deaths refl) state.met;
      }

  pub claimed-state :
      (job : ℕ) (r : PoolRecord) → Placed r → Placed (after options r (Claim job)) → HasState r → HasState (after options r (Claim job))
  claimed-state job r placed placed_after before = by (next_given r) refl
    where
      by : (o : Option ℕ) → next_given r ≡ o → HasState (after options r (Claim job))
      by None none =
          subst (λ p. HasState (with_events (r.events + 1) (claimed_by options job p r))) (sym none) (λ h. same-state r (r.events + 1) (before h))
      by (Some n) next =
          subst HasState (sym (after-claim options job n r next))
          (λ h. given-state job n r (positions_with n r) (placed-by n r) placed.registered (subst Placed (after-claim options job n r next) placed_after).registered (before h))
