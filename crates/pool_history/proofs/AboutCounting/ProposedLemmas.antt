-- Each clause that died was removed by a batch: so for every list of events.
use Rattle.std.proofs.Common.{◌≡◌, ℕ, suc, ◌+◌, Bool, true, false, List, [], ◌∷◌, ◌++◌, refl, ap, sym, ◌∙◌, subst, ⊎_elim, inl, inr, arith}
use Rattle.std.specs.Prelude.{Option, None, Some, cond, is_none, fold, find, slice_get, All}
use Rattle.std.proofs.lemmas.Bool.{true≢false}
use Rattle.std.proofs.lemmas.List.Elements.{All-nil, All-push}
use Rattle.kbo_order.proofs.AboutMultisets.MemberLemmas.{In}
use Rattle.kernel_steps.specs.Split.{has_number}
use Rattle.kernel_steps.specs.declared.key.Key.TheVariants.{Replaced}
use Rattle.sat_core.specs.declared.answer.Chain as log
use Rattle.pool_history.specs.Record.{PoolRecord, Death, GivenJob, SolverJob, given_job, without_job, nothing_registered}
use Rattle.pool_history.specs.Claiming.{next_given, given_out, claimed_by}
use Rattle.pool_history.specs.Counting.{lines_of_entries, keys_of, counts}
use Rattle.pool_history.specs.Returning.{removals_of, dies, replaced, removed, takes_effect, proposed, becomes_active, sets_aside, worked, returns_to}
use Rattle.pool_history.specs.Solving.{modelled_by, refuted_by}
use Rattle.pool_history.specs.Replay.{after, start}
use Rattle.pool_history.specs.Laws.{is_removal_of, IsProposedDeath, DeathsWereProposed}
use Rattle.pool_history.specs.declared.options.Options.{Options}
use Rattle.pool_history.specs.declared.batch.Batch.{Batch}
use Rattle.pool_history.specs.declared.batch.Fate.{Fate}
use Rattle.pool_history.specs.declared.batch.Fate.TheVariants.{Kept, Dropped, Heavy}
use Rattle.pool_history.specs.declared.batch.Removal.{Removal}
use Rattle.pool_history.specs.declared.batch.Work.{Work}
use Rattle.pool_history.specs.declared.batch.Work.TheVariants.{Gone, Met}
use Rattle.pool_history.specs.declared.event.Event.{Event}
use Rattle.pool_history.specs.declared.event.Event.TheVariants.{Claim, Return, Stale, Void, ClaimSolve, ReturnModel, ReturnRefuted, Abandon}
use Rattle.pool_history.proofs.AboutClaims.HistoryLemmas.{no-event}
use Rattle.pool_history.proofs.AboutRecords.FrameLemmas.{by-if, inputs-register}
use Rattle.pool_history.proofs.AboutCounting.DeathLemmas.{counts-keeps}
use Rattle.pool_history.proofs.AboutCounting.FirstRemovalLemmas.{death_by, own-removal}

-- an item that passes is found, or an earlier one
find-some : {X : Type 0} (p : X → Bool) (xs : List X) (x : X) → In x xs → p x ≡ true → (y : X) × (find p xs ≡ Some y)
find-some p [] x there passes = absurd there
find-some {X} p (z ∷ zs) x there passes = by (p z) refl (λ later. find-some p zs x later passes)
  where
    by : (b : Bool) → p z ≡ b → (In x zs → (y : X) × (find p zs ≡ Some y)) → (y : X) × (cond b (Some z) (find p zs) ≡ Some y)
    by true is rest = (z, refl)
    by false is rest =
        rest (⊎_elim (λ (here : x ≡ z). absurd (true≢false (sym passes ∙ ap p here ∙ is))) (λ (later : In x zs). later) there)

module _ (options : Options) (Goes : Death → Type 0) where
  abbrev AllGo : PoolRecord → Type 0
  AllGo r = All Goes r.deaths

  -- a removal brings its death alone
  removed-go : (m : Removal) (r : PoolRecord) → Goes (death_by r.events m) → AllGo r → AllGo (removed options m r)
  removed-go m r goes all = by m.fate
    where
      gone : AllGo (dies m.victim m.justifiers r)
      gone = All-push Goes r.deaths (death_by r.events m) all goes

      by : (fate : Fate) → AllGo (replaced options m.victim fate (dies m.victim m.justifiers r))
      by (Kept lines results) =
          subst (All Goes) (sym (counts-keeps options (Replaced m.victim ∷ []) (lines ∷ []) (dies m.victim m.justifiers r)).deaths) gone
      by (Dropped redundancy) = gone
      by Heavy = gone

  removed-events : (m : Removal) (r : PoolRecord) → (removed options m r).events ≡ r.events
  removed-events m r = by m.fate
    where
      by : (fate : Fate) → (replaced options m.victim fate (dies m.victim m.justifiers r)).events ≡ r.events
      by (Kept lines results) = (counts-keeps options (Replaced m.victim ∷ []) (lines ∷ []) (dies m.victim m.justifiers r)).events
      by (Dropped redundancy) = refl
      by Heavy = refl

  all-proposed-go :
      (place : ℕ) (ms : List Removal) (r : PoolRecord) → r.events ≡ place → ((m : Removal) → In m ms → Goes (death_by place m)) → AllGo r
      → AllGo (fold (proposed options) r ms)
  all-proposed-go place [] r at goes all = all
  all-proposed-go place (m ∷ ms) r at goes all =
      all-proposed-go place ms (proposed options r m)
      (by-if (λ (s : PoolRecord). s.events ≡ place) (takes_effect r m) (removed options m r) r (removed-events m r ∙ at) at)
      (λ n there. goes n (inr there))
      (by-if AllGo (takes_effect r m) (removed options m r) r
      (removed-go m r (subst (λ k. Goes (death_by k m)) (sym at) (goes m (inl refl))) all) all)

  worked-go :
      (n : ℕ) (work : Work) (r : PoolRecord) → ((m : Removal) → In m (removals_of work) → Goes (death_by r.events m)) → AllGo r → AllGo (worked options n work r)
  worked-go n (Gone m) r goes all = removed-go m r (goes m (inl refl)) all
  worked-go n (Met entries removals) r goes all =
      let s : PoolRecord = sets_aside entries (becomes_active n r) in
      let kept = counts-keeps options (keys_of entries) (lines_of_entries entries) s in
      all-proposed-go r.events removals (counts options (keys_of entries) (lines_of_entries entries) s) kept.events goes (subst (All Goes) (sym kept.deaths) all)

  returned-go :
      (batch : Batch) (o : Option GivenJob) (r : PoolRecord) → ((m : Removal) → In m (removals_of batch.work) → Goes (death_by r.events m)) → AllGo r
      → AllGo (returns_to options batch o r)
  returned-go batch None r goes all = all
  returned-go batch (Some j) r goes all =
      let s : PoolRecord = record r { given = without_job batch.job r.given } in
      by-if AllGo (is_none r.ended) (worked options j.number batch.work s) (becomes_active j.number s) (worked-go j.number batch.work s goes all) all

  claimed-go : (job : ℕ) (o : Option ℕ) (r : PoolRecord) → AllGo r → AllGo (claimed_by options job o r)
  claimed-go job None r all = all
  claimed-go job (Some n) r all =
      by-if (λ s. AllGo (given_out options job n s)) (has_number n r.positions) r (record r { positions = r.positions ++ n ∷ [] }) all all

  modelled-go : (o : Option SolverJob) (truths : List Bool) (r : PoolRecord) → AllGo r → AllGo (modelled_by o truths r)
  modelled-go None truths r all = all
  modelled-go (Some s) truths r all = all

  refuted-go : (o : Option SolverJob) (chains : List log.Chain) (r : PoolRecord) → AllGo r → AllGo (refuted_by o chains r)
  refuted-go None chains r all = all
  refuted-go (Some s) chains r all = by-if AllGo (is_none r.ended) _ _ all all

  -- the removals that a returned batch proposes in the event at a place bring deaths of that kind
  abbrev GoBy : ℕ → Event → Type 0
  GoBy place e = (batch : Batch) → e ≡ Return batch → (m : Removal) → In m (removals_of batch.work) → Goes (death_by place m)

  after-go : (r : PoolRecord) (e : Event) → GoBy r.events e → AllGo r → AllGo (after options r e)
  after-go r (Claim job) goes all = claimed-go job (next_given r) r all
  after-go r (Return batch) goes all = returned-go batch (given_job r batch.job) r (goes batch refl) all
  after-go r (Stale job justifier) goes all = all
  after-go r (Void job) goes all = all
  after-go r (ClaimSolve job) goes all = all
  after-go r (ReturnModel job truths) goes all = modelled-go r.solver truths r all
  after-go r (ReturnRefuted job chains) goes all = refuted-go r.solver chains r all
  after-go r (Abandon job) goes all = all

  history-go :
      (es : List Event) (r : PoolRecord) → ((k : ℕ) (e : Event) → slice_get es k ≡ Some e → GoBy (r.events + k) e) → AllGo r → AllGo (fold (after options) r es)
  history-go [] r goes all = all
  history-go (e ∷ es) r goes all =
      history-go es (after options r e)
      (λ k d there. subst (λ (n : ℕ). GoBy n d) (let same : r.events + suc k ≡ (r.events + 1) + k = omega arith in same) (goes (suc k) d there))
      (after-go r e (subst (λ (n : ℕ). GoBy n e) (let same : r.events + 0 ≡ r.events = omega arith in same) (goes 0 e refl)) all)

-- ---- the law

pub deaths_were_proposed : DeathsWereProposed
deaths_were_proposed origin history =
    history-go origin.options (IsProposedDeath history) history (start origin)
    (λ k e at.
    subst (λ (n : ℕ). GoBy origin.options (IsProposedDeath history) n e)
    (let none = no-event origin in let same : k ≡ (start origin).events + k = omega (arith, none) in same) (returned k e at))
    (subst (All (IsProposedDeath history)) (sym (ap (λ (r : PoolRecord). r.deaths) (inputs-register origin.options.split 0 origin.inputs nothing_registered).same))
    (All-nil (IsProposedDeath history)))
  where
    returned : (k : ℕ) (e : Event) → slice_get history k ≡ Some e → GoBy origin.options (IsProposedDeath history) k e
    returned k e at batch is m there =
        let found = find-some (is_removal_of (death_by k m)) (removals_of batch.work) m there (own-removal k m) in
        record { batch = batch; returned = at ∙ ap Some is; removal = found.0; proposed = found.1 }
