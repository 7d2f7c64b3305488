-- What events tell: from what is told at one place of a history to what is told at a later one.
use Rattle.std.proofs.Common.{◌≡◌, ◌≢◌, ℕ, Bool, true, false, not, ◌&&◌, ◌||◌, List, [], ◌∷◌, ◌++◌, map, length, drop, append-nil, refl, ap, ap₂, sym, ◌∙◌, subst}
use Rattle.std.specs.Prelude.{Option, None, Some, fold, filter, AllPairs, if◌then◌else◌}
use Rattle.std.specs.List.{list_all}
use Rattle.std.proofs.Math.Seq.{drop-append_seam}
use Rattle.std.proofs.lemmas.List.Elements.{filter-append}
use Rattle.std.proofs.lemmas.List.Folds.{list_any-append}
use Rattle.std.proofs.lemmas.List.Kept.{AllPairs-filter}
use Rattle.std.proofs.lemmas.List.Sums.{fold-append}
use Rattle.kernel_steps.specs.Split.{has_number}
use Rattle.pool_history.specs.Record.{PoolRecord, Death, clause_numbered, has_died, lives, told_now, given_job}
use Rattle.pool_history.specs.Claiming.{next_given, claimed_by}
use Rattle.pool_history.specs.News.{activated, died, changes_between, changes_from, news_since}
use Rattle.pool_history.specs.Replay.{Origin, after, start, replay}
use Rattle.pool_history.specs.declared.options.Options.{Options}
use Rattle.pool_history.specs.declared.event.Event.{Event}
use Rattle.pool_history.specs.declared.event.Event.TheVariants.{Claim, Return, Stale, Void, ClaimSolve, ReturnModel, ReturnRefuted, Abandon}
use Rattle.pool_history.proofs.AboutClaims.ClaimedRecords.{after-claim, given-waits, claim_after}
use Rattle.pool_history.proofs.AboutRecords.GrowthLemmas.{living-not-dead, waiting-parts}
use Rattle.pool_history.proofs.AboutRecords.NewsLemmas.{Adds, new-deaths, event-adds, living-kept, start-is}
use Rattle.pool_history.proofs.AboutRecords.JobNumberLemmas.{returned-positions, modelled-positions, refuted-positions}
use Rattle.pool_history.proofs.AboutRecords.PlaceLemmas.{Placed, after-placed, start-placed}
use Rattle.given_work.proofs.AboutLearning.ToldLemmas.{filter-twice, filter-every, neither, told_by, told_all, AreNewNumbers, new-append, told-both, new-both}

-- the clauses that an event activates didn't die before
record Activates (r s : PoolRecord) : Type 0 where
  pub new : List ℕ
  pub places : s.positions ≡ r.positions ++ new
  pub living : list_all (λ n. not (has_died r.deaths n)) new ≡ true

none-new : (r s : PoolRecord) → s.positions ≡ r.positions → Activates r s
none-new r s same = record { new = []; places = same ∙ sym (append-nil r.positions); living = refl }

module _ (options : Options) where
  claimed-new : (job n : ℕ) (r : PoolRecord) → next_given r ≡ Some n → Activates r (after options r (Claim job))
  claimed-new job n r next = subst (Activates r) (sym (after-claim options job n r next)) (by (has_number n r.positions))
    where
      by : (b : Bool) → Activates r (claim_after options job n r (if b then r.positions else r.positions ++ n ∷ []))
      by true = none-new r (claim_after options job n r r.positions) refl
      by false = record {
        new = n ∷ [];
        places = refl;
        living =
            ap (λ b. not b && true) (living-not-dead r n (waiting-parts r n (given-waits r n next).0).alive);
      }

  event-new : (r : PoolRecord) (e : Event) → Activates r (after options r e)
  event-new r (Claim job) = by (next_given r) refl
    where
      by : (o : Option ℕ) → next_given r ≡ o → Activates r (after options r (Claim job))
      by None none = none-new r (after options r (Claim job)) (ap (λ o. (claimed_by options job o r).positions) none)
      by (Some n) next = claimed-new job n r next
  event-new r (Return batch) = none-new r (after options r (Return batch)) (returned-positions options batch (given_job r batch.job) r)
  event-new r (Stale job justifier) = none-new r (after options r (Stale job justifier)) refl
  event-new r (Void job) = none-new r (after options r (Void job)) refl
  event-new r (ClaimSolve job) = none-new r (after options r (ClaimSolve job)) refl
  event-new r (ReturnModel job truths) = none-new r (after options r (ReturnModel job truths)) (modelled-positions options r.solver truths r)
  event-new r (ReturnRefuted job chains) = none-new r (after options r (ReturnRefuted job chains)) (refuted-positions options r.solver chains r)
  event-new r (Abandon job) = none-new r (after options r (Abandon job)) refl

  -- ---- one event

  module _ (r s : PoolRecord) (adds : Adds r s) (activates : Activates r s) (before : Placed r) (now : Placed s) where
    abbrev undead : ℕ → Bool
    undead n = not (has_died r.deaths n)

    changes : changes_between r s ≡ map (λ n. activated n (clause_numbered s n)) activates.new ++ map (λ (d : Death). died d.victim) adds.deaths.0
    changes =
        ap₂ (λ (ns : List ℕ) (ds : List Death). map (λ n. activated n (clause_numbered s n)) ns ++ map (λ (d : Death). died d.victim) ds)
        (ap (drop (length r.positions)) activates.places ∙ drop-append_seam r.positions activates.new) (new-deaths r s adds)

    told-new : told_now r ++ activates.new ≡ filter undead s.positions
    told-new =
        ap₂ (λ ns ms. ns ++ ms) (living-kept r r.positions before.registered) (sym (filter-every undead activates.new activates.living))
        ∙ sym (filter-append undead r.positions activates.new) ∙ ap (filter undead) (sym activates.places)

    told-between : told_all (told_now r) (changes_between r s) ≡ told_now s
    told-between =
        ap₂ told_all (living-kept r r.positions before.registered) changes
        ∙ told-both (clause_numbered s) r.positions activates.new r.deaths adds.deaths.0 activates.living
        ∙ ap (λ ns. filter (λ n. not (has_died adds.deaths.0 n)) (ns ++ activates.new)) (sym (living-kept r r.positions before.registered))
        ∙ ap (filter (λ n. not (has_died adds.deaths.0 n))) told-new
        ∙ filter-twice (λ n. not (has_died adds.deaths.0 n)) undead s.positions
        ∙ ap (λ (p : ℕ → Bool). filter p s.positions) (λ i n. (sym (neither (has_died r.deaths n) (has_died adds.deaths.0 n)) ∙ ap not (sym (died-more n))) i)
        ∙ sym (living-kept s s.positions now.registered)
      where
        died-more : (n : ℕ) → has_died s.deaths n ≡ (has_died r.deaths n || has_died adds.deaths.0 n)
        died-more n = ap (λ (ds : List Death). has_died ds n) adds.deaths.1 ∙ list_any-append _ r.deaths adds.deaths.0

    new-between : AreNewNumbers (told_now r) (changes_between r s)
    new-between =
        subst (AreNewNumbers (told_now r)) (sym changes)
        (new-both (clause_numbered s) (told_now r) activates.new adds.deaths.0
        (subst (AllPairs (λ k l. k ≢ l)) (sym told-new) (AllPairs-filter (λ k l. k ≢ l) undead s.positions now.differ)))

  -- ---- all events

  pub told-events : (es : List Event) (r : PoolRecord) → Placed r → told_all (told_now r) (changes_from options r es) ≡ told_now (fold (after options) r es)
  told-events [] r placed = refl
  told-events (e ∷ es) r placed =
      let s : PoolRecord = after options r e in
      let now : Placed s = after-placed options r e placed in
      fold-append told_by (told_now r) (changes_between r s) (changes_from options s es)
      ∙ ap (λ ns. told_all ns (changes_from options s es)) (told-between r s (event-adds options r e) (event-new r e) placed now)
      ∙ told-events es s now

  pub new-events : (es : List Event) (r : PoolRecord) → Placed r → AreNewNumbers (told_now r) (changes_from options r es)
  new-events [] r placed = tt
  new-events (e ∷ es) r placed =
      let s : PoolRecord = after options r e in
      let now : Placed s = after-placed options r e placed in
      new-append (changes_between r s) (changes_from options s es) (told_now r) (new-between r s (event-adds options r e) (event-new r e) placed now)
      (subst (λ ns. AreNewNumbers ns (changes_from options s es)) (sym (told-between r s (event-adds options r e) (event-new r e) placed now)) (new-events es s now))

-- the whole history tells what is told now
pub told-history : (origin : Origin) (history : List Event) → told_all [] (news_since origin history 0) ≡ told_now (replay origin history)
told-history origin history =
    ap (λ ns. told_all ns (news_since origin history 0)) (sym nothing) ∙ told-events origin.options history (start origin) (start-placed origin)
  where
    nothing : told_now (start origin) ≡ []
    nothing = ap (filter (lives (start origin))) (start-is origin history (start origin) refl).0
