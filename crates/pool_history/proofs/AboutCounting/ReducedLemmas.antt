-- A clause was counted as replaced exactly where it died in the return of a batch that has a reduced result for its place. A removal that takes
-- effect is the first of its victim by its justifiers: an earlier one would have taken effect.
use Rattle.std.proofs.Common.{◌≡◌, ℕ, suc, ◌+◌, ◌<◌, ◌≤◌, Bool, true, false, ◌||◌, ◌==◌, List, [], ◌∷◌, ◌++◌, length, append_assoc, refl, ap, sym, ◌∙◌, subst, ⊎_elim, arith}
use Rattle.std.specs.Prelude.{Option, None, Some, is_none, is_some, nat_le, nat_lt, fold, find, slice_get, All, Contains}
use Rattle.std.specs.List.{list_all}
use Rattle.std.proofs.lemmas.Bool.{true≢false, and_parts, or_left, or_right, eq-eqb, ltb-true, lt-ltb, false_from_ne_true}
use Rattle.std.proofs.lemmas.List.{length-append}
use Rattle.std.proofs.lemmas.List.Folds.{list_any-append}
use Rattle.std.proofs.lemmas.Option.{same_Some}
use Rattle.std.proofs.lemmas.List.Elements.{All-nil, All-cons, All-append, All-contains, All-map, All-push, All-weaker, Contains-append_left, Contains-append_right}
use Rattle.kbo_order.proofs.AboutMultisets.MemberLemmas.{In, In-left, In-contains}
use Rattle.laws_calculus.proofs.AboutCovering.ClauseLemmas.{In-either}
use Rattle.kernel_steps.specs.Split.{has_number}
use Rattle.kernel_steps.specs.declared.key.Key.{Key}
use Rattle.kernel_steps.specs.declared.key.Key.TheVariants.{Replaced}
use Rattle.kernel_steps.specs.declared.step.Line.{Line}
use Rattle.literal_selection.specs.Mode.{mode_of}
use Rattle.sat_core.specs.declared.answer.Chain as log
use Rattle.pool_history.specs.Record.{PoolRecord, Death, GivenJob, SolverJob, clauses_of, has_died, lives, given_job, without_job, nothing_registered}
use Rattle.pool_history.specs.Claiming.{next_given, given_out, claimed_by}
use Rattle.pool_history.specs.Counting.{lines_of_fate, keys_of, lines_of_entries, refutes, spends, counts, result_comes}
use Rattle.pool_history.specs.Returning.{removals_of, dies, replaced, removed, takes_effect, proposed, becomes_active, sets_aside, worked, returns_to}
use Rattle.pool_history.specs.Solving.{modelled_by, refuted_by}
use Rattle.pool_history.specs.Batches.{IsRightFate, IsRightRemoval, IsRightWork}
use Rattle.pool_history.specs.Replay.{change_by, after, start, replay}
use Rattle.pool_history.specs.Lawful.{IsAllowed, IsLawfulFrom}
use Rattle.pool_history.specs.Laws.{is_removal_of, IsReducedDeath, ReplacedWereReduced}
use Rattle.pool_history.specs.declared.options.Options.{Options}
use Rattle.pool_history.specs.declared.batch.Batch.{Batch}
use Rattle.pool_history.specs.declared.batch.Entry.{Entry}
use Rattle.pool_history.specs.declared.batch.Fate.{Fate}
use Rattle.pool_history.specs.declared.batch.Fate.TheVariants.{Kept, Dropped, Heavy}
use Rattle.pool_history.specs.declared.batch.Removal.{Removal}
use Rattle.pool_history.specs.declared.batch.Work.{Work}
use Rattle.pool_history.specs.declared.batch.Work.TheVariants.{Gone, Met}
use Rattle.pool_history.specs.declared.event.Event.{Event}
use Rattle.pool_history.specs.declared.event.Event.TheVariants.{Claim, Return, Stale, Void, ClaimSolve, ReturnModel, ReturnRefuted, Abandon}
use Rattle.pool_history.proofs.AboutClaims.HistoryLemmas.{no-event}
use Rattle.pool_history.proofs.AboutCounting.CountedLemmas.{fate-inferred}
use Rattle.pool_history.proofs.AboutCounting.CountedRecords.{no-replaced}
use Rattle.pool_history.proofs.AboutRecords.FrameLemmas.{Registers, by-if, inputs-register, result-registers, results-register}
use Rattle.pool_history.proofs.AboutRecords.GrowthLemmas.{Grows, removed-grows, replaced-after-death, all-proposed-grows, counts-grows}
use Rattle.pool_history.proofs.AboutCounting.DeathLemmas.{all-weaker}
use Rattle.pool_history.proofs.AboutCounting.FirstRemovalLemmas.{find-first, death_by, own-removal, same-effect, AreRegistered, no-effect-later, no-effect-again}
use Rattle.pool_history.proofs.AboutCounting.JustifiedLemmas.{removal-registered}
use Rattle.pool_history.proofs.AboutLines.JoinedLemmas.{by-test}

-- ---- what registering leaves

record Same (r s : PoolRecord) : Type 0 where
  pub counted : s.counted ≡ r.counted
  pub deaths : s.deaths ≡ r.deaths

registers-same : (r s : PoolRecord) → Registers r s → Same r s
registers-same r s is = record { counted = ap (λ (t : PoolRecord). t.counted) is.same; deaths = ap (λ (t : PoolRecord). t.deaths) is.same }

abbrev with_keys : List Key → PoolRecord → PoolRecord
with_keys keys r = record r { counted = r.counted ++ keys }

-- from the moment on in which the keys are counted
counts-same : (options : Options) (keys : List Key) (results : List (List Line)) (r : PoolRecord) → Same (with_keys keys r) (counts options keys results r)
counts-same options keys results r =
    by-if (Same s) (nat_le options.inferences (length s.counted)) (spends options.split (find refutes results) s) (fold (result_comes options.split) s results)
    (spent (find refutes results)) (registers-same s (fold (result_comes options.split) s results) (results-register options.split results s))
  where
    s : PoolRecord
    s = with_keys keys r

    spent : (o : Option (List Line)) → Same s (spends options.split o s)
    spent None = record { counted = refl; deaths = refl }
    spent (Some lines) = registers-same s (result_comes options.split s lines) (result-registers options.split s lines)

-- ---- replaced clauses, by what is known of their deaths

module _ (options : Options) (Goes : Death → Type 0) where
  abbrev Went : List Death → ℕ → Type 0
  Went deaths n = (d : Death) × Contains deaths d × (d.victim ≡ n) × Goes d

  abbrev IsReplacedSo : List Death → Key → Type 0
  IsReplacedSo deaths key = (n : ℕ) → key ≡ Replaced n → Went deaths n

  abbrev IsCountedSo : List Key → Death → Type 0
  IsCountedSo counted d = Goes d → Contains counted (Replaced d.victim)

  record AreReduced (r : PoolRecord) : Type 0 where
    keys : All (IsReplacedSo r.deaths) r.counted
    deaths : All (IsCountedSo r.counted) r.deaths

  same-reduced : (r s : PoolRecord) → Same r s → AreReduced r → AreReduced s
  same-reduced r s same reduced = record {
    keys =
        subst (λ (ds : List Death). All (IsReplacedSo ds) s.counted) (sym same.deaths)
        (subst (All (IsReplacedSo r.deaths)) (sym same.counted) reduced.keys);
    deaths =
        subst (λ (ds : List Death). All (IsCountedSo s.counted) ds) (sym same.deaths)
        (subst (λ (ks : List Key). All (IsCountedSo ks) r.deaths) (sym same.counted) reduced.deaths);
  }

  -- more keys are counted
  more-counted : (counted keys : List Key) (ds : List Death) → All (IsCountedSo counted) ds → All (IsCountedSo (counted ++ keys)) ds
  more-counted counted keys ds all =
      All-weaker (IsCountedSo counted) (IsCountedSo (counted ++ keys))
      (λ d is goes. Contains-append_left counted keys (Replaced d.victim) (is goes)) ds all

  keys-reduced :
      (keys : List Key) (results : List (List Line)) (r : PoolRecord) → All (IsReplacedSo r.deaths) keys → AreReduced r → AreReduced (counts options keys results r)
  keys-reduced keys results r new reduced =
      same-reduced (with_keys keys r) (counts options keys results r) (counts-same options keys results r)
      (record {
        keys = All-append (IsReplacedSo r.deaths) r.counted keys reduced.keys new;
        deaths = more-counted r.counted keys r.deaths reduced.deaths;
      })

  -- of the death that a removal brings the removal's result tells
  record Tells (event : ℕ) (m : Removal) : Type 0 where
    goes : is_some (lines_of_fate m.fate) ≡ true → Goes (death_by event m)
    kept : Goes (death_by event m) → is_some (lines_of_fate m.fate) ≡ true

  removed-reduced : (m : Removal) (r : PoolRecord) → Tells r.events m → AreReduced r → AreReduced (removed options m r)
  removed-reduced m r tells reduced = by m.fate tells.goes tells.kept
    where
      d : Death
      d = death_by r.events m

      gone : PoolRecord
      gone = dies m.victim m.justifiers r

      keys : All (IsReplacedSo gone.deaths) r.counted
      keys =
          All-weaker (IsReplacedSo r.deaths) (IsReplacedSo gone.deaths)
          (λ key is n same. let went = is n same in (went.0, Contains-append_left r.deaths (d ∷ []) went.0 went.1, went.2, went.3)) r.counted reduced.keys

      same-number : (n k : ℕ) → Replaced n ≡ Replaced k → n ≡ k
      same-number n k same = cc

      -- a death that isn't for a result
      other : (Goes d → ⊥) → AreReduced gone
      other not_reduced = record {
        keys = keys;
        deaths = All-push (IsCountedSo r.counted) r.deaths d reduced.deaths (λ goes. absurd (not_reduced goes));
      }

      by :
          (fate : Fate) → (is_some (lines_of_fate fate) ≡ true → Goes d) → (Goes d → is_some (lines_of_fate fate) ≡ true)
          → AreReduced (replaced options m.victim fate gone)
      by (Kept lines results) now back =
          let ks : List Key = Replaced m.victim ∷ [] in
          same-reduced (with_keys ks gone) (counts options ks (lines ∷ []) gone) (counts-same options ks (lines ∷ []) gone)
          (record {
            keys =
                All-append (IsReplacedSo gone.deaths) r.counted ks keys
                (All-cons (IsReplacedSo gone.deaths) (Replaced m.victim) []
                (λ n same. (d, Contains-append_right r.deaths (d ∷ []) d (0, omega arith, refl), same-number m.victim n same, now refl))
                (All-nil (IsReplacedSo gone.deaths)));
            deaths =
                All-push (IsCountedSo (r.counted ++ ks)) r.deaths d (more-counted r.counted ks r.deaths reduced.deaths)
                (λ goes. Contains-append_right r.counted ks (Replaced m.victim) (0, omega arith, refl));
          })
      by (Dropped redundancy) now back = other (λ goes. true≢false (sym (back goes)))
      by Heavy now back = other (λ goes. true≢false (sym (back goes)))

  -- ---- removals in order

  -- the first of its victim by its justifiers
  abbrev IsFirst : ℕ → List Removal → Removal → Type 0
  IsFirst event all m = find (is_removal_of (death_by event m)) all ≡ Some m

  -- those before have no effect any more
  record ComeSo (event : ℕ) (all before ms : List Removal) (r : PoolRecord) : Type 0 where
    whole : all ≡ before ++ ms
    at : r.events ≡ event
    without_effect : (m : Removal) → In m before → takes_effect r m ≡ false
    reduced : AreReduced r

  proposed-reduced :
      (event count : ℕ) (all before ms : List Removal) (r : PoolRecord)
      → count ≤ length r.registered → ((m : Removal) → In m all → AreRegistered count m)
      → ((m : Removal) → IsFirst event all m → Tells event m) → ComeSo event all before ms r → AreReduced (fold (proposed options) r ms)
  proposed-reduced event count all before [] r enough registered tells come = come.reduced
  proposed-reduced event count all before (m ∷ ms) r enough registered tells come =
      proposed-reduced event count all (before ++ m ∷ []) ms (proposed options r m)
      (let more = length-append r.registered grown.clauses.0 in let same = ap length grown.clauses.1 in omega (arith, enough, more, same)) registered tells
      (by-test (λ (s : PoolRecord). ComeSo event all (before ++ m ∷ []) ms s) (takes_effect r m) (removed options m r) r effect no_effect)
    where
      grown : Grows r (proposed options r m)
      grown = all-proposed-grows options (m ∷ []) r

      whole : all ≡ (before ++ m ∷ []) ++ ms
      whole = come.whole ∙ sym (append_assoc before (m ∷ []) ms)

      is_there : (n : Removal) → In n before → In n all
      is_there n there = subst (In n) (sym come.whole) (In-left n before (m ∷ ms) there)

      known : (n : Removal) → In n before → AreRegistered (length r.registered) n
      known n there =
          all-weaker (λ k. nat_lt k count) (λ k. nat_lt k (length r.registered))
          (λ k below. let less : k < count = ltb-true k count below in lt-ltb k (length r.registered) (omega (arith, less, enough)))
          (n.victim ∷ n.justifiers) (registered n (is_there n there))

      no_effect : takes_effect r m ≡ false → ComeSo event all (before ++ m ∷ []) ms r
      no_effect none = record {
        whole = whole;
        at = come.at;
        without_effect =
            λ n there.
            ⊎_elim (λ (earlier : In n before). come.without_effect n earlier)
            (λ (now : In n (m ∷ [])).
            ⊎_elim (λ (same : n ≡ m). ap (takes_effect r) same ∙ none) (λ (nowhere : In n []). absurd nowhere) now) (In-either n before (m ∷ []) there);
        reduced = come.reduced;
      }

      effect : takes_effect r m ≡ true → ComeSo event all (before ++ m ∷ []) ms (removed options m r)
      effect takes =
          let s : PoolRecord = removed options m r in
          let more = removed-grows options m r in
          let is_open = (and_parts (is_none r.ended) (list_all (lives r) (m.victim ∷ m.justifiers)) takes).0 in
          let first : IsFirst event all m =
          ap (find (is_removal_of (death_by event m))) come.whole
          ∙ find-first (is_removal_of (death_by event m)) before ms m
          (λ n there.
          false_from_ne_true (is_removal_of (death_by event m) n)
          (λ same. true≢false (sym takes ∙ sym (same-effect event m n r same) ∙ come.without_effect n there)))
          (own-removal event m) in
          record {
            whole = whole;
            at = more.events ∙ come.at;
            without_effect =
                λ n there.
                ⊎_elim (λ (earlier : In n before). no-effect-later r s n is_open (known n earlier) more.deaths (come.without_effect n earlier))
                (λ (now : In n (m ∷ [])).
                ⊎_elim (λ (same : n ≡ m). ap (takes_effect s) same ∙ no-effect-again s m dead) (λ (nowhere : In n []). absurd nowhere) now)
                (In-either n before (m ∷ []) there);
            reduced = removed-reduced m r (subst (λ (k : ℕ). Tells k m) (sym come.at) (tells m first)) come.reduced;
          }
        where
          -- the victim is dead
          dead : has_died (removed options m r).deaths m.victim ≡ true
          dead =
              let after = (replaced-after-death options m r).deaths in
              let now : has_died (r.deaths ++ death_by r.events m ∷ []) m.victim ≡ true =
              list_any-append (λ (e : Death). m.victim == e.victim) r.deaths (death_by r.events m ∷ [])
              ∙ or_right (has_died r.deaths m.victim) ((m.victim == m.victim) || false) (or_left (m.victim == m.victim) false (eq-eqb m.victim m.victim refl)) in
              ap (λ ds. has_died ds m.victim) after.1
              ∙ list_any-append (λ (e : Death). m.victim == e.victim) (r.deaths ++ death_by r.events m ∷ []) after.0
              ∙ or_left (has_died (r.deaths ++ death_by r.events m ∷ []) m.victim) (has_died after.0 m.victim) now

  abbrev without : ℕ → PoolRecord → PoolRecord
  without job r = record r { given = without_job job r.given }

  module _ (is_predicate : ℕ → Bool) where
    -- the keys of entries are of inferences
    entries-reduced :
        (r : PoolRecord) (j : GivenJob) (entries : List Entry)
        → All (λ (e : Entry). IsRightFate is_predicate options (clauses_of r) j e.key e.fate) entries → All (IsReplacedSo r.deaths) (keys_of entries)
    entries-reduced r j entries right =
        All-map (IsReplacedSo r.deaths) (λ (e : Entry). e.key) entries
        (All-weaker (λ (e : Entry). IsRightFate is_predicate options (clauses_of r) j e.key e.fate) (λ (e : Entry). IsReplacedSo r.deaths e.key)
        (λ e is n same.
        absurd (no-replaced is_predicate (mode_of options.select) options r.registered n e.key (fate-inferred is_predicate options r.registered j e.key e.fate is) same))
        entries right)

    -- what is told of the removals of a batch
    abbrev TellsAll : ℕ → Work → Type 0
    TellsAll event work = (m : Removal) → IsFirst event (removals_of work) m → Tells event m

    without-reduced : (r s : PoolRecord) → s.counted ≡ r.counted → s.deaths ≡ r.deaths → AreReduced r → AreReduced s
    without-reduced r s counted deaths reduced = same-reduced r s (record { counted = counted; deaths = deaths }) reduced

    worked-reduced :
        (job : ℕ) (j : GivenJob) (work : Work) (r : PoolRecord)
        → IsRightWork is_predicate options (clauses_of r) j work → TellsAll r.events work → AreReduced r
        → AreReduced (worked options j.number work (without job r))
    worked-reduced job j (Gone m) r right tells reduced =
        removed-reduced m (without job r)
        (tells m (find-first (is_removal_of (death_by r.events m)) [] [] m (λ n none. absurd none) (own-removal r.events m)))
        (without-reduced r (without job r) refl refl reduced)
    worked-reduced job j (Met entries removals) r right tells reduced =
        let mid : PoolRecord = sets_aside entries (becomes_active j.number (without job r)) in
        let counted : PoolRecord = counts options (keys_of entries) (lines_of_entries entries) mid in
        let grown = counts-grows options (keys_of entries) (lines_of_entries entries) mid in
        let more = length-append mid.registered grown.clauses.0 in
        let same = ap length grown.clauses.1 in
        proposed-reduced r.events (length r.registered) removals [] removals counted (omega (arith, more, same))
        (λ m there.
        removal-registered is_predicate options r j m
        (All-contains (IsRightRemoval is_predicate options (clauses_of r) j) removals m right.right_removals (In-contains m removals there)))
        tells
        (record {
          whole = refl;
          at = grown.events;
          without_effect = λ m none. absurd none;
          reduced =
              keys-reduced (keys_of entries) (lines_of_entries entries) mid (entries-reduced r j entries right.right_entries)
              (without-reduced r mid refl refl reduced);
        })

    returned-reduced :
        (batch : Batch) (o : Option GivenJob) (j : GivenJob) (r : PoolRecord)
        → o ≡ Some j → IsRightWork is_predicate options (clauses_of r) j batch.work → TellsAll r.events batch.work
        → AreReduced r → AreReduced (returns_to options batch o r)
    returned-reduced batch o j r out right tells reduced =
        subst (λ (p : Option GivenJob). AreReduced (returns_to options batch p r)) (sym out)
        (by-if AreReduced (is_none r.ended) (worked options j.number batch.work (without batch.job r)) (becomes_active j.number (without batch.job r))
        (worked-reduced batch.job j batch.work r right tells reduced)
        (without-reduced r (becomes_active j.number (without batch.job r)) refl refl reduced))

    claimed-reduced : (job : ℕ) (o : Option ℕ) (r : PoolRecord) → AreReduced r → AreReduced (claimed_by options job o r)
    claimed-reduced job None r reduced = reduced
    claimed-reduced job (Some n) r reduced =
        let s : PoolRecord = record r { positions = r.positions ++ n ∷ [] } in
        by-if (λ t. AreReduced (given_out options job n t)) (has_number n r.positions) r s
        (without-reduced r (given_out options job n r) refl refl reduced) (without-reduced r (given_out options job n s) refl refl reduced)

    modelled-reduced : (o : Option SolverJob) (truths : List Bool) (r : PoolRecord) → AreReduced r → AreReduced (modelled_by o truths r)
    modelled-reduced None truths r reduced = reduced
    modelled-reduced (Some s) truths r reduced = without-reduced r (modelled_by (Some s) truths r) refl refl reduced

    refuted-same : (o : Option SolverJob) (chains : List log.Chain) (r : PoolRecord) → Same r (refuted_by o chains r)
    refuted-same None chains r = record { counted = refl; deaths = refl }
    refuted-same (Some s) chains r = by-if (Same r) (is_none r.ended) _ _ (record { counted = refl; deaths = refl }) (record { counted = refl; deaths = refl })

    -- the removals that an event brings
    abbrev GoesBy : ℕ → Event → Type 0
    GoesBy event e = (batch : Batch) → e ≡ Return batch → TellsAll event batch.work

    change-reduced : (r : PoolRecord) (e : Event) → IsAllowed is_predicate options r e → GoesBy r.events e → AreReduced r → AreReduced (change_by options e r)
    change-reduced r (Claim job) allowed goes reduced = claimed-reduced job (next_given r) r reduced
    change-reduced r (Return batch) allowed goes reduced =
        returned-reduced batch (given_job r batch.job) allowed.given r allowed.out (allowed.says).2 (goes batch refl) reduced
    change-reduced r (Stale job justifier) allowed goes reduced = without-reduced r (change_by options (Stale job justifier) r) refl refl reduced
    change-reduced r (Void job) allowed goes reduced = without-reduced r (change_by options (Void job) r) refl refl reduced
    change-reduced r (ClaimSolve job) allowed goes reduced = without-reduced r (change_by options (ClaimSolve job) r) refl refl reduced
    change-reduced r (ReturnModel job truths) allowed goes reduced = modelled-reduced r.solver truths r reduced
    change-reduced r (ReturnRefuted job chains) allowed goes reduced =
        same-reduced r (change_by options (ReturnRefuted job chains) r) (refuted-same r.solver chains r) reduced
    change-reduced r (Abandon job) allowed goes reduced = without-reduced r (change_by options (Abandon job) r) refl refl reduced

    after-reduced : (r : PoolRecord) (e : Event) → IsAllowed is_predicate options r e → GoesBy r.events e → AreReduced r → AreReduced (after options r e)
    after-reduced r e allowed goes reduced =
        without-reduced (change_by options e r) (after options r e) refl refl (change-reduced r e allowed goes reduced)

    history-reduced :
        (es : List Event) (r : PoolRecord)
        → IsLawfulFrom is_predicate options r es → ((k : ℕ) (e : Event) → slice_get es k ≡ Some e → GoesBy (r.events + k) e)
        → AreReduced r → AreReduced (fold (after options) r es)
    history-reduced [] r lawful goes reduced = reduced
    history-reduced (e ∷ es) r lawful goes reduced =
        history-reduced es (after options r e) lawful.1
        (λ k d there. subst (λ (n : ℕ). GoesBy n d) (let same : r.events + suc k ≡ (r.events + 1) + k = omega arith in same) (goes (suc k) d there))
        (after-reduced r e lawful.0 (subst (λ (n : ℕ). GoesBy n e) (let same : r.events + 0 ≡ r.events = omega arith in same) (goes 0 e refl)) reduced)

-- ---- the law

pub replaced_were_reduced : ReplacedWereReduced
replaced_were_reduced is_predicate origin history n lawful = (
  λ there. All-contains (IsReplacedSo origin.options (IsReducedDeath history) r.deaths) r.counted (Replaced n) all.keys there n refl,
  λ d there victim reduced.
      subst (λ k. Contains r.counted (Replaced k)) victim
      (All-contains (IsCountedSo origin.options (IsReducedDeath history) r.counted) r.deaths d all.deaths there reduced),
)
  where
    r : PoolRecord
    r = replay origin history

    same-batch : (b c : Batch) → Return b ≡ Return c → b ≡ c
    same-batch b c same = cc

    -- what a return at a place brings
    returned : (k : ℕ) (e : Event) → slice_get history k ≡ Some e → GoesBy origin.options (IsReducedDeath history) is_predicate k e
    returned k e at batch is m first = record {
      goes = λ kept. record { proposal = record { batch = batch; returned = at ∙ ap Some is; removal = m; proposed = first }; kept = kept };
      kept =
          λ went.
          let by = went.proposal in
          let same : by.batch ≡ batch =
          same-batch by.batch batch (same_Some (Return by.batch) (Return batch) (sym by.returned ∙ at ∙ ap Some is)) in
          let one : by.removal ≡ m =
          same_Some by.removal m (sym by.proposed ∙ ap (λ (b : Batch). find (is_removal_of (death_by k m)) (removals_of b.work)) same ∙ first) in
          ap (λ (x : Removal). is_some (lines_of_fate x.fate)) (sym one) ∙ went.kept;
    }

    begun : AreReduced origin.options (IsReducedDeath history) (start origin)
    begun =
        same-reduced origin.options (IsReducedDeath history) nothing_registered (start origin)
        (registers-same nothing_registered (start origin) (inputs-register origin.options.split 0 origin.inputs nothing_registered))
        (record {
          keys = All-nil (IsReplacedSo origin.options (IsReducedDeath history) []);
          deaths = All-nil (IsCountedSo origin.options (IsReducedDeath history) []);
        })

    all : AreReduced origin.options (IsReducedDeath history) r
    all =
        history-reduced origin.options (IsReducedDeath history) is_predicate history (start origin) lawful
        (λ k e at.
        subst (λ (m : ℕ). GoesBy origin.options (IsReducedDeath history) is_predicate m e)
        (let none = no-event origin in let same : k ≡ (start origin).events + k = omega (arith, none) in same) (returned k e at)) begun
