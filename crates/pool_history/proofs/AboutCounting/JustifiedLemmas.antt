-- The deaths of a lawful history are justified, event by event.
use Rattle.std.proofs.Common.{◌≡◌, ℕ, ◌<◌, Bool, true, false, ◌==◌, List, [], ◌∷◌, ◌++◌, length, take, append-nil, append_assoc, refl, ap, sym, ◌∙◌, subst, arith}
use Rattle.std.specs.Prelude.{Option, None, Some, is_none, is_some, nat_lt, fold, if◌then◌else◌}
use Rattle.std.specs.List.{list_all, AllByRecursion}
use Rattle.std.proofs.lemmas.Bool.{and_parts, and_from, eqb-true, ltb-true, lt-ltb}
use Rattle.std.proofs.lemmas.List.{length-append, take_at, take-append-le}
use Rattle.fol_base.proofs.WorkedExamples.TestLemmas.{list_all-joined}
use Rattle.std.proofs.lemmas.List.Elements.{recursion_from_All}
use Rattle.kernel_steps.specs.Split.{has_number}
use Rattle.sat_core.specs.declared.answer.Chain as log
use Rattle.pool_history.specs.Record.{PoolRecord, Death, GivenJob, SolverJob, clauses_of, lives, given_job, without_job, nothing_registered}
use Rattle.pool_history.specs.Counting.{counts, keys_of, lines_of_entries}
use Rattle.pool_history.specs.Returning.{dies, removed, takes_effect, proposed, becomes_active, sets_aside, worked, taken, returns_to}
use Rattle.pool_history.specs.Solving.{modelled_by, refuted_by}
use Rattle.pool_history.specs.Claiming.{next_given, given_out, claimed_by}
use Rattle.pool_history.specs.Replay.{Origin, change_by, start, replay}
use Rattle.kernel_steps.specs.Moves.{end_of_moves, units_of}
use Rattle.pool_history.specs.Reduction.{Lookup, clauses_used, subsumers}
use Rattle.pool_history.specs.Batches.{is_told, IsRightRemovalBy, IsRightRemoval, IsRightWork}
use Rattle.pool_history.specs.Lawful.{justifiers_live, IsTaken, IsAllowed, IsLawfulFrom}
use Rattle.pool_history.specs.Laws.{are_justified, lived_before, DeathsAreJustified}
use Rattle.pool_history.specs.declared.options.Options.{Options}
use Rattle.pool_history.specs.declared.batch.Batch.{Batch}
use Rattle.pool_history.specs.declared.batch.Fate.{Fate}
use Rattle.pool_history.specs.declared.batch.Fate.TheVariants.{Kept, Dropped, Heavy}
use Rattle.pool_history.specs.declared.batch.Removal.{Removal}
use Rattle.pool_history.specs.declared.batch.Work.{Work}
use Rattle.pool_history.specs.declared.batch.Work.TheVariants.{Gone, Met}
use Rattle.pool_history.specs.declared.event.Event.{Event}
use Rattle.pool_history.specs.declared.event.Event.TheVariants.{Claim, Return, Stale, Void, ClaimSolve, ReturnModel, ReturnRefuted, Abandon}
use Rattle.pool_history.proofs.AboutRecords.FrameLemmas.{by-if, inputs-register}
use Rattle.pool_history.proofs.AboutClaims.HistoryLemmas.{event-count, replay-end}
use Rattle.pool_history.proofs.AboutCounting.DeathLemmas.{is_death_after, AreRight, none-yet, Keeps, keeps-all, keeps-right, counts-keeps, replaced-keeps, are_others, dies-right, below-count, all-weaker, units-others, subsumers-others, used-others, append-others, same-others}
use Rattle.pool_history.proofs.AboutCounting.KnownLemmas.{victim-known, justifiers-known}

module _ (is_predicate : ℕ → Bool) (options : Options) where
  -- ---- removals

  pub removal-others :
      (clauses : Lookup) (j : GivenJob) (victim : ℕ) (justifiers : List ℕ) (fate : Fate)
      → IsRightRemovalBy is_predicate options clauses j victim justifiers fate → are_others victim justifiers ≡ true
  removal-others clauses j victim justifiers (Kept lines results) right =
      same-others victim justifiers (units_of (right.move ∷ right.moves) ++ clauses_used victim lines) right.justified
      (append-others victim (units_of (right.move ∷ right.moves)) (clauses_used victim lines)
      (units-others is_predicate clauses (is_told j) victim right.clause (right.move ∷ right.moves) right.reduced.moved)
      (used-others victim lines))
  removal-others clauses j victim justifiers (Dropped redundancy) right =
      same-others victim justifiers (units_of right.moves ++ subsumers redundancy) right.justified
      (append-others victim (units_of right.moves) (subsumers redundancy)
      (units-others is_predicate clauses (is_told j) victim right.clause right.moves right.moved)
      (subsumers-others is_predicate clauses (is_told j) victim (end_of_moves right.clause right.moves) redundancy right.redundant))
  removal-others clauses j victim justifiers Heavy right = absurd right

  -- the clauses of a removal that is right were registered
  pub removal-registered :
      (before : PoolRecord) (j : GivenJob) (m : Removal)
      → IsRightRemoval is_predicate options (clauses_of before) j m → list_all (λ n. nat_lt n (length before.registered)) (m.victim ∷ m.justifiers) ≡ true
  removal-registered before j m right =
      all-weaker (λ n. is_some (clauses_of before n)) (λ n. nat_lt n (length before.registered)) (below-count before) (m.victim ∷ m.justifiers)
      (and_from (is_some (clauses_of before m.victim)) (list_all (λ n. is_some (clauses_of before n)) m.justifiers)
      (victim-known is_predicate options (clauses_of before) j m.victim m.justifiers m.fate right)
      (justifiers-known is_predicate options (clauses_of before) j m.victim m.justifiers m.fate right))

  removed-right :
      (before : PoolRecord) (j : GivenJob) (m : Removal) (r : PoolRecord)
      → IsRightRemoval is_predicate options (clauses_of before) j m → list_all (lives r) (m.victim ∷ m.justifiers) ≡ true
      → AreRight before r → AreRight before (removed options m r)
  removed-right before j m r removal alive right =
      keeps-right before (dies m.victim m.justifiers r) (removed options m r) (replaced-keeps options m.victim m.fate (dies m.victim m.justifiers r))
      (dies-right before m.victim m.justifiers r (removal-registered before j m removal) alive
      (removal-others (clauses_of before) j m.victim m.justifiers m.fate removal) right)

  proposed-right :
      (before : PoolRecord) (j : GivenJob) (m : Removal) (r : PoolRecord)
      → IsRightRemoval is_predicate options (clauses_of before) j m → AreRight before r → AreRight before (proposed options r m)
  proposed-right before j m r removal right = by (takes_effect r m) refl
    where
      by : (b : Bool) → takes_effect r m ≡ b → AreRight before (if b then removed options m r else r)
      by true effect = removed-right before j m r removal (and_parts (is_none r.ended) (list_all (lives r) (m.victim ∷ m.justifiers)) effect).1 right
      by false effect = right

  all-proposed-right :
      (before : PoolRecord) (j : GivenJob) (ms : List Removal) (r : PoolRecord)
      → AllByRecursion (IsRightRemoval is_predicate options (clauses_of before) j) ms → AreRight before r
      → AreRight before (fold (proposed options) r ms)
  all-proposed-right before j [] r removals right = right
  all-proposed-right before j (m ∷ ms) r removals right =
      all-proposed-right before j ms (proposed options r m) removals.1 (proposed-right before j m r removals.0 right)

  -- ---- returns

  worked-right :
      (before : PoolRecord) (j : GivenJob) (work : Work) (r : PoolRecord)
      → lives r j.number ≡ true → justifiers_live r work ≡ true
      → IsRightWork is_predicate options (clauses_of before) j work → AreRight before r → AreRight before (worked options j.number work r)
  worked-right before j (Gone m) r given_lives live work right =
      removed-right before j m r work.right
      (and_from (lives r m.victim) (list_all (lives r) m.justifiers) (ap (lives r) work.victim ∙ given_lives) live) right
  worked-right before j (Met entries removals) r given_lives live work right =
      let s : PoolRecord = sets_aside entries (becomes_active j.number r) in
      all-proposed-right before j removals (counts options (keys_of entries) (lines_of_entries entries) s)
      (recursion_from_All (IsRightRemoval is_predicate options (clauses_of before) j) removals work.right_removals)
      (keeps-right before s (counts options (keys_of entries) (lines_of_entries entries) s)
      (counts-keeps options (keys_of entries) (lines_of_entries entries) s)
      (record { justified = right.justified; more = right.more; events = right.events }))

  taken-right :
      (before : PoolRecord) (j : GivenJob) (work : Work) (r : PoolRecord)
      → lives r j.number ≡ true → justifiers_live r work ≡ true
      → IsRightWork is_predicate options (clauses_of before) j work → AreRight before r → AreRight before (taken options j.number work r)
  taken-right before j work r given_lives live right_work right =
      by-if (AreRight before) (is_none r.ended) (worked options j.number work r) (becomes_active j.number r)
      (worked-right before j work r given_lives live right_work right)
      (record { justified = right.justified; more = right.more; events = right.events })

  live-without : (r : PoolRecord) (js : List GivenJob) (work : Work) → justifiers_live r work ≡ true → justifiers_live (record r { given = js }) work ≡ true
  live-without r js (Gone m) live = live
  live-without r js (Met entries removals) live = refl

  returned-right :
      (batch : Batch) (o : Option GivenJob) (j : GivenJob) (r : PoolRecord)
      → o ≡ Some j → IsTaken is_predicate options r batch.work j → AreRight r r
      → AreRight r (returns_to options batch o r)
  returned-right batch o j r out is_taken right =
      subst (λ p. AreRight r (returns_to options batch p r)) (sym out)
      (taken-right r j batch.work (record r { given = without_job batch.job r.given }) is_taken.0
      (live-without r (without_job batch.job r.given) batch.work is_taken.1) is_taken.2
      (record { justified = right.justified; more = right.more; events = refl }))

  -- ---- events

  claimed-keeps : (job : ℕ) (o : Option ℕ) (r : PoolRecord) → Keeps r (claimed_by options job o r)
  claimed-keeps job None r = keeps-all r
  claimed-keeps job (Some n) r =
      by-if (λ s. Keeps r (given_out options job n s)) (has_number n r.positions) r (record r { positions = r.positions ++ n ∷ [] })
      (record { deaths = refl; events = refl; clauses = omega arith })
      (record { deaths = refl; events = refl; clauses = omega arith })

  modelled-keeps : (o : Option SolverJob) (truths : List Bool) (r : PoolRecord) → Keeps r (modelled_by o truths r)
  modelled-keeps None truths r = keeps-all r
  modelled-keeps (Some s) truths r = record { deaths = refl; events = refl; clauses = omega arith }

  refuted-keeps : (o : Option SolverJob) (chains : List log.Chain) (r : PoolRecord) → Keeps r (refuted_by o chains r)
  refuted-keeps None chains r = keeps-all r
  refuted-keeps (Some s) chains r =
      by-if (Keeps r) (is_none r.ended) _ _
      (record { deaths = refl; events = refl; clauses = omega arith })
      (record { deaths = refl; events = refl; clauses = omega arith })

  change-right : (r : PoolRecord) (e : Event) → IsAllowed is_predicate options r e → AreRight r r → AreRight r (change_by options e r)
  change-right r (Claim job) allowed right = keeps-right r r _ (claimed-keeps job (next_given r) r) right
  change-right r (Return batch) allowed right =
      returned-right batch (given_job r batch.job) allowed.given r allowed.out allowed.says right
  change-right r (Stale job justifier) allowed right = record { justified = right.justified; more = right.more; events = refl }
  change-right r (Void job) allowed right = record { justified = right.justified; more = right.more; events = refl }
  change-right r (ClaimSolve job) allowed right = record { justified = right.justified; more = right.more; events = refl }
  change-right r (ReturnModel job truths) allowed right = keeps-right r r _ (modelled-keeps r.solver truths r) right
  change-right r (ReturnRefuted job chains) allowed right = keeps-right r r _ (refuted-keeps r.solver chains r) right
  change-right r (Abandon job) allowed right = record { justified = right.justified; more = right.more; events = refl }

-- ---- histories

module _ (is_predicate : ℕ → Bool) (origin : Origin) where
  -- the deaths of a history are justified, by clauses that lived before
  record IsRightUpTo (past : List Event) : Type 0 where
    pub justified : are_justified [] (replay origin past).deaths ≡ true
    pub lived : list_all (lived_before origin past) (replay origin past).deaths ≡ true

  -- which one more event leaves
  still-lived : (past : List Event) (e : Event) (d : Death) → lived_before origin past d ≡ true → lived_before origin (past ++ e ∷ []) d ≡ true
  still-lived past e d before =
      let parts = and_parts (nat_lt d.event (length past)) (list_all (lives (replay origin (take d.event past))) (d.victim ∷ d.justifiers)) before in
      let low : d.event < length past = ltb-true d.event (length past) parts.0 in
      and_from (nat_lt d.event (length (past ++ e ∷ []))) (list_all (lives (replay origin (take d.event (past ++ e ∷ [])))) (d.victim ∷ d.justifiers))
      (lt-ltb d.event (length (past ++ e ∷ [])) (omega (arith, low, length-append past (e ∷ []))))
      (ap (λ es. list_all (lives (replay origin es)) (d.victim ∷ d.justifiers)) (take-append-le d.event past (e ∷ []) (omega (arith, low))) ∙ parts.1)

  -- and such are those of one more event
  newly-lived : (past : List Event) (e : Event) (d : Death) → is_death_after (replay origin past) d ≡ true → lived_before origin (past ++ e ∷ []) d ≡ true
  newly-lived past e d after_past =
      let parts = and_parts (d.event == (replay origin past).events) (list_all (lives (replay origin past)) (d.victim ∷ d.justifiers)) after_past in
      let now : d.event ≡ length past = eqb-true d.event (replay origin past).events parts.0 ∙ event-count origin past in
      and_from (nat_lt d.event (length (past ++ e ∷ []))) (list_all (lives (replay origin (take d.event (past ++ e ∷ [])))) (d.victim ∷ d.justifiers))
      (lt-ltb d.event (length (past ++ e ∷ [])) (omega (arith, now, length-append past (e ∷ []))))
      (ap (λ es. list_all (lives (replay origin es)) (d.victim ∷ d.justifiers)) (take_at past (e ∷ []) d.event (sym now)) ∙ parts.1)

  event-right :
      (past : List Event) (e : Event)
      → IsAllowed is_predicate origin.options (replay origin past) e → IsRightUpTo past → IsRightUpTo (past ++ e ∷ [])
  event-right past e allowed right =
      let r : PoolRecord = replay origin past in
      let changed = change-right is_predicate origin.options r e allowed (none-yet r right.justified) in
      let deaths : (replay origin (past ++ e ∷ [])).deaths ≡ (change_by origin.options e r).deaths =
      ap (λ (s : PoolRecord). s.deaths) (replay-end origin past e) in
      record {
        justified = ap (are_justified []) deaths ∙ changed.justified;
        lived =
            ap (list_all (lived_before origin (past ++ e ∷ []))) (deaths ∙ (changed.more).1)
            ∙ list_all-joined (lived_before origin (past ++ e ∷ [])) r.deaths (changed.more).0
            (all-weaker (lived_before origin past) (lived_before origin (past ++ e ∷ [])) (still-lived past e) r.deaths right.lived)
            (all-weaker (is_death_after r) (lived_before origin (past ++ e ∷ [])) (newly-lived past e) (changed.more).0 (changed.more).2);
      }

  history-right :
      (past es : List Event) → IsLawfulFrom is_predicate origin.options (replay origin past) es → IsRightUpTo past → IsRightUpTo (past ++ es)
  history-right past [] lawful right = subst IsRightUpTo (sym (append-nil past)) right
  history-right past (e ∷ es) lawful right =
      subst IsRightUpTo (append_assoc past (e ∷ []) es)
      (history-right (past ++ e ∷ []) es
      (subst (λ r. IsLawfulFrom is_predicate origin.options r es) (sym (replay-end origin past e)) lawful.1) (event-right past e lawful.0 right))

pub deaths_are_justified : DeathsAreJustified
deaths_are_justified is_predicate origin history lawful =
    let none : (start origin).deaths ≡ [] =
    ap (λ (s : PoolRecord). s.deaths) (inputs-register origin.options.split 0 origin.inputs nothing_registered).same in
    let right =
    history-right is_predicate origin [] history lawful
    (record { justified = ap (are_justified []) none; lived = ap (list_all (lived_before origin [])) none }) in
    (right.justified, right.lived)
