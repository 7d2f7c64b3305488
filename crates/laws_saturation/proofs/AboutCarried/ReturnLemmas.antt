-- A batch that is returned keeps the state of an open pool: where the given clause goes, and where it met the told ones.
use Rattle.std.proofs.Common.{◌≡◌, ℕ, ◌+◌, ◌≤◌, Bool, true, List, ◌++◌, length, map, append_assoc, refl, ap, sym, ◌∙◌, subst, ⊎_elim, arith, []}
use Rattle.std.specs.Prelude.{None, Some, is_none}
use Rattle.std.specs.List.{AllByRecursion}
use Rattle.std.proofs.lemmas.List.{length-append, length-map}
use Rattle.fol_base.specs.Selection.{SelectionMode}
use Rattle.kbo_order.proofs.AboutMultisets.MemberLemmas.{In, In-right, In-map}
use Rattle.kernel_steps.specs.declared.key.Key.{Key}
use Rattle.literal_selection.specs.Mode.{mode_of}
use Rattle.pool_history.specs.Record.{PoolRecord, GivenJob, clauses_of, lives, given_job, without_job}
use Rattle.pool_history.specs.Counting.{counts, keys_of, lines_of_entries}
use Rattle.pool_history.specs.Returning.{removed, becomes_active, sets_aside, worked, returns_to}
use Rattle.pool_history.specs.Batches.{IsRightGone, IsRightMeeting, MeetsAll, RemovesAll}
use Rattle.pool_history.specs.Lawful.{IsTaken}
use Rattle.pool_history.specs.declared.options.Options.{Options}
use Rattle.pool_history.specs.declared.batch.Batch.{Batch}
use Rattle.pool_history.specs.declared.batch.Entry.{Entry}
use Rattle.pool_history.specs.declared.batch.Removal.{Removal}
use Rattle.pool_history.specs.declared.batch.Work.{Work}
use Rattle.pool_history.specs.declared.batch.Work.TheVariants.{Gone, Met}
use Rattle.pool_history.proofs.AboutCounting.DeathLemmas.{counts-keeps}
use Rattle.pool_history.proofs.AboutRecords.GrowthLemmas.{living-not-dead, removed-grows, met-grows}
use Rattle.pool_history.proofs.AboutClaims.HandLemmas.{all-found}
use Rattle.pool_history.proofs.AboutLines.JoinedLemmas.{by-test}
use Rattle.pool_history.proofs.AboutRecords.PlaceLemmas.{Placed}
use Rattle.pool_history.proofs.AboutLines.SoundLemmas.{open-is}
use Rattle.laws_saturation.specs.Found.{Find, finds_by}
use Rattle.laws_saturation.proofs.AboutCarried.VictimLemmas.{victims-keep, removed-victims, all-proposed-victims}
use Rattle.laws_saturation.proofs.AboutCarried.ArrivalLemmas.{is-closed, counts-ends}
use Rattle.laws_saturation.proofs.AboutCarried.TallyLemmas.{open-before, proposed-tallies, removed-tallies, met-tallies}
use Rattle.laws_saturation.proofs.AboutCarried.MeetingLemmas.{IsToldRight, Meets, met-more, job-meets}
use Rattle.laws_saturation.proofs.AboutCarried.StateLemmas.{Extends, extends-same, told-grown, met-grown, WasFound, found-more, IsState, without-state}

module _ (is_predicate : ℕ → Bool) (options : Options) (finds : List Find) where
  abbrev the_mode : SelectionMode
  the_mode = mode_of options.select

  -- before the return, and after it with what it found
  abbrev State : PoolRecord → Type 0
  State r = IsState is_predicate options finds r

  abbrev StateWith : List Find → PoolRecord → Type 0
  StateWith more r = IsState is_predicate options (finds ++ more) r

  abbrev pub without : ℕ → PoolRecord → PoolRecord
  without job r = record r { given = without_job job r.given }

  -- ---- a given clause that goes

  gone-state :
      (job : ℕ) (j : GivenJob) (m : Removal) (r : PoolRecord)
      → Placed r → lives r j.number ≡ true → IsRightGone is_predicate options (clauses_of r) j m → State r → StateWith [] (removed options m (without job r))
  gone-state job j m r placed alive right state =
      let before : PoolRecord = without job r in
      let after : PoolRecord = removed options m before in
      let grown = removed-grows options m before in
      let tallies = removed-tallies options m before in
      record {
        victims = removed-victims options m before state.victims (ap (lives r) right.victim ∙ alive);
        told =
            subst (AllByRecursion (IsToldRight options.inferences after.positions after.deaths after.counted)) (sym grown.given)
            (told-grown options.inferences r.positions after.positions r.deaths after.deaths r.counted after.counted before.given
            (extends-same r.positions after.positions grown.positions) grown.deaths tallies.counted (without-state is_predicate options finds r job state).told);
        met =
            met-grown is_predicate the_mode r.registered after.registered r.positions after.positions r.active after.active r.deaths after.deaths
            (WasFound r.counted finds) (WasFound after.counted (finds ++ [])) (found-more r.counted after.counted finds (finds ++ []) tallies.counted ([], refl))
            placed.registered grown.clauses (extends-same r.positions after.positions grown.positions) grown.active grown.deaths state.met;
      }

  -- ---- a given clause that met the others

  module _
      (job : ℕ) (j : GivenJob) (entries : List Entry) (removals : List Removal) (r : PoolRecord) (placed : Placed r)
      (alive : lives r j.number ≡ true) (told : IsToldRight options.inferences r.positions r.deaths r.counted j)
      (right : IsRightMeeting is_predicate options (clauses_of r) j entries removals) (state : State r) where
    abbrev before : PoolRecord
    before = becomes_active j.number (without job r)

    abbrev keys : List Key
    keys = keys_of entries

    abbrev aside : PoolRecord
    aside = sets_aside entries before

    abbrev counted : PoolRecord
    counted = counts options keys (lines_of_entries entries) aside

    abbrev after : PoolRecord
    after = worked options j.number (Met entries removals) (without job r)

    -- unless the limit is reached, the clause met all
    new-met : after.ended ≡ None → Meets is_predicate the_mode r.registered r.positions r.deaths j.number (λ key. In key keys)
    new-met h =
        ⊎_elim
        (λ (early : j.left ≤ length entries).
        let enough = told.enough in
        let count : length (r.counted ++ keys) ≡ length r.counted + length entries =
        length-append r.counted keys ∙ ap (λ n. length r.counted + n) (length-map entries (λ (e : Entry). e.key)) in
        absurd
        (counts-ends options keys (lines_of_entries entries) aside (omega (arith, early, enough, count))
        (open-before counted after (proposed-tallies options removals counted) h)))
        (λ (whole : MeetsAll is_predicate options (clauses_of r) j entries × RemovesAll is_predicate options (clauses_of r) j removals).
        job-meets is_predicate options options.inferences r.registered r.positions r.deaths r.counted j entries (living-not-dead r j.number alive) told whole.0)
        right.whole

    counted-more : Extends (r.counted ++ keys) after.counted
    counted-more = (met-tallies options j.number entries removals (without job r)).counted

    -- what the return found
    abbrev found : List Find
    found = map (λ (key : Key). record { by = j.number; key = key }) keys

    new-found : (key : Key) → In key keys → WasFound (r.counted ++ keys) (finds ++ found) j.number key
    new-found key there = (
      In-right key r.counted keys there,
      In-right (record { by = j.number; key = key }) finds found (In-map (λ (k : Key). let f : Find = record { by = j.number; key = k } in f) key keys there),
    )

    met-state : after.ended ≡ None → StateWith found after
    met-state h =
        let grown = met-grows options j.number entries removals (without job r) in
        record {
          victims =
              all-proposed-victims options removals counted
              (victims-keep aside counted (counts-keeps options keys (lines_of_entries entries) aside) state.victims);
          told =
              subst (AllByRecursion (IsToldRight options.inferences after.positions after.deaths after.counted)) (sym grown.given)
              (told-grown options.inferences r.positions after.positions r.deaths after.deaths r.counted after.counted before.given
              (extends-same r.positions after.positions grown.positions) grown.deaths
              (keys ++ counted-more.0, counted-more.1 ∙ append_assoc r.counted keys counted-more.0) (without-state is_predicate options finds r job state).told);
          met =
              met-grown is_predicate the_mode r.registered after.registered r.positions after.positions before.active after.active r.deaths after.deaths
              (WasFound (r.counted ++ keys) (finds ++ found)) (WasFound after.counted (finds ++ found))
              (found-more (r.counted ++ keys) after.counted (finds ++ found) (finds ++ found) counted-more (extends-same (finds ++ found) (finds ++ found) refl))
              placed.registered grown.clauses (extends-same r.positions after.positions grown.positions) grown.active grown.deaths
              (met-more is_predicate the_mode r.registered r.positions r.active r.deaths j.number (WasFound r.counted finds)
              (WasFound (r.counted ++ keys) (finds ++ found)) (found-more r.counted (r.counted ++ keys) finds (finds ++ found) (keys, refl) (found, refl))
              told.placed (λ key c is none inferred. new-found key (new-met h key c is none inferred)) state.met);
        }

  -- ---- returns

  worked-state :
      (job : ℕ) (j : GivenJob) (work : Work) (r : PoolRecord)
      → Placed r → IsToldRight options.inferences r.positions r.deaths r.counted j → IsTaken is_predicate options r work j → State r
      → (worked options j.number work (without job r)).ended ≡ None → StateWith (finds_by (Some j) work) (worked options j.number work (without job r))
  worked-state job j (Gone m) r placed told is_taken state = λ h. gone-state job j m r placed is_taken.0 is_taken.2 state
  worked-state job j (Met entries removals) r placed told is_taken state =
      met-state job j entries removals r placed is_taken.0 told is_taken.2 state

  pub returned-state :
      (batch : Batch) (j : GivenJob) (r : PoolRecord)
      → Placed r → given_job r batch.job ≡ Some j → IsTaken is_predicate options r batch.work j
      → (r.ended ≡ None → State r)
      → let s : PoolRecord = returns_to options batch (given_job r batch.job) r in
      s.ended ≡ None → StateWith (finds_by (given_job r batch.job) batch.work) s
  returned-state batch j r placed out is_taken stated =
      subst
      (λ o. (returns_to options batch o r).ended ≡ None → StateWith (finds_by o batch.work) (returns_to options batch o r)) (sym out)
      (by-test (λ (s : PoolRecord). s.ended ≡ None → StateWith (finds_by (Some j) batch.work) s) (is_none r.ended)
      (worked options j.number batch.work (without batch.job r)) (becomes_active j.number (without batch.job r))
      (λ is_open.
      let state = stated (open-is r.ended is_open) in
      worked-state batch.job j batch.work r placed
      (all-found (IsToldRight options.inferences r.positions r.deaths r.counted) batch.job r.given j state.told out) is_taken state)
      (λ closed h. absurd (is-closed r.ended closed h)))
