-- A batch that is returned keeps what is covered: where the given clause goes, and where it met the told ones.
use Rattle.std.proofs.Common.{◌≡◌, ℕ, true, List, [], ◌++◌, length, ap, sym, ◌∙◌, subst, arith}
use Rattle.std.specs.Prelude.{None, Some, is_none}
use Rattle.std.specs.List.{list_all, AllByRecursion}
use Rattle.std.proofs.lemmas.List.Elements.{recursion_from_All}
use Rattle.fol_base.specs.Clause.{TreeClause}
use Rattle.fol_base.specs.Symbols.{FunctionSymbols}
use Rattle.fol_base.specs.Selection.{SelectionMode}
use Rattle.fol_base.specs.WellFormed.{SymbolUse}
use Rattle.kbo_order.proofs.AboutMultisets.MemberLemmas.{In-right}
use Rattle.kernel_steps.specs.Symbols.{clause_symbols_pass}
use Rattle.kernel_steps.specs.declared.key.Key.{Key}
use Rattle.kernel_steps.specs.declared.step.Line.{Line}
use Rattle.literal_selection.specs.Mode.{mode_of}
use Rattle.laws_calculus.specs.Symbols.{is_allowed}
use Rattle.pool_history.specs.Record.{PoolRecord, GivenJob, clauses_of, lives, given_job, without_job}
use Rattle.pool_history.specs.Counting.{counts, keys_of, lines_of_entries}
use Rattle.pool_history.specs.Returning.{removed, becomes_active, heavy_entries, sets_aside, worked, returns_to}
use Rattle.pool_history.specs.Batches.{IsRightFate, IsRightRemoval, IsRightGone, IsRightMeeting}
use Rattle.pool_history.specs.Lawful.{IsTaken}
use Rattle.pool_history.specs.declared.options.Options.{Options}
use Rattle.pool_history.specs.declared.batch.Batch.{Batch}
use Rattle.pool_history.specs.declared.batch.Entry.{Entry}
use Rattle.pool_history.specs.declared.batch.Removal.{Removal}
use Rattle.pool_history.specs.declared.batch.Work.{Work}
use Rattle.pool_history.specs.declared.batch.Work.TheVariants.{Gone, Met}
use Rattle.pool_history.proofs.AboutCounting.CountedRecords.{Lookup, lookup-more}
use Rattle.pool_history.proofs.AboutCounting.DeathLemmas.{counts-keeps}
use Rattle.pool_history.proofs.AboutRecords.GrowthLemmas.{counts-grows}
use Rattle.pool_history.proofs.AboutRecords.WalkLemmas.{counts-holds}
use Rattle.pool_history.proofs.AboutLines.JoinedLemmas.{by-test}
use Rattle.pool_history.proofs.AboutLines.PoolLineLemmas.{Sound}
use Rattle.pool_history.proofs.AboutLines.SoundLemmas.{open-is}
use Rattle.laws_saturation.proofs.AboutCarried.VictimLemmas.{Victims, victims-keep}
use Rattle.laws_saturation.proofs.AboutCarried.CarriedLemmas.{HeldBy, held-due, carried-more, counted-carried}
use Rattle.laws_saturation.proofs.AboutCarried.ArrivalLemmas.{results_due, Opens, OpenWith, is-closed, counts-open}
use Rattle.laws_saturation.proofs.AboutCarried.AwakeLemmas.{NameChoice}
use Rattle.laws_saturation.proofs.AboutCarried.FitLemmas.{HasParts, comes-has-parts}
use Rattle.laws_saturation.proofs.AboutCarried.RemovalLemmas.{removed-open, all-proposed-held}
use Rattle.laws_saturation.proofs.AboutCarried.EntryLemmas.{entries-settled, entries-below}
use Rattle.laws_saturation.proofs.AboutCarried.RegisteredLemmas.{registered-pass, registered-formed}

module _
    (usage : SymbolUse) (functions : FunctionSymbols usage.is_predicate) (inputs : List TreeClause)
    (inputs_pass : list_all (clause_symbols_pass (is_allowed functions)) inputs ≡ true) (choice : NameChoice) (options : Options) where
  abbrev the_mode : SelectionMode
  the_mode = mode_of options.select

  abbrev pub Covered : PoolRecord → Type 0
  Covered r = OpenWith choice functions the_mode inputs [] r

  -- where the choice fits
  abbrev pub Opened : PoolRecord → Type 0
  Opened r = Opens choice functions the_mode inputs [] r

  abbrev without : ℕ → PoolRecord → PoolRecord
  without job r = record r { given = without_job job r.given }

  -- ---- a given clause that goes

  gone-covered :
      (job : ℕ) (j : GivenJob) (m : Removal) (r : PoolRecord)
      → Sound usage inputs r → Victims r → lives r j.number ≡ true → list_all (lives r) m.justifiers ≡ true
      → IsRightGone usage.is_predicate options (clauses_of r) j m → Opened r → Covered (removed options m (without job r))
  gone-covered job j m r sound victims alive live right opens =
      removed-open usage functions inputs choice options (length r.parts) r.registered (registered-pass usage inputs functions inputs_pass r sound)
      (registered-formed usage inputs r sound) j m (without job r) (λ n c there. there) (omega arith) victims opens
      (ap (lives r) right.victim ∙ alive) live right.right

  -- ---- a given clause that met the others

  module _
      (job : ℕ) (j : GivenJob) (entries : List Entry) (removals : List Removal) (r : PoolRecord) (sound : Sound usage inputs r) (victims : Victims r)
      (right : IsRightMeeting usage.is_predicate options (clauses_of r) j entries removals) (opens : Opened r) where
    abbrev keys : List Key
    keys = keys_of entries

    abbrev results : List (List Line)
    results = lines_of_entries entries

    abbrev aside : PoolRecord
    aside = sets_aside entries (becomes_active j.number (without job r))

    abbrev counted : PoolRecord
    counted = counts options keys results aside

    abbrev due : List TreeClause
    due = results_due results

    rights : AllByRecursion (λ (e : Entry). IsRightFate usage.is_predicate options (Lookup r.registered) j e.key e.fate) entries
    rights = recursion_from_All (λ (e : Entry). IsRightFate usage.is_predicate options (Lookup r.registered) j e.key e.fate) entries right.right_entries

    -- the results come
    counted-covered : Covered counted
    counted-covered =
        counts-open choice functions the_mode inputs options (length r.parts) keys results aside
        (entries-below usage functions inputs choice options (length r.parts) r.registered (registered-pass usage inputs functions inputs_pass r sound)
        (registered-formed usage inputs r sound) j entries rights)
        (omega arith) victims
        (λ h fits.
        counted-carried choice functions the_mode inputs r.registered r.counted r.set_aside keys (keys_of (heavy_entries entries))
        (HeldBy choice r.registered r.deaths due)
        (entries-settled usage functions inputs choice options (length r.parts) r.registered (registered-pass usage inputs functions inputs_pass r sound)
        (registered-formed usage inputs r sound) j r.deaths r.counted r.set_aside (opens fits) entries
        (r.set_aside ++ keys_of (heavy_entries entries)) due rights (λ key there. In-right key r.set_aside (keys_of (heavy_entries entries)) there)
        (λ d there. there))
        (carried-more choice functions the_mode inputs r.registered r.counted r.set_aside (HeldBy choice r.registered r.deaths [])
        (HeldBy choice r.registered r.deaths due) (λ d held. held-due choice r.registered r.deaths [] due d (λ none. absurd none) held) (opens fits)))

    -- and the removals take effect
    met-covered : Covered (worked options j.number (Met entries removals) (without job r))
    met-covered =
        (all-proposed-held usage functions inputs choice options (length r.parts) r.registered (registered-pass usage inputs functions inputs_pass r sound)
        (registered-formed usage inputs r sound) j removals counted
        (recursion_from_All (IsRightRemoval usage.is_predicate options (Lookup r.registered) j) removals right.right_removals)
        (record {
          kept = λ n c there.
              let more = (counts-grows options keys results aside).clauses in
              ap (λ xs. Lookup xs n) more.1 ∙ lookup-more r.registered more.0 n c there;
          few =
              counts-holds options (HasParts (length r.parts)) (comes-has-parts (length r.parts) options.split) keys results aside (omega arith);
          victims = victims-keep aside counted (counts-keeps options keys results aside) victims;
          opened = counted-covered;
        })).opened

  -- ---- returns

  worked-covered :
      (job : ℕ) (j : GivenJob) (work : Work) (r : PoolRecord)
      → Sound usage inputs r → Victims r → IsTaken usage.is_predicate options r work j → Opened r
      → Covered (worked options j.number work (without job r))
  worked-covered job j (Gone m) r sound victims is_taken is_open = gone-covered job j m r sound victims is_taken.0 is_taken.1 is_taken.2 is_open
  worked-covered job j (Met entries removals) r sound victims is_taken is_open = met-covered job j entries removals r sound victims is_taken.2 is_open

  pub returned-covered :
      (batch : Batch) (j : GivenJob) (r : PoolRecord)
      → Sound usage inputs r → (r.ended ≡ None → Victims r) → given_job r batch.job ≡ Some j → IsTaken usage.is_predicate options r batch.work j
      → Covered r → Covered (returns_to options batch (given_job r batch.job) r)
  returned-covered batch j r sound victims out is_taken covered =
      subst (λ p. Covered (returns_to options batch p r)) (sym out)
      (by-test Covered (is_none r.ended) (worked options j.number batch.work (without batch.job r)) (becomes_active j.number (without batch.job r))
      (λ is_none.
      let is_open = open-is r.ended is_none in
      worked-covered batch.job j batch.work r sound (victims is_open) is_taken (covered is_open))
      (λ closed h. absurd (is-closed r.ended closed h)))
