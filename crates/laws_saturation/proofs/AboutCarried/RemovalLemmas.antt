-- Clauses that go: each is covered by the clauses that justify it, which live, and by its result, which is due. So each death is one step
-- across what is covered.
use Rattle.std.proofs.Common.{◌≡◌, ℕ, ◌≤◌, Bool, true, false, not, ◌&&◌, ◌==◌, List, [], ◌∷◌, ◌++◌, length, map, refl, ap, sym, ◌∙◌, subst, inl, inr, ⊎_elim, if◌then◌else◌}
use Rattle.std.specs.Prelude.{Option, None, Some, nat_lt, fold}
use Rattle.std.specs.List.{list_all, cons_option, AllByRecursion}
use Rattle.std.proofs.lemmas.Bool.{and_parts, and_from, not-true}
use Rattle.std.proofs.lemmas.List.Folds.{list_all-append}
use Rattle.std.proofs.lemmas.Option.{none-some}
use Rattle.fol_base.specs.Clause.{TreeClause}
use Rattle.fol_base.specs.Literal.{clause_of}
use Rattle.fol_base.specs.Symbols.{FunctionSymbols}
use Rattle.fol_base.specs.Selection.{SelectionMode}
use Rattle.fol_base.specs.Subsumption.{is_among}
use Rattle.fol_base.specs.WellFormed.{SymbolUse}
use Rattle.kernel_steps.specs.Moves.{end_of_moves, units_of}
use Rattle.kernel_steps.specs.declared.key.Key.{Key}
use Rattle.kernel_steps.specs.declared.key.Key.TheVariants.{Replaced}
use Rattle.kernel_steps.specs.declared.step.Line.{Line}
use Rattle.literal_selection.specs.Mode.{mode_of}
use Rattle.laws_calculus.specs.Symbols.{HasSymbolsOf}
use Rattle.laws_calculus.specs.Lifting.{among}
use Rattle.pool_history.specs.Record.{PoolRecord, Registered, Death, GivenJob, lives}
use Rattle.pool_history.specs.Reduction.{AreLinesFrom, clauses_used, IsRedundant, subsumers, same_numbers}
use Rattle.pool_history.specs.Batches.{is_told, is_told_beside, IsRightlyReplaced, IsRightlyRemoved, IsRightRemovalBy, IsRightRemoval}
use Rattle.pool_history.specs.Returning.{dies, replaced, removed, takes_effect, proposed}
use Rattle.pool_history.specs.declared.options.Options.{Options}
use Rattle.pool_history.specs.declared.batch.Fate.{Fate}
use Rattle.pool_history.specs.declared.batch.Fate.TheVariants.{Kept, Dropped, Heavy}
use Rattle.pool_history.specs.declared.batch.Redundancy.{Redundancy}
use Rattle.pool_history.specs.declared.batch.Redundancy.TheVariants.{Tautology, Subsumed}
use Rattle.pool_history.specs.declared.batch.Removal.{Removal}
use Rattle.pool_history.proofs.AboutCounting.CountedRecords.{Lookup, lookup-more}
use Rattle.pool_history.proofs.AboutCounting.DeathLemmas.{among-pass}
use Rattle.pool_history.proofs.AboutLines.FormedLemmas.{IsFormed, result-formed}
use Rattle.pool_history.proofs.AboutRecords.GrowthLemmas.{all-proposed-grows}
use Rattle.pool_history.proofs.AboutRecords.WalkLemmas.{all-proposed-holds}
use Rattle.pool_history.proofs.AboutLines.JoinedLemmas.{by-test}
use Rattle.laws_calculus.specs.Coverage.{CoversEach}
use Rattle.laws_calculus.proofs.AboutCovering.CoverLemmas.{Together, tautologies}
use Rattle.laws_calculus.proofs.AboutCovering.EachLemmas.{each-more}
use Rattle.laws_calculus.proofs.AboutCovering.MoveLemmas.{moves-reached, subsumed-covered, away-covered}
use Rattle.laws_saturation.proofs.AboutCarried.CarriedLemmas.{alive, Living, HeldBy, Open, alive-on, dead-carried, keys-carried}
use Rattle.laws_saturation.proofs.AboutCarried.VictimLemmas.{Victims, victims-die, effect-parts, living-registered, proposed-victims}
use Rattle.laws_saturation.proofs.AboutCarried.ArrivalLemmas.{LeadsBelow, Opens, OpenWith, counts-open}
use Rattle.laws_saturation.proofs.AboutCarried.AwakeLemmas.{NameChoice, awake, awake_at, subsumer-awake, moves-awake}
use Rattle.laws_saturation.proofs.AboutCarried.FitLemmas.{Fits, HasParts, comes-has-parts}

-- ---- clauses that are looked up

pub among-parts :
    (test : ℕ → Bool) (clauses : ℕ → Option TreeClause) (n : ℕ) (c : TreeClause)
    → among test clauses n ≡ Some c → (test n ≡ true) × (clauses n ≡ Some c)
among-parts test clauses n c there = by (test n) refl there
  where
    by : (b : Bool) → test n ≡ b → (if b then clauses n else None) ≡ Some c → (test n ≡ true) × (clauses n ≡ Some c)
    by true is h = (is, h)
    by false is h = absurd (none-some c h)

module _
    (usage : SymbolUse) (functions : FunctionSymbols usage.is_predicate) (inputs : List TreeClause)
    (choice : NameChoice) (options : Options) (count : ℕ)
    (told : List Registered) (symbols : (n : ℕ) (c : TreeClause) → Lookup told n ≡ Some c → HasSymbolsOf functions c)
    (formed : (n : ℕ) (c : TreeClause) → Lookup told n ≡ Some c → IsFormed usage count c) (j : GivenJob) where
  abbrev the_mode : SelectionMode
  the_mode = mode_of options.select

  -- lines from told clauses assert no other parts
  pub lines-below : (lines : List Line) → AreLinesFrom usage.is_predicate (among (is_told j) (Lookup told)) lines → LeadsBelow count lines
  lines-below lines from c led =
      (result-formed usage count (among (is_told j) (Lookup told)) lines from
      (λ n d there. formed n d (among-parts (is_told j) (Lookup told) n d there).1) c led).below

  -- ---- one removal

  module _
      (registered : List Registered) (deaths : List Death) (kept : (n : ℕ) (c : TreeClause) → Lookup told n ≡ Some c → Lookup registered n ≡ Some c)
      (d : Death) (live : list_all (alive registered deaths) d.justifiers ≡ true) where
    abbrev clauses : ℕ → Option TreeClause
    clauses = among (is_told_beside j d.victim) (Lookup told)

    -- what may be used, after the death
    abbrev Used : TreeClause → Type 0
    Used u = Living registered (deaths ++ d ∷ []) u × HasSymbolsOf functions u × (awake choice u ≡ true)

    used-pass : (u : TreeClause) → Used u → HasSymbolsOf functions u
    used-pass u used = used.1

    -- it lives and is awake
    abbrev is_usable : ℕ → Bool
    is_usable n = alive registered deaths n && awake_at choice (clauses n)

    uses : (n : ℕ) (u : TreeClause) → clauses n ≡ Some u → is_usable n ≡ true → Used u
    uses n u there usable =
        let both = and_parts (alive registered deaths n) (awake_at choice (clauses n)) usable in
        let at = among-parts (is_told_beside j d.victim) (Lookup told) n u there in
        let other = not-true (n == d.victim) (and_parts (is_told j n) (not (n == d.victim)) at.0).1 in (
          record { number = n; lives = alive-on registered deaths d n both.0 other; there = kept n u at.1 },
          symbols n u at.1,
          sym (ap (awake_at choice) there) ∙ both.1,
        )

    usable : (ns : List ℕ) → list_all (alive registered deaths) ns ≡ true → list_all (λ n. awake_at choice (clauses n)) ns ≡ true → list_all is_usable ns ≡ true
    usable [] live are = refl
    usable (n ∷ ns) live are =
        let one = and_parts (alive registered deaths n) (list_all (alive registered deaths) ns) live in
        let other = and_parts (awake_at choice (clauses n)) (list_all (λ m. awake_at choice (clauses m)) ns) are in
        and_from (is_usable n) (list_all is_usable ns)
        (and_from (alive registered deaths n) (awake_at choice (clauses n)) one.0 other.0) (usable ns one.1 other.1)

    -- the justifiers are those used
    used-live : (ns ms : List ℕ) → same_numbers d.justifiers (ns ++ ms) ≡ true → (list_all (alive registered deaths) ns ≡ true) × (list_all (alive registered deaths) ms ≡ true)
    used-live ns ms same =
        let p : ℕ → Bool = alive registered deaths in
        let both = and_parts (is_among d.justifiers (ns ++ ms)) (is_among (ns ++ ms) d.justifiers) same in
        and_parts (list_all p ns) (list_all p ms) (sym (list_all-append p ns ms) ∙ among-pass p (ns ++ ms) d.justifiers both.1 live)

    redundant-covered :
        (c : TreeClause) (redundancy : Redundancy)
        → HasSymbolsOf functions c → IsRedundant usage.is_predicate clauses c redundancy → list_all (alive registered deaths) (subsumers redundancy) ≡ true
        → awake choice c ≡ true → CoversEach functions Used c
    redundant-covered c Tautology passes redundant lives is_awake =
        tautologies usage.is_predicate functions Used c redundant
    redundant-covered c (Subsumed n) passes redundant lives is_awake =
        subsumed-covered usage.is_predicate functions Used used-pass clauses is_usable uses c n passes redundant
        (and_from (alive registered deaths n) (awake_at choice (clauses n)) (and_parts (alive registered deaths n) true lives).0
        (ap (awake_at choice) redundant.there ∙ subsumer-awake choice usage.is_predicate redundant.clause c redundant.infers is_awake))

    -- by what lives on, and a result that is due
    pub victim-replaced :
        (lines : List Line) (results : List TreeClause)
        → (right : IsRightlyReplaced usage.is_predicate options (Lookup told) j d.victim d.justifiers lines results)
        → awake choice right.clause ≡ true → CoversEach functions (HeldBy choice registered (deaths ++ d ∷ []) (right.result ∷ [])) right.clause
    victim-replaced lines results right is_awake =
        let ms = right.move ∷ right.moves in
        let stays = moves-awake choice usage.is_predicate clauses ms right.clause right.reduced.moved is_awake in
        let there = (among-parts (is_told j) (Lookup told) d.victim right.clause right.there).1 in
        let reached =
        moves-reached usage.is_predicate functions Used used-pass clauses is_usable uses ms right.clause right.reduced.moved
        (usable (units_of ms) (used-live (units_of ms) (clauses_used d.victim lines) right.justified).0 stays.units) (symbols d.victim right.clause there) in
        each-more functions (Together Used (end_of_moves right.clause ms)) (HeldBy choice registered (deaths ++ d ∷ []) (right.result ∷ [])) right.clause
        (λ e h.
        ⊎_elim (λ (used : Used e). (inl used.0, used.2))
        (λ (same : e ≡ end_of_moves right.clause ms).
        (inr (inl (same ∙ right.reduced.ends)), subst (λ (x : TreeClause). awake choice x ≡ true) (sym same) stays.end)) h)
        reached.covers

    pub victim-dropped :
        (redundancy : Redundancy)
        → (right : IsRightlyRemoved usage.is_predicate options (Lookup told) j d.victim d.justifiers redundancy)
        → awake choice right.clause ≡ true → CoversEach functions (HeldBy choice registered (deaths ++ d ∷ []) []) right.clause
    victim-dropped redundancy right is_awake =
        let stays = moves-awake choice usage.is_predicate clauses right.moves right.clause right.moved is_awake in
        let there = (among-parts (is_told j) (Lookup told) d.victim right.clause right.there).1 in
        let used = used-live (units_of right.moves) (subsumers redundancy) right.justified in
        let reached =
        moves-reached usage.is_predicate functions Used used-pass clauses is_usable uses right.moves right.clause right.moved
        (usable (units_of right.moves) used.0 stays.units) (symbols d.victim right.clause there) in
        each-more functions Used (HeldBy choice registered (deaths ++ d ∷ []) []) right.clause (λ e held. (inl held.0, held.2))
        (away-covered usage.is_predicate functions Used used-pass right.clause (end_of_moves right.clause right.moves) reached
        (redundant-covered (end_of_moves right.clause right.moves) redundancy reached.symbols right.redundant used.1 stays.end))

  -- ---- records

  abbrev KeepsTold : PoolRecord → Type 0
  KeepsTold r = (n : ℕ) (c : TreeClause) → Lookup told n ≡ Some c → Lookup r.registered n ≡ Some c

  abbrev the_death : Removal → PoolRecord → Death
  the_death m r = record { victim = m.victim; event = r.events; justifiers = m.justifiers }

  abbrev Open_with : List TreeClause → PoolRecord → Type 0
  Open_with due r = OpenWith choice functions the_mode inputs due r

  pub removed-open :
      (m : Removal) (r : PoolRecord)
      → KeepsTold r → count ≤ length r.parts → Victims r → Opens choice functions the_mode inputs [] r
      → lives r m.victim ≡ true → list_all (lives r) m.justifiers ≡ true
      → IsRightRemoval usage.is_predicate options (Lookup told) j m
      → Open_with [] (removed options m r)
  removed-open m r kept few victims opens victim_lives live right = by m.fate right
    where
      d : Death
      d = the_death m r

      below : nat_lt m.victim (length r.registered) ≡ true
      below = living-registered r m.victim victim_lives

      by :
          (fate : Fate) → IsRightRemovalBy usage.is_predicate options (Lookup told) j m.victim m.justifiers fate
          → Open_with [] (replaced options m.victim fate (dies m.victim m.justifiers r))
      by (Kept lines results) right =
          let there = kept m.victim right.clause (among-parts (is_told j) (Lookup told) m.victim right.clause right.there).1 in
          let due : List TreeClause = right.result ∷ [] in
          let keys : List Key = Replaced m.victim ∷ [] in
          let dead : Fits choice r → Open choice functions the_mode inputs (dies m.victim m.justifiers r) due = λ fits.
          dead-carried choice functions the_mode inputs r.registered r.deaths r.counted r.set_aside d right.clause due there
          (victim-replaced r.registered r.deaths kept d live lines (map clause_of results) right) (opens fits) in
          counts-open choice functions the_mode inputs options count keys (lines ∷ []) (dies m.victim m.justifiers r)
          (lines-below lines right.are_lines, tt) few (victims-die r.registered r.deaths d victims below)
          (λ h fits.
          subst (λ o. Open choice functions the_mode inputs (record r { deaths = r.deaths ++ d ∷ []; counted = r.counted ++ keys }) (cons_option o []))
          (sym right.reduced.led)
          (keys-carried choice functions the_mode inputs r.registered r.counted r.set_aside keys (HeldBy choice r.registered (r.deaths ++ d ∷ []) due)
          (λ key there. ⊎_elim (λ (same : key ≡ Replaced m.victim). inr (inl (m.victim, same))) (λ none. absurd none) there) (dead fits)))
      by (Dropped redundancy) right = λ h fits.
          dead-carried choice functions the_mode inputs r.registered r.deaths r.counted r.set_aside d right.clause []
          (kept m.victim right.clause (among-parts (is_told j) (Lookup told) m.victim right.clause right.there).1)
          (victim-dropped r.registered r.deaths kept d live redundancy right) (opens fits)
      by Heavy right = absurd right

  -- ---- proposed removals

  -- what is open after removals, and what they keep
  pub record IsHeld (r : PoolRecord) : Type 0 where
    pub kept : KeepsTold r
    pub few : count ≤ length r.parts
    pub victims : Victims r
    pub opened : Open_with [] r

  pub all-proposed-held :
      (ms : List Removal) (r : PoolRecord)
      → AllByRecursion (IsRightRemoval usage.is_predicate options (Lookup told) j) ms → IsHeld r → IsHeld (fold (proposed options) r ms)
  all-proposed-held [] r right held = held
  all-proposed-held (m ∷ ms) r right held =
      all-proposed-held ms s right.1 (record { kept = s_kept; few = s_few; victims = s_victims; opened = s_open })
    where
      s : PoolRecord
      s = proposed options r m

      s_open : Open_with [] s
      s_open =
          by-test (Open_with []) (takes_effect r m) (removed options m r) r
          (λ effect.
          let is = effect-parts r m effect in
          removed-open m r held.kept held.few held.victims (held.opened is.is_open) is.victim is.justifiers right.0)
          (λ none. held.opened)

      s_victims : Victims s
      s_victims = proposed-victims options m r held.victims

      s_few : count ≤ length s.parts
      s_few = all-proposed-holds options (HasParts count) (comes-has-parts count options.split) (m ∷ []) r held.few

      s_kept : KeepsTold s
      s_kept n c there =
          let more = (all-proposed-grows options (m ∷ []) r).clauses in
          ap (λ xs. Lookup xs n) more.1 ∙ lookup-more r.registered more.0 n c (held.kept n c there)
