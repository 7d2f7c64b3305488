-- The entries of a batch: the conclusion of each inference is covered by the told clauses, which are covered themselves, and by its result,
-- which is due; or the inference is set aside.
use Rattle.std.proofs.Common.{◌≡◌, ℕ, Bool, true, false, List, [], ◌∷◌, map, refl, ap, sym, ◌∙◌, subst, inl, inr, ⊎_elim}
use Rattle.std.specs.Prelude.{Option, None, Some, cond}
use Rattle.std.specs.List.{cons_option, AllByRecursion}
use Rattle.fol_base.specs.Clause.{TreeClause}
use Rattle.fol_base.specs.Literal.{clause_of}
use Rattle.fol_base.specs.Symbols.{FunctionSymbols}
use Rattle.fol_base.specs.Selection.{SelectionMode}
use Rattle.fol_base.specs.WellFormed.{SymbolUse}
use Rattle.kbo_order.proofs.AboutMultisets.MemberLemmas.{In}
use Rattle.kernel_steps.specs.Moves.{end_of_moves}
use Rattle.kernel_steps.specs.Named.{IsInference}
use Rattle.kernel_steps.specs.Sized.{IsSizedInference}
use Rattle.kernel_steps.specs.declared.key.Key.{Key}
use Rattle.kernel_steps.specs.declared.key.Key.TheVariants.{Para, Refl, Factor, Replaced}
use Rattle.kernel_steps.specs.declared.step.Line.{Line}
use Rattle.literal_selection.specs.Mode.{mode_of}
use Rattle.laws_calculus.specs.Symbols.{is_allowed, HasSymbolsOf}
use Rattle.laws_calculus.specs.Lifting.{among}
use Rattle.pool_history.specs.Record.{Registered, Death, GivenJob}
use Rattle.pool_history.specs.Lines.{result_of}
use Rattle.pool_history.specs.Reduction.{IsRedundant}
use Rattle.pool_history.specs.Counting.{lines_of_fate, is_heavy, lines_of_entries, keys_of}
use Rattle.pool_history.specs.Returning.{heavy_entries}
use Rattle.pool_history.specs.Batches.{is_told, IsRightlyKept, IsRightlyDropped, IsRightFate}
use Rattle.pool_history.specs.declared.options.Options.{Options}
use Rattle.pool_history.specs.declared.batch.Entry.{Entry}
use Rattle.pool_history.specs.declared.batch.Fate.{Fate}
use Rattle.pool_history.specs.declared.batch.Fate.TheVariants.{Kept, Dropped, Heavy}
use Rattle.pool_history.specs.declared.batch.Redundancy.{Redundancy}
use Rattle.pool_history.specs.declared.batch.Redundancy.TheVariants.{Tautology, Subsumed}
use Rattle.pool_history.proofs.AboutCounting.CountedRecords.{Lookup}
use Rattle.pool_history.proofs.AboutLines.FormedLemmas.{IsFormed}
use Rattle.laws_calculus.specs.Coverage.{CoversEach}
use Rattle.laws_saturation.proofs.AboutClosing.ConclusionLemmas.{inferences_keep_symbols}
use Rattle.laws_calculus.proofs.AboutCovering.CoverLemmas.{tautologies}
use Rattle.laws_calculus.proofs.AboutCovering.EachLemmas.{each-held, each-more, each-across, each-beside}
use Rattle.laws_calculus.proofs.AboutCovering.MoveLemmas.{moves-reached, subsumed-covered, away-covered}
use Rattle.laws_saturation.proofs.AboutCarried.CarriedLemmas.{HeldBy, held-due, IsCarried, IsSettled, inference-more}
use Rattle.laws_saturation.proofs.AboutCarried.ArrivalLemmas.{LeadsBelow, results_due}
use Rattle.laws_saturation.proofs.AboutCarried.AwakeLemmas.{NameChoice, awake, awake_at, subsumer-awake, moves-awake}
use Rattle.laws_saturation.proofs.AboutCarried.RemovalLemmas.{among-parts, lines-below}

-- ---- inferences without their sizes

module _ (is_predicate : ℕ → Bool) (mode : SelectionMode) where
  pub sized-inference :
      (clauses : ℕ → Option TreeClause) (key : Key) (c : TreeClause) (heavy : Bool)
      → IsSizedInference is_predicate mode clauses key c heavy → IsInference is_predicate mode clauses key c
  sized-inference clauses (Para first i s second j z place) c heavy is = record {
    first_clause = is.first_clause;
    first_there = is.first_there;
    second_clause = is.second_clause;
    second_there = is.second_there;
    infers = is.infers.named;
  }
  sized-inference clauses (Refl n i) c heavy is = record { clause = is.clause; there = is.there; infers = is.infers.named }
  sized-inference clauses (Factor n i s j z) c heavy is = record { clause = is.clause; there = is.there; infers = is.infers.named }
  sized-inference clauses (Replaced n) c heavy is = is

In-option : {X : Type 0} (x : X) (o : Option X) (xs : List X) → In x xs → In x (cons_option o xs)
In-option x None xs there = there
In-option x (Some y) xs there = inr there

module _
    (usage : SymbolUse) (functions : FunctionSymbols usage.is_predicate) (inputs : List TreeClause)
    (choice : NameChoice) (options : Options) (count : ℕ)
    (registered : List Registered) (symbols : (n : ℕ) (c : TreeClause) → Lookup registered n ≡ Some c → HasSymbolsOf functions c)
    (formed : (n : ℕ) (c : TreeClause) → Lookup registered n ≡ Some c → IsFormed usage count c) (j : GivenJob) where
  abbrev the_mode : SelectionMode
  the_mode = mode_of options.select

  abbrev clauses : ℕ → Option TreeClause
  clauses = among (is_told j) (Lookup registered)

  -- ---- a conclusion

  -- what may be used: registered clauses that are awake
  abbrev Used : TreeClause → Type 0
  Used u = (n : ℕ) × (Lookup registered n ≡ Some u) × (awake choice u ≡ true)

  used-pass : (u : TreeClause) → Used u → HasSymbolsOf functions u
  used-pass u used = symbols used.0 u used.1

  abbrev is_usable : ℕ → Bool
  is_usable n = awake_at choice (clauses n)

  uses : (n : ℕ) (u : TreeClause) → clauses n ≡ Some u → is_usable n ≡ true → Used u
  uses n u there usable = (n, (among-parts (is_told j) (Lookup registered) n u there).1, sym (ap (awake_at choice) there) ∙ usable)

  told-inference :
      (key : Key) (c : TreeClause) (heavy : Bool) → IsSizedInference usage.is_predicate the_mode clauses key c heavy
      → IsInference usage.is_predicate the_mode (Lookup registered) key c
  told-inference key c heavy is =
      inference-more usage.is_predicate the_mode clauses (Lookup registered) (λ n d there. (among-parts (is_told j) (Lookup registered) n d there).1) key c
      (sized-inference usage.is_predicate the_mode clauses key c heavy is)

  told-passes :
      (key : Key) (c : TreeClause) → IsInference usage.is_predicate the_mode (Lookup registered) key c → HasSymbolsOf functions c
  told-passes key c is = inferences_keep_symbols usage.is_predicate the_mode (is_allowed functions) (Lookup registered) key c symbols is

  redundant-covered :
      (c : TreeClause) (redundancy : Redundancy) → HasSymbolsOf functions c → IsRedundant usage.is_predicate clauses c redundancy
      → awake choice c ≡ true → CoversEach functions Used c
  redundant-covered c Tautology passes redundant is =
      tautologies usage.is_predicate functions Used c redundant
  redundant-covered c (Subsumed n) passes redundant is =
      subsumed-covered usage.is_predicate functions Used used-pass clauses is_usable uses c n passes redundant
      (ap (awake_at choice) redundant.there ∙ subsumer-awake choice usage.is_predicate redundant.clause c redundant.infers is)

  module _ (deaths : List Death) (counted set_aside : List Key) (carried : IsCarried choice functions the_mode inputs registered counted set_aside (HeldBy choice registered deaths [])) where
    abbrev Holds : List TreeClause → TreeClause → Type 0
    Holds due = HeldBy choice registered deaths due

    used-covered : (due : List TreeClause) (u : TreeClause) → Used u → CoversEach functions (Holds due) u
    used-covered due u used =
        each-more functions (Holds []) (Holds due) u
        (λ d h. held-due choice registered deaths [] due d (λ none. absurd none) h) (carried.clauses_covered used.0 u used.1 used.2)

    kept-covered :
        (due : List TreeClause) (key : Key) (lines : List Line) (results : List TreeClause)
        → (right : IsRightlyKept usage.is_predicate options (Lookup registered) j key lines results) → In right.result due
        → awake choice (clause_of right.first.clause) ≡ true → CoversEach functions (Holds due) (clause_of right.first.clause)
    kept-covered due key lines results right there is =
        let c : TreeClause = clause_of right.first.clause in
        let stays = moves-awake choice usage.is_predicate clauses right.moves c right.reduced.moved is in
        let reached =
        moves-reached usage.is_predicate functions Used used-pass clauses is_usable uses right.moves c right.reduced.moved
        stays.units (told-passes key c (told-inference key c false right.inferred)) in
        let end : TreeClause = end_of_moves c right.moves in
        each-beside functions Used (Holds due) c end (used-covered due)
        (each-held functions (Holds due) end (inr (subst (λ (d : TreeClause). In d due) (sym right.reduced.ends) there), stays.end)) reached.covers

    dropped-covered :
        (due : List TreeClause) (key : Key) (redundancy : Redundancy)
        → (right : IsRightlyDropped usage.is_predicate options (Lookup registered) j key redundancy)
        → awake choice right.conclusion ≡ true → CoversEach functions (Holds due) right.conclusion
    dropped-covered due key redundancy right is =
        let c : TreeClause = right.conclusion in
        let stays = moves-awake choice usage.is_predicate clauses right.moves c right.moved is in
        let reached =
        moves-reached usage.is_predicate functions Used used-pass clauses is_usable uses right.moves c right.moved
        stays.units (told-passes key c (told-inference key c false right.inferred)) in
        each-across functions Used (Holds due) c (used-covered due)
        (away-covered usage.is_predicate functions Used used-pass c (end_of_moves c right.moves) reached
        (redundant-covered (end_of_moves c right.moves) redundancy reached.symbols right.redundant stays.end))

    -- ---- entries

    abbrev RightEntry : Entry → Type 0
    RightEntry e = IsRightFate usage.is_predicate options (Lookup registered) j e.key e.fate

    pub entries-settled :
        (entries : List Entry) (aside : List Key) (due : List TreeClause)
        → AllByRecursion RightEntry entries
        → ((key : Key) → In key (keys_of (heavy_entries entries)) → In key aside)
        → ((d : TreeClause) → In d (results_due (lines_of_entries entries)) → In d due)
        → (key : Key) → In key (keys_of entries) → IsSettled choice functions the_mode inputs registered aside (Holds due) key
    entries-settled [] aside due right heavy results key there = absurd there
    entries-settled (e ∷ es) aside due right heavy results key there =
        by e.fate right.0 heavy results (entries-settled es aside due right.1) key there
      where
        Settled : Key → Type 0
        Settled k = IsSettled choice functions the_mode inputs registered aside (Holds due) k

        Later : Type 0
        Later =
            ((k : Key) → In k (keys_of (heavy_entries es)) → In k aside)
            → ((d : TreeClause) → In d (results_due (lines_of_entries es)) → In d due)
            → (k : Key) → In k (keys_of es) → Settled k

        by :
            (fate : Fate) → IsRightFate usage.is_predicate options (Lookup registered) j e.key fate
            → ((k : Key) → In k (keys_of (cond (is_heavy fate) (e ∷ heavy_entries es) (heavy_entries es))) → In k aside)
            → ((d : TreeClause) → In d (results_due (cons_option (lines_of_fate fate) (lines_of_entries es))) → In d due)
            → Later → (k : Key) → In k (e.key ∷ keys_of es) → Settled k
        by (Kept lines results) right heavy results_in later k there =
            let c : TreeClause = clause_of right.first.clause in
            let result_in : In right.result due =
            results_in right.result
            (subst (λ o. In right.result (cons_option o (results_due (lines_of_entries es)))) (sym right.reduced.led) (inl refl)) in
            let settled : Settled e.key =
            inr (inr (c, told-inference e.key c false right.inferred, kept-covered due e.key lines (map clause_of results) right result_in)) in
            ⊎_elim
            (λ (same : k ≡ e.key). subst Settled (sym same) settled)
            (λ (rest : In k (keys_of es)).
            later heavy (λ d d_in. results_in d (In-option d (result_of lines) (results_due (lines_of_entries es)) d_in)) k rest)
            there
        by (Dropped redundancy) right heavy results_in later k there =
            let settled : Settled e.key =
            inr (inr (right.conclusion, told-inference e.key right.conclusion false right.inferred, dropped-covered due e.key redundancy right)) in
            ⊎_elim
            (λ (same : k ≡ e.key). subst Settled (sym same) settled) (λ (rest : In k (keys_of es)). later heavy results_in k rest) there
        by Heavy right heavy results_in later k there =
            ⊎_elim
            (λ (same : k ≡ e.key). subst Settled (sym same) (inl (heavy e.key (inl refl))))
            (λ (rest : In k (keys_of es)). later (λ i i_in. heavy i (inr i_in)) results_in k rest) there

  -- the lines of entries assert no other parts
  pub entries-below :
      (entries : List Entry) → AllByRecursion (λ (e : Entry). IsRightFate usage.is_predicate options (Lookup registered) j e.key e.fate) entries
      → AllByRecursion (LeadsBelow count) (lines_of_entries entries)
  entries-below [] right = tt
  entries-below (e ∷ es) right = by e.fate right.0 (entries-below es right.1)
    where
      by :
          (fate : Fate) → IsRightFate usage.is_predicate options (Lookup registered) j e.key fate
          → AllByRecursion (LeadsBelow count) (lines_of_entries es)
          → AllByRecursion (LeadsBelow count) (cons_option (lines_of_fate fate) (lines_of_entries es))
      by (Kept lines results) right rest =
          (lines-below usage functions inputs choice options count registered symbols formed j lines right.are_lines, rest)
      by (Dropped redundancy) right rest = rest
      by Heavy right rest = rest
