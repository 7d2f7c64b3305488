-- The laws, over whole histories.
use Rattle.std.proofs.Common.{◌≡◌, ℕ, Bool, true, List, [], refl, subst, ◌⊎◌, ⊎_elim}
use Rattle.std.specs.Prelude.{None, All, Contains}
use Rattle.std.specs.List.{list_all}
use Rattle.std.proofs.lemmas.List.Elements.{recursion_from_All, All-contains}
use Rattle.fol_base.specs.Clause.{TreeClause}
use Rattle.fol_base.specs.Symbols.{FunctionSymbols}
use Rattle.fol_base.specs.Selection.{SelectionMode}
use Rattle.fol_base.specs.WellFormed.{SymbolUse}
use Rattle.kbo_order.proofs.AboutMultisets.MemberLemmas.{In, In-contains, contains-In, In-all}
use Rattle.kernel_steps.specs.Named.{IsInference}
use Rattle.kernel_steps.specs.Symbols.{clause_symbols_pass}
use Rattle.kernel_steps.specs.declared.key.Key.{Key}
use Rattle.kernel_steps.specs.declared.key.Key.TheVariants.{Replaced}
use Rattle.literal_selection.specs.Mode.{mode_of}
use Rattle.sat_core.specs.Clause.{Valuation, clauses_true, valuation_of}
use Rattle.laws_calculus.specs.Symbols.{is_allowed, HasSymbolsOf}
use Rattle.laws_calculus.specs.Variants.{ConclusionsAreVariants}
use Rattle.pool_history.specs.Record.{PoolRecord, clauses_of, propositional_clauses}
use Rattle.pool_history.specs.Inputs.{AreInputs, IsUseOf}
use Rattle.pool_history.specs.Lawful.{IsLawful}
use Rattle.pool_history.specs.Replay.{Origin, start, replay}
use Rattle.pool_history.specs.declared.event.Event.{Event}
use Rattle.pool_history.specs.declared.outcome.Outcome.TheVariants.{Saturated}
use Rattle.pool_history.proofs.AboutLines.BeginningLemmas.{replay-sound}
use Rattle.pool_history.proofs.AboutClaims.ModelLemmas.{resting_models}
use Rattle.pool_history.proofs.AboutCounting.CountedRecords.{Lookup}
use Rattle.pool_history.proofs.AboutRecords.PlaceLemmas.{start-placed}
use Rattle.laws_calculus.specs.Coverage.{CoversEach}
use Rattle.laws_saturation.specs.Carried.{IsHeld, has_awake_premises}
use Rattle.laws_saturation.specs.Found.{finds_of}
use Rattle.laws_saturation.specs.Laws.{CarriedThrough, SaturatedHasModel, SaturatedIsSaturated, MembersHaveMet}
use Rattle.laws_calculus.proofs.AboutCovering.ClauseLemmas.{All-In}
use Rattle.laws_calculus.proofs.AboutCovering.EachLemmas.{each-more}
use Rattle.laws_saturation.proofs.AboutClosing.RenamingLemmas.{variant-covers}
use Rattle.laws_saturation.proofs.AboutCarried.CarriedLemmas.{Living, HeldBy, Open, CoversAwake}
use Rattle.laws_saturation.proofs.AboutCarried.ArrivalLemmas.{OpenWith}
use Rattle.laws_saturation.proofs.AboutCarried.AwakeLemmas.{NameChoice, inference-awake}
use Rattle.laws_saturation.proofs.AboutCarried.FixedLemmas.{fixed_are_refuted_or_spent}
use Rattle.laws_saturation.proofs.AboutCarried.HistoryLemmas.{Reaches, history-reaches, started-state, history-covered, started-covered}
use Rattle.laws_saturation.proofs.AboutClosing.OutcomeLemmas.{saturated-not-fixed, outcome-done, members-counted, members-saturated}

all-pass :
    {is_predicate : ℕ → Bool} (functions : FunctionSymbols is_predicate) (inputs : List TreeClause)
    → All (HasSymbolsOf functions) inputs → list_all (clause_symbols_pass (is_allowed functions)) inputs ≡ true
all-pass functions inputs all =
    In-all (clause_symbols_pass (is_allowed functions)) inputs
    (λ c there. All-contains (HasSymbolsOf functions) inputs c all (In-contains c inputs there))

module _
    (usage : SymbolUse) (origin : Origin) (history : List Event) (inputs : AreInputs origin.inputs) (used : IsUseOf origin.inputs usage)
    (lawful : IsLawful usage.is_predicate origin history) where
  abbrev the_mode : SelectionMode
  the_mode = mode_of origin.options.select

  abbrev r : PoolRecord
  r = replay origin history

  start-reaches : Reaches usage origin.inputs origin.options [] (start origin)
  start-reaches = record {
    sound = replay-sound usage origin [] inputs used tt;
    placed = start-placed origin;
    stated = λ is_open. started-state usage origin.inputs origin.options;
  }

  replay-reaches : Reaches usage origin.inputs origin.options (finds_of origin history) r
  replay-reaches = history-reaches usage origin.inputs origin.options [] history (start origin) lawful start-reaches

  module _ (choice : NameChoice) (functions : FunctionSymbols usage.is_predicate) (symbols : All (HasSymbolsOf functions) origin.inputs) where
    replay-covered : OpenWith choice functions the_mode origin.inputs [] r
    replay-covered =
        history-covered usage origin.inputs origin.options choice functions (all-pass functions origin.inputs symbols) [] history (start origin) lawful
        start-reaches
        (started-covered usage origin.inputs origin.options choice functions (all-pass functions origin.inputs symbols)
        (recursion_from_All (λ (c : TreeClause). c.names ≡ []) origin.inputs inputs.no_names))

  -- ---- what is held, under truth values that make the propositional clauses true

  module _
      (functions : FunctionSymbols usage.is_predicate) (symbols : All (HasSymbolsOf functions) origin.inputs) (truth : Valuation) (is_open : r.ended ≡ None)
      (model : clauses_true truth (propositional_clauses r) ≡ true) where
    abbrev chosen : NameChoice
    chosen = record { truth = truth; parts = r.parts }

    carried : Open chosen functions the_mode origin.inputs r []
    carried = replay-covered chosen functions symbols is_open (record { agrees = λ tag within. refl; model = model })

    held : (c : TreeClause) → HeldBy chosen r.registered r.deaths [] c → IsHeld truth r c
    held c by =
        ⊎_elim
        (λ (living : Living r.registered r.deaths c). (living.number, living.lives, living.there, by.1))
        (λ (none : In c []). absurd none)
        by.0

    by-held : (c : TreeClause) → CoversEach functions (HeldBy chosen r.registered r.deaths []) c → CoversEach functions (IsHeld truth r) c
    by-held c covers = each-more functions (HeldBy chosen r.registered r.deaths []) (IsHeld truth r) c held covers

    key-covered :
        ConclusionsAreVariants → (key : Key) (c : TreeClause) → Contains r.counted key → (Contains r.set_aside key → ⊥)
        → has_awake_premises truth r key ≡ true → IsInference usage.is_predicate the_mode (clauses_of r) key c → CoversEach functions (IsHeld truth r) c
    key-covered variants key c counted not_aside awake inferred =
        ⊎_elim
        (λ (aside : In key r.set_aside). absurd (not_aside (In-contains key r.set_aside aside)))
        (λ (rest : ((n : ℕ) × (key ≡ Replaced n)) ⊎ ((e : TreeClause) × IsInference usage.is_predicate the_mode (Lookup r.registered) key e × CoversAwake chosen functions the_mode origin.inputs (HeldBy chosen r.registered r.deaths []) e)).
        ⊎_elim
        (λ (replaced : (n : ℕ) × (key ≡ Replaced n)). absurd (subst (λ k. IsInference usage.is_predicate the_mode (clauses_of r) k c) replaced.1 inferred))
        (λ (concluded : (e : TreeClause) × IsInference usage.is_predicate the_mode (Lookup r.registered) key e × CoversAwake chosen functions the_mode origin.inputs (HeldBy chosen r.registered r.deaths []) e).
        by-held c
        (variant-covers functions (HeldBy chosen r.registered r.deaths []) concluded.0 c
        (variants usage.is_predicate the_mode (clauses_of r) key concluded.0 c concluded.1 inferred)
        (concluded.2 (inference-awake chosen usage.is_predicate the_mode (clauses_of r) key concluded.0 concluded.1 awake))))
        rest)
        (carried.keys_settled key (contains-In key r.counted counted))

pub carried_through : ConclusionsAreVariants → CarriedThrough
carried_through variants usage functions origin history truth inputs used symbols lawful is_open model =
    let whole = carried usage origin history inputs used lawful functions symbols truth is_open model in
    let covers = by-held usage origin history inputs used lawful functions symbols truth is_open model in
    record {
      inputs_covered =
          All-In (CoversEach functions (IsHeld truth (replay origin history))) origin.inputs (λ c there. covers c (whole.inputs_covered c there));
      registered_covered = λ n c there awake. covers c (whole.clauses_covered n c there awake);
      counted_covered = λ key c counted not_aside awake inferred.
          key-covered usage origin history inputs used lawful functions symbols truth is_open model variants key c counted not_aside awake inferred;
    }

pub saturated_is_saturated : SaturatedIsSaturated
saturated_is_saturated usage functions origin history inputs used symbols lawful saturated =
    let r : PoolRecord = replay origin history in
    members-saturated usage origin.inputs origin.options (finds_of origin history) r (replay-reaches usage origin history inputs used lawful)
    (fixed_are_refuted_or_spent origin history) saturated functions (resting_models usage.is_predicate origin history lawful)
    (replay-covered usage origin history inputs used lawful (record { truth = valuation_of r.model; parts = r.parts }) functions symbols)

pub saturated_has_model : SaturatedHasModel
saturated_has_model is_predicate origin history lawful saturated =
    let r : PoolRecord = replay origin history in
    resting_models is_predicate origin history lawful
    (outcome-done r Saturated (fixed_are_refuted_or_spent origin history) saturated-not-fixed saturated).rests

pub members_have_met : MembersHaveMet
members_have_met usage origin history key c inputs used lawful saturated inferred =
    members-counted usage origin.inputs origin.options (finds_of origin history) (replay origin history) (replay-reaches usage origin history inputs used lawful)
    (fixed_are_refuted_or_spent origin history) saturated key c inferred
