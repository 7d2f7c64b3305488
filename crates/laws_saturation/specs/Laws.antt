-- Laws of the saturation of a pool, for every list of events, whether clauses are split or not.
use Rattle.std.specs.Prelude.{◌≡◌, ◌⊎◌, ℕ, Bool, true, ◌&&◌, List, Option, None, Some, slice_get, take, All, IsTrue, IsFalse}
use Rattle.fol_base.specs.Clause.{TreeClause}
use Rattle.fol_base.specs.Symbols.{FunctionSymbols}
use Rattle.fol_base.specs.Selection.{SelectionMode}
use Rattle.fol_base.specs.WellFormed.{SymbolUse}
use Rattle.kernel_steps.specs.Named.{IsInference}
use Rattle.kernel_steps.specs.Sized.{IsSizedInference}
use Rattle.kernel_steps.specs.Symbols.{clause_symbols_pass}
use Rattle.kernel_steps.specs.declared.key.Key.{Key}
use Rattle.literal_selection.specs.Mode.{mode_of}
use Rattle.sat_core.specs.Clause.{Valuation, valuation_of, clauses_true}
use Rattle.laws_calculus.specs.Symbols.{HasSymbolsOf}
use Rattle.laws_calculus.specs.Lifting.{among}
use Rattle.pool_history.specs.Record.{PoolRecord, clauses_of, lives, is_awake, propositional_clauses}
use Rattle.pool_history.specs.Inputs.{AreInputs, IsUseOf}
use Rattle.pool_history.specs.Lawful.{IsLawful}
use Rattle.pool_history.specs.Outcomes.{is_of_living, outcome_of}
use Rattle.pool_history.specs.Replay.{Origin, replay}
use Rattle.pool_history.specs.Saturated.{IsSaturated, members_of}
use Rattle.pool_history.specs.declared.event.Event.{Event}
use Rattle.pool_history.specs.declared.outcome.Outcome.TheVariants.{Refuted, Saturated, Spent, Heavy}
use Rattle.laws_saturation.specs.Carried.{IsCarried}
use Rattle.laws_saturation.specs.Found.{finds_of, WasMet}

-- ---- inferences

-- The conclusion of an inference has no symbols but those of its premises: a test that these pass, the conclusion passes.
abbrev pub InferencesKeepSymbols : Type 0
InferencesKeepSymbols =
    (is_predicate : ℕ → Bool) (mode : SelectionMode) (test : ℕ → ℕ → Bool) (clauses : ℕ → Option TreeClause) (key : Key) (c : TreeClause)
    → ((n : ℕ) (p : TreeClause) → clauses n ≡ Some p → IsTrue (clause_symbols_pass test p))
    → IsInference is_predicate mode clauses key c → IsTrue (clause_symbols_pass test c)

-- ---- what is carried

-- While the pool is neither refuted nor spent, the living awake clauses cover the inputs, the awake registered clauses, and the conclusions of
-- counted inferences: under any truth values of the names that make the propositional clauses true, and over each list of function symbols that
-- holds the inputs'.
abbrev pub CarriedThrough : Type 0
CarriedThrough =
    (usage : SymbolUse) (functions : FunctionSymbols usage.is_predicate) (origin : Origin) (history : List Event) (truth : Valuation)
    → AreInputs origin.inputs → IsUseOf origin.inputs usage
    → All (HasSymbolsOf functions) origin.inputs → IsLawful usage.is_predicate origin history
    → let r = replay origin history in
    r.ended ≡ None → IsTrue (clauses_true truth (propositional_clauses r))
    → IsCarried functions (mode_of origin.options.select) origin.inputs truth r

-- ---- outcomes

-- No event fixes another outcome than Refuted and Spent, for every list of events, lawful or not. So Saturated and Heavy come by rest alone.
abbrev pub FixedAreRefutedOrSpent : Type 0
FixedAreRefutedOrSpent =
    (origin : Origin) (history : List Event)
    → let ended = (replay origin history).ended in
    (ended ≡ None) ⊎ ((ended ≡ Some Refuted) ⊎ ((count : ℕ) × (ended ≡ Some (Spent count))))

-- a member of the pool: it lives and is awake
abbrev pub is_member : PoolRecord → ℕ → Bool
is_member r n = lives r n && is_awake r n

-- The outcome Saturated says that the members, which are awake under the final model, are saturated for the inputs, over each list of function
-- symbols that holds the inputs'.
abbrev pub SaturatedIsSaturated : Type 0
SaturatedIsSaturated =
    (usage : SymbolUse) (functions : FunctionSymbols usage.is_predicate) (origin : Origin) (history : List Event)
    → AreInputs origin.inputs → IsUseOf origin.inputs usage
    → All (HasSymbolsOf functions) origin.inputs → IsLawful usage.is_predicate origin history
    → outcome_of (replay origin history) ≡ Some Saturated
    → IsSaturated functions (mode_of origin.options.select) origin.inputs (members_of (replay origin history))

-- Under that outcome the model makes every propositional clause true.
abbrev pub SaturatedHasModel : Type 0
SaturatedHasModel =
    (is_predicate : ℕ → Bool) (origin : Origin) (history : List Event)
    → IsLawful is_predicate origin history
    → let r = replay origin history in
    outcome_of r ≡ Some Saturated → IsTrue (clauses_true (valuation_of r.model) (propositional_clauses r))

-- Under that outcome each inference that is named among the members was met: it was counted and not set aside, and the job of its last premise
-- found it.
abbrev pub MembersHaveMet : Type 0
MembersHaveMet =
    (usage : SymbolUse) (origin : Origin) (history : List Event) (key : Key) (c : TreeClause)
    → AreInputs origin.inputs → IsUseOf origin.inputs usage
    → IsLawful usage.is_predicate origin history
    → let r = replay origin history in
    outcome_of r ≡ Some Saturated
    → IsInference usage.is_predicate (mode_of origin.options.select) (among (is_member r) (clauses_of r)) key c
    → WasMet r (finds_of origin history) key

-- The outcome Heavy tells the place of an inference that was set aside: it is named among the members, and is too large. Of those before it no
-- one has living awake premises alone.
abbrev pub HeavyIsNamed : Type 0
HeavyIsNamed =
    (is_predicate : ℕ → Bool) (origin : Origin) (history : List Event) (place : ℕ)
    → IsLawful is_predicate origin history
    → let r = replay origin history in
    outcome_of r ≡ Some (Heavy place)
    → (key : Key) × (slice_get r.set_aside place ≡ Some key)
    × ((c : TreeClause) × IsSizedInference is_predicate (mode_of origin.options.select) (among (is_member r) (clauses_of r)) key c true)
    × All (λ k. IsFalse (is_of_living r k)) (take place r.set_aside)
