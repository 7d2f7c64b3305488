-- The beginnings that a pool may have.
use Rattle.std.specs.Prelude.{◌≡◌, ◌+◌, ◌≤◌, List, [], length, sum_by, All, IsTrue}
use Rattle.std.specs.List.{list_all}
use Rattle.plain_types.specs.declared.limits.TheConstants.{MOST_INFERENCES}
use Rattle.fol_base.specs.Clause.{TreeClause, clause_size}
use Rattle.fol_base.specs.Canonical.{IsCanonical}
use Rattle.fol_base.specs.WellFormed.{SymbolUse, WellFormed, are_literals_of}
use Rattle.fol_base.specs.declared.limits.TheConstants.{MOST_SYMBOLS, MOST_FORM_SYMBOLS}
use Rattle.pool_history.specs.Record.{clauses_of}
use Rattle.pool_history.specs.Lawful.{IsLawful, IsGivenOut}
use Rattle.pool_history.specs.Batches.{IsRightWork}
use Rattle.pool_history.specs.Replay.{Origin, replay}
use Rattle.pool_history.specs.declared.batch.Batch.{Batch}
use Rattle.pool_history.specs.declared.event.Event.{Event}
use Rattle.pool_history.specs.declared.options.Options.{Options}

-- clauses that are canonical, without names, within the limits and well-formed together
pub record AreInputs (inputs : List TreeClause) : Type 0 where
  pub canonical : All IsCanonical inputs
  pub no_names : All (λ (c : TreeClause). c.names ≡ []) inputs
  pub small : All (λ (c : TreeClause). clause_size c ≤ MOST_SYMBOLS) inputs
  pub few : sum_by clause_size inputs + length inputs ≤ MOST_FORM_SYMBOLS
  pub well_formed : WellFormed inputs

abbrev pub IsLimit : Options → Type 0
IsLimit options = (1 ≤ options.inferences) × (options.inferences ≤ MOST_INFERENCES)

-- the inputs use their symbols as told
abbrev pub IsUseOf : List TreeClause → SymbolUse → Type 0
IsUseOf inputs usage = IsTrue (list_all (λ (c : TreeClause). are_literals_of usage c.literals) inputs)

-- the batch is right for its job, which is out, under each use of symbols that is that of the inputs
abbrev pub IsRightBatch : Origin → List Event → Batch → Type 0
IsRightBatch origin history batch =
    let r = replay origin history in
    IsGivenOut r batch.job
    (λ j. (usage : SymbolUse) → IsUseOf origin.inputs usage → IsRightWork usage.is_predicate origin.options (clauses_of r) j batch.work)

-- the history is lawful under each use of symbols that is that of the inputs
abbrev pub IsHistoryOf : Origin → List Event → Type 0
IsHistoryOf origin history = (usage : SymbolUse) → IsUseOf origin.inputs usage → IsLawful usage.is_predicate origin history
