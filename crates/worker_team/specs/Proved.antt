-- A pool that has ended.
use Rattle.std.specs.Prelude.{◌≡◌, List, Some}
use Rattle.fol_base.specs.Clause.{TreeClause}
use Rattle.term_bank.specs.Bank.{identity}
use Rattle.pool_history.specs.Inputs.{IsHistoryOf}
use Rattle.pool_history.specs.Outcomes.{outcome_of}
use Rattle.pool_history.specs.Replay.{replay}
use Rattle.pool_history.specs.declared.options.Options.{Options}
use Rattle.worker_team.specs.declared.proved.Proved.{Proved}

-- The pool began with the inputs and the options, its history is lawful, and the outcome is the one that stands on it.
pub record IsProvedFrom (inputs : List TreeClause) (options : Options) (proved : Proved) : Type 0 where
  pub bank : proved.pool.bank ≡ identity proved.bank
  pub origin : proved.pool.origin ≡ record { inputs = inputs; options = options }
  pub lawful : IsHistoryOf proved.pool.origin proved.pool.history
  pub outcome : outcome_of (replay proved.pool.origin proved.pool.history) ≡ Some proved.outcome
