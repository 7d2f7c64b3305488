-- A pool from its beginning to its end.
use Rattle.std.proofs.Common.{◌≡◌, List, [], ap, ◌∙◌, Some}
use Rattle.fol_base.specs.Clause.{TreeClause}
use Rattle.term_bank.specs.Bank.{identity}
use Rattle.term_bank.specs.declared.bank.Bank.{Bank}
use Rattle.pool_history.specs.View.{PoolView}
use Rattle.pool_history.specs.Inputs.{IsHistoryOf}
use Rattle.pool_history.specs.Outcomes.{outcome_of}
use Rattle.pool_history.specs.Replay.{replay}
use Rattle.pool_history.specs.declared.options.Options.{Options}
use Rattle.pool_history.specs.declared.outcome.Outcome.{Outcome}
use Rattle.worker_team.specs.Proved.{IsProvedFrom}

-- what a pool of the same bank and origin on which an outcome stands comes from
pub ended-from :
    (inputs : List TreeClause) (options : Options) (begun pool : PoolView) (bank : Bank) (outcome : Outcome)
    → begun ≡ record { bank = identity bank; origin = record { inputs = inputs; options = options }; history = [] }
    → (pool.bank ≡ begun.bank) × (pool.origin ≡ begun.origin)
    → IsHistoryOf pool.origin pool.history → outcome_of (replay pool.origin pool.history) ≡ Some outcome
    → IsProvedFrom inputs options (record { outcome = outcome; pool = pool; bank = bank })
ended-from inputs options begun pool bank outcome is same lawful stands = record {
  bank = same.0 ∙ ap (λ (p : PoolView). p.bank) is;
  origin = same.1 ∙ ap (λ (p : PoolView). p.origin) is;
  lawful = lawful;
  outcome = stands;
}
