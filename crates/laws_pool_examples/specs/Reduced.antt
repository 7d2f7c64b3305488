-- What lawful histories keep of inferences.
use Rattle.std.specs.Prelude.{◌≡◌, ℕ, Bool, List, ◌∷◌, ◌++◌, map, Contains, Some}
use Rattle.fol_base.specs.Clause.{TreeClause}
use Rattle.fol_base.specs.Literal.{clause_of}
use Rattle.fol_base.specs.declared.clause.Clause.{Clause}
use Rattle.kernel_steps.specs.declared.key.Key.{Key}
use Rattle.kernel_steps.specs.declared.step.Line.{Line}
use Rattle.pool_history.specs.Record.{PoolRecord, GivenJob, clauses_of, given_job}
use Rattle.pool_history.specs.Reduction.{handed_back}
use Rattle.pool_history.specs.Batches.{IsReduced}
use Rattle.pool_history.specs.Replay.{Origin, replay}
use Rattle.pool_history.specs.Lawful.{IsLawful}
use Rattle.pool_history.specs.declared.options.Options.{Options}
use Rattle.pool_history.specs.declared.batch.Entry.{Entry}
use Rattle.pool_history.specs.declared.batch.Fate.TheVariants.{Kept}
use Rattle.pool_history.specs.declared.batch.Removal.{Removal}
use Rattle.pool_history.specs.declared.batch.Work.TheVariants.{Met}
use Rattle.pool_history.specs.declared.event.Event.{Event}
use Rattle.pool_history.specs.declared.event.Event.TheVariants.{Return}

-- the results are those of a clause that is irreducible by the clauses that the job was told, in its parts where it is to be split
pub record IsKeptReduced (is_predicate : ℕ → Bool) (options : Options) (r : PoolRecord) (j : GivenJob) (results : List TreeClause) : Type 0 where
  pub result : TreeClause
  pub reduced : IsReduced is_predicate options (clauses_of r) j result
  pub given : results ≡ handed_back options.split result

-- Each entry that is kept, of each batch that is taken, is reduced so.
abbrev pub KeptAreReduced : Type 0
KeptAreReduced =
    (is_predicate : ℕ → Bool) (origin : Origin) (history later : List Event) (job : ℕ) (entries : List Entry) (removals : List Removal)
    (j : GivenJob) (key : Key) (lines : List Line) (results : List Clause)
    → IsLawful is_predicate origin (history ++ Return (record { job = job; work = Met entries removals }) ∷ later)
    → given_job (replay origin history) job ≡ Some j → Contains entries (record { key = key; fate = Kept lines results })
    → IsKeptReduced is_predicate origin.options (replay origin history) j (map clause_of results)
