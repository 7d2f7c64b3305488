-- The last model that a worker gave.
use Rattle.std.specs.Prelude.{◌≡◌, ◌≤◌, List, length, take, IsTrue}
use Rattle.sat_core.specs.Clause.{PropClause, clauses_true, valuation_of}
use Rattle.sat_core.specs.declared.answer.Answer.{Answer}
use Rattle.sat_core.specs.declared.answer.Answer.TheVariants.{Model, Refuted}
use Rattle.worker_team.specs.declared.solving.LastModel.{LastModel}

-- It makes the first of some propositional clauses true, as many as it is of.
pub record IsModelOfFirst (clauses : List PropClause) (last : LastModel) : Type 0 where
  pub within : last.clauses ≤ length clauses
  pub makes_true : IsTrue (clauses_true (valuation_of last.truths) (take last.clauses clauses))

-- After an answer the last model is the one that was given, of all clauses that were asked about. After a refutation it is as before.
abbrev pub IsLastAfter : List PropClause → LastModel → Answer → LastModel → Type 0
IsLastAfter clauses before (Model truths) after = (after.truths ≡ truths) × (after.clauses ≡ length clauses)
IsLastAfter clauses before (Refuted log) after = after ≡ before
