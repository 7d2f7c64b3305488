use Rattle.given_work.proofs.AboutWhole.LawProofs.{told_for_jobs_are_told, work_makes_right_batches}
use Rattle.given_work.proofs.laws.work_makes_right_batches.Goals as goal

pub returns-clause-told : goal.returns-clause-told
returns-clause-told c = told_for_jobs_are_told

pub returns-clause-right : goal.returns-clause-right
returns-clause-right c = work_makes_right_batches
