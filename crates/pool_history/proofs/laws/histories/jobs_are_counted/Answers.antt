use Rattle.pool_history.proofs.AboutRecords.JobNumberLemmas.{jobs_are_counted}
use Rattle.pool_history.proofs.laws.histories.jobs_are_counted.Goals as goal

pub returns : goal.returns
returns c = jobs_are_counted
