use Rattle.pool_history.proofs.AboutRecords.JobNumberLemmas.{jobs_were_given}
use Rattle.pool_history.proofs.laws.histories.jobs_were_given.Goals as goal

pub returns : goal.returns
returns c = jobs_were_given
