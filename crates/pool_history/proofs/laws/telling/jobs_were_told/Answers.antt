use Rattle.pool_history.proofs.AboutRecords.NewsLemmas.{jobs_were_told}
use Rattle.pool_history.proofs.laws.telling.jobs_were_told.Goals as goal

pub returns : goal.returns
returns c = jobs_were_told
