use Rattle.pool_history.proofs.AboutClaims.EndedLemmas.{ended_jobs_are_gone}
use Rattle.pool_history.proofs.laws.histories.ended_jobs_are_gone.Goals as goal

pub returns : goal.returns
returns c = ended_jobs_are_gone
