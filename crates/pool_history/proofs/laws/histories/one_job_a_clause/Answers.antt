use Rattle.pool_history.proofs.AboutClaims.HandLemmas.{one_job_a_clause}
use Rattle.pool_history.proofs.laws.histories.one_job_a_clause.Goals as goal

pub returns : goal.returns
returns c = one_job_a_clause
