use Rattle.pool_history.proofs.AboutClaims.SolverLemmas.{solver_jobs_stay_out}
use Rattle.pool_history.proofs.AboutClaims.StayingLemmas.{given_jobs_stay_out}
use Rattle.pool_history.proofs.laws.histories.jobs_stay_out.Goals as goal

pub returns-clause-given : goal.returns-clause-given
returns-clause-given c = given_jobs_stay_out

pub returns-clause-solver : goal.returns-clause-solver
returns-clause-solver c = solver_jobs_stay_out
