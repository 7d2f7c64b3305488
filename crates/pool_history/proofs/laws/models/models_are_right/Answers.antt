use Rattle.pool_history.proofs.AboutClaims.ModelLemmas.{models_are_right, resting_models}
use Rattle.pool_history.proofs.laws.models.models_are_right.Goals as goal

pub returns-clause-each : goal.returns-clause-each
returns-clause-each c = models_are_right

pub returns-clause-resting : goal.returns-clause-resting
returns-clause-resting c = resting_models
