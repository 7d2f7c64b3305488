use Rattle.pool_history.proofs.AboutLines.LogLemmas.{chains_are_steps, logs_are_steps, logs_end_in_steps}
use Rattle.pool_history.proofs.laws.chains.chains_are_steps.Goals as goal

pub returns-clause-chains : goal.returns-clause-chains
returns-clause-chains c = chains_are_steps

pub returns-clause-logs : goal.returns-clause-logs
returns-clause-logs c = logs_are_steps

pub returns-clause-ends : goal.returns-clause-ends
returns-clause-ends c = logs_end_in_steps
