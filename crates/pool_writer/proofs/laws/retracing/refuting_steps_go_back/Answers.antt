use Rattle.pool_writer.proofs.AboutRetracing.RetraceLemmas.{some-step, refuting-earlier}
use Rattle.pool_writer.proofs.laws.retracing.refuting_steps_go_back.Goals as goal

pub returns : goal.returns
returns c form bodies steps are = (some-step form bodies steps are, refuting-earlier form bodies steps are)
