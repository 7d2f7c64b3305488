use Rattle.pool_writer.proofs.AboutRetracing.CarryLemmas.{tests-carry_over}
use Rattle.pool_writer.proofs.laws.retracing.tests_carry_over.Goals as goal

pub returns : goal.returns
returns c = tests-carry_over
