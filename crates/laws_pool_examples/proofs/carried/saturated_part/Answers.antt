use Rattle.laws_pool_examples.proofs.WorkedExamples.CarriedExamples.{part_saturated}
use Rattle.laws_pool_examples.proofs.carried.saturated_part.Goals as goal

pub returns : goal.returns
returns c = part_saturated c.saturated_is_saturated.ensures
