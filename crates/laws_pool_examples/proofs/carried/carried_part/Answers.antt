use Rattle.laws_pool_examples.proofs.WorkedExamples.CarriedExamples.{part_carried}
use Rattle.laws_pool_examples.proofs.carried.carried_part.Goals as goal

pub returns : goal.returns
returns c = part_carried c.carried_through.ensures
