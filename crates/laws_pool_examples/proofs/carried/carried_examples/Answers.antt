use Rattle.laws_pool_examples.proofs.WorkedExamples.CarriedExamples.{begun, not_begun, none_awake}
use Rattle.laws_pool_examples.proofs.carried.carried_examples.Goals as goal

pub returns : goal.returns
returns c = record { begun = begun; none = not_begun; neither = none_awake }
