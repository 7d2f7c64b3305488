use Rattle.laws_pool_examples.proofs.WorkedExamples.SaturatedExamples.{denial_saturated, empty_not_saturated}
use Rattle.laws_pool_examples.proofs.saturated.saturated_examples.Goals as goal

pub returns : goal.returns
returns c = record { unit = denial_saturated; empty = empty_not_saturated }
