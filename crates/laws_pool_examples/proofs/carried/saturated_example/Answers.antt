use Rattle.std.proofs.Common.{refl}
use Rattle.laws_pool_examples.proofs.WorkedExamples.CarriedExamples.{tautology_goes, nothing_saturated}
use Rattle.laws_pool_examples.proofs.carried.saturated_example.Goals as goal

pub returns : goal.returns
returns c = record { lawful = tautology_goes; outcome = refl; members = refl; saturated = nothing_saturated c.saturated_is_saturated.ensures }
