use Rattle.std.proofs.Common.{refl}
use Rattle.typed_problem.proofs.laws.typed_truth_examples.Goals as goal

pub returns : goal.returns
returns c = record { all = (refl, refl); one = (refl, refl); none = (refl, refl) }
