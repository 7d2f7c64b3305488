use Rattle.std.proofs.Common.{refl}
use Rattle.typed_problem.proofs.laws.typed_problem_examples.Goals as goal

pub returns : goal.returns
returns c = record { sorted = refl; problem = refl; size = refl; translated = refl }
