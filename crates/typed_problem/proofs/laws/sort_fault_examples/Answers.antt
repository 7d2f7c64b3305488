use Rattle.std.proofs.Common.{refl}
use Rattle.typed_problem.proofs.laws.sort_fault_examples.Goals as goal

pub returns : goal.returns
returns c = record { unknown = refl; twice = refl; clash = refl; equation = refl }
