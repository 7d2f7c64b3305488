use Rattle.kernel_steps.proofs.WorkedExamples.ReductionExamples.{subsumed}
use Rattle.kernel_steps.proofs.laws.inference.irreducible_examples.Goals as goal

pub returns-clause-subsumed : goal.returns-clause-subsumed
returns-clause-subsumed c = subsumed
