use Rattle.kernel_steps.proofs.WorkedExamples.NameExamples.{reduced}
use Rattle.kernel_steps.proofs.laws.examples.number_examples.Goals as goal

pub returns-clause-reduced : goal.returns-clause-reduced
returns-clause-reduced c = reduced
