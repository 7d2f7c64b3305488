use Rattle.kernel_steps.proofs.WorkedExamples.SuperpositionExamples.{superposition, names_of_both}
use Rattle.kernel_steps.proofs.laws.inference.superposition_examples.Goals as goal

pub returns-clause-superposition : goal.returns-clause-superposition
returns-clause-superposition c = superposition

pub returns-clause-names_of_both : goal.returns-clause-names_of_both
returns-clause-names_of_both c = names_of_both
