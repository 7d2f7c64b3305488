use Rattle.kernel_steps.proofs.WorkedExamples.ChangedExamples.{general_refuted, unrelated_not_refuted}
use Rattle.kernel_steps.proofs.laws.soundness.herbrand_examples.Goals as goal

pub returns-clause-by_instances : goal.returns-clause-by_instances
returns-clause-by_instances c = general_refuted

pub returns-clause-true_somewhere : goal.returns-clause-true_somewhere
returns-clause-true_somewhere c = unrelated_not_refuted
