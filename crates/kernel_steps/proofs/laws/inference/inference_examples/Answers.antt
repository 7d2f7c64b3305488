use Rattle.kernel_steps.proofs.WorkedExamples.InferenceExamples.{resolution, first_factored, second_factored}
use Rattle.kernel_steps.proofs.laws.inference.inference_examples.Goals as goal

pub returns-clause-resolution : goal.returns-clause-resolution
returns-clause-resolution c = resolution

pub returns-clause-first_factored : goal.returns-clause-first_factored
returns-clause-first_factored c = first_factored

pub returns-clause-second_factored : goal.returns-clause-second_factored
returns-clause-second_factored c = second_factored
