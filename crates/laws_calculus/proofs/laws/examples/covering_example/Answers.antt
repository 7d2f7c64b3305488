use Rattle.laws_calculus.proofs.WorkedExamples.ExampleLemmas.{subsumed_instances}
use Rattle.laws_calculus.proofs.laws.examples.covering_example.Goals as goal

pub returns : goal.returns
returns c = subsumed_instances
