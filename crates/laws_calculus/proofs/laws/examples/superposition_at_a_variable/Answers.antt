use Rattle.laws_calculus.proofs.WorkedExamples.ExampleLemmas.{none_named}
use Rattle.laws_calculus.proofs.laws.examples.superposition_at_a_variable.Goals as goal

pub returns-clause-none_named : goal.returns-clause-none_named
returns-clause-none_named c = none_named
