use Rattle.eq_rules.proofs.WorkedExamples.ExampleLemmas.{resolution, factoring}
use Rattle.eq_rules.proofs.laws.size_examples.Goals as goal

pub returns-clause-resolution : goal.returns-clause-resolution
returns-clause-resolution c = resolution

pub returns-clause-factoring : goal.returns-clause-factoring
returns-clause-factoring c = factoring
