use Rattle.eq_rules.proofs.WorkedExamples.ExampleLemmas.{not_from_zero}
use Rattle.eq_rules.proofs.laws.number_examples.Goals as goal

pub returns-clause-not_from_zero : goal.returns-clause-not_from_zero
returns-clause-not_from_zero c = not_from_zero
