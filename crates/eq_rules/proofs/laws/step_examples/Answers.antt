use Rattle.eq_rules.proofs.WorkedExamples.ExampleLemmas.{concluded, no_predicates_bound}
use Rattle.eq_rules.proofs.laws.step_examples.Goals as goal

pub returns-clause-concluded : goal.returns-clause-concluded
returns-clause-concluded c = concluded

pub returns-clause-no_predicates_bound : goal.returns-clause-no_predicates_bound
returns-clause-no_predicates_bound c = no_predicates_bound
