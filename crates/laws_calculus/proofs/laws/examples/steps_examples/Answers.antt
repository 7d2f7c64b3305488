use Rattle.laws_calculus.proofs.WorkedExamples.ClosureExamples.{by_left_side, negative_cut, two_steps}
use Rattle.laws_calculus.proofs.laws.examples.steps_examples.Goals as goal

pub returns-clause-by_left_side : goal.returns-clause-by_left_side
returns-clause-by_left_side c = by_left_side

pub returns-clause-negative_cut : goal.returns-clause-negative_cut
returns-clause-negative_cut c = negative_cut

pub returns-clause-two_steps : goal.returns-clause-two_steps
returns-clause-two_steps c = two_steps
