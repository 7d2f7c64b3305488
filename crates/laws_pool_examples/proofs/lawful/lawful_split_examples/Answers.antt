use Rattle.laws_pool_examples.proofs.WorkedExamples.DenyingExample.{denied_part}
use Rattle.laws_pool_examples.proofs.WorkedExamples.LawfulExamples.{solver_given_up}
use Rattle.laws_pool_examples.proofs.WorkedExamples.PartingExample.{falls_apart}
use Rattle.laws_pool_examples.proofs.lawful.lawful_split_examples.Goals as goal

pub returns-clause-falls_apart : goal.returns-clause-falls_apart
returns-clause-falls_apart c = falls_apart

pub returns-clause-denied_part : goal.returns-clause-denied_part
returns-clause-denied_part c = denied_part

pub returns-clause-solver_given_up : goal.returns-clause-solver_given_up
returns-clause-solver_given_up c = solver_given_up
