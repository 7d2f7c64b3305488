use Rattle.laws_calculus.proofs.WorkedExamples.ExampleLemmas.{entailed, not_covered, instances_not_covered}
use Rattle.laws_calculus.proofs.laws.examples.rewriting_at_a_root.Goals as goal

pub returns-clause-entailed : goal.returns-clause-entailed
returns-clause-entailed c = entailed

pub returns-clause-not_covered : goal.returns-clause-not_covered
returns-clause-not_covered c = not_covered

pub returns-clause-instances_not_covered : goal.returns-clause-instances_not_covered
returns-clause-instances_not_covered c = instances_not_covered
