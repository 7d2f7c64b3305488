use Rattle.laws_calculus.proofs.WorkedExamples.RefusedExamples.{not_asserted, of_truths}
use Rattle.laws_calculus.proofs.laws.on_ground.refused_cuts.Goals as goal

pub returns-clause-not_asserted : goal.returns-clause-not_asserted
returns-clause-not_asserted c = not_asserted

pub returns-clause-of_truths : goal.returns-clause-of_truths
returns-clause-of_truths c = of_truths
