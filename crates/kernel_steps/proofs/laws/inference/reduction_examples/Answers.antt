use Rattle.kernel_steps.proofs.WorkedExamples.ReductionExamples.{rewritten, rewritten_root, no_greater_term, smaller_other_side, cut}
use Rattle.kernel_steps.proofs.laws.inference.reduction_examples.Goals as goal

pub returns-clause-rewritten : goal.returns-clause-rewritten
returns-clause-rewritten c = rewritten

pub returns-clause-rewritten_root : goal.returns-clause-rewritten_root
returns-clause-rewritten_root c = rewritten_root

pub returns-clause-no_greater_term : goal.returns-clause-no_greater_term
returns-clause-no_greater_term c = no_greater_term

pub returns-clause-smaller_other_side : goal.returns-clause-smaller_other_side
returns-clause-smaller_other_side c = smaller_other_side

pub returns-clause-cut : goal.returns-clause-cut
returns-clause-cut c = cut
