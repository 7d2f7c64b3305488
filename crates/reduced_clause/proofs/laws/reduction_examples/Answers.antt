use Rattle.reduced_clause.proofs.Examples.{rewritten, later_parent}
use Rattle.reduced_clause.proofs.laws.reduction_examples.Goals as goal

pub returns-clause-rewritten : goal.returns-clause-rewritten
returns-clause-rewritten c = rewritten

pub returns-clause-later_parent : goal.returns-clause-later_parent
returns-clause-later_parent c = later_parent
