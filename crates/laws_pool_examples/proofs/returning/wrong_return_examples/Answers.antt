use Rattle.laws_pool_examples.proofs.WorkedExamples.PartingExample.{whole_entry}
use Rattle.laws_pool_examples.proofs.WorkedExamples.ReturnExamples.{stays_uncut, left_there, gone_reducible, kept_reducible, small_heavy, no_tautology, subsumed_by_untold, justifies_itself, superfluous_justifier, other_result, whole_result, others_met, removes_itself, subsumed_by_itself}
use Rattle.laws_pool_examples.proofs.returning.wrong_return_examples.Goals as goal

pub returns-clause-stays_uncut : goal.returns-clause-stays_uncut
returns-clause-stays_uncut c = stays_uncut

pub returns-clause-left_there : goal.returns-clause-left_there
returns-clause-left_there c = left_there

pub returns-clause-gone_reducible : goal.returns-clause-gone_reducible
returns-clause-gone_reducible c = gone_reducible

pub returns-clause-kept_reducible : goal.returns-clause-kept_reducible
returns-clause-kept_reducible c = kept_reducible

pub returns-clause-small_heavy : goal.returns-clause-small_heavy
returns-clause-small_heavy c = small_heavy

pub returns-clause-no_tautology : goal.returns-clause-no_tautology
returns-clause-no_tautology c = no_tautology

pub returns-clause-subsumed_by_untold : goal.returns-clause-subsumed_by_untold
returns-clause-subsumed_by_untold c = subsumed_by_untold

pub returns-clause-justifies_itself : goal.returns-clause-justifies_itself
returns-clause-justifies_itself c = justifies_itself

pub returns-clause-superfluous_justifier : goal.returns-clause-superfluous_justifier
returns-clause-superfluous_justifier c = superfluous_justifier

pub returns-clause-other_result : goal.returns-clause-other_result
returns-clause-other_result c = other_result

pub returns-clause-whole_result : goal.returns-clause-whole_result
returns-clause-whole_result c = whole_result

pub returns-clause-whole_entry : goal.returns-clause-whole_entry
returns-clause-whole_entry c = whole_entry

pub returns-clause-others_met : goal.returns-clause-others_met
returns-clause-others_met c = others_met

pub returns-clause-removes_itself : goal.returns-clause-removes_itself
returns-clause-removes_itself c = removes_itself

pub returns-clause-subsumed_by_itself : goal.returns-clause-subsumed_by_itself
returns-clause-subsumed_by_itself c = subsumed_by_itself
