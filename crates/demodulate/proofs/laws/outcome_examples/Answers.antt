use Rattle.demodulate.proofs.Examples.{stays, left_out, subsumed, not_subsumed, tautology, still_rewritten}
use Rattle.demodulate.proofs.laws.outcome_examples.Goals as goal

pub returns-clause-stays : goal.returns-clause-stays
returns-clause-stays c = stays

pub returns-clause-left_out : goal.returns-clause-left_out
returns-clause-left_out c = left_out

pub returns-clause-subsumed : goal.returns-clause-subsumed
returns-clause-subsumed c = subsumed

pub returns-clause-not_subsumed : goal.returns-clause-not_subsumed
returns-clause-not_subsumed c = not_subsumed

pub returns-clause-tautology : goal.returns-clause-tautology
returns-clause-tautology c = tautology

pub returns-clause-rewritten : goal.returns-clause-rewritten
returns-clause-rewritten c = still_rewritten
