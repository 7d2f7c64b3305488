use Rattle.clause_queue.proofs.Rows as rows
use Rattle.clause_queue.proofs.laws.pick_examples.Goals as goal

pub returns-clause-lightest : goal.returns-clause-lightest
returns-clause-lightest c = rows.lightest

pub returns-clause-higher_number : goal.returns-clause-higher_number
returns-clause-higher_number c = rows.higher_number

pub returns-clause-oldest : goal.returns-clause-oldest
returns-clause-oldest c = rows.oldest

pub returns-clause-younger : goal.returns-clause-younger
returns-clause-younger c = rows.younger
