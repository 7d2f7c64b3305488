use Rattle.reduced_clause.proofs.Examples.{one_move}
use Rattle.reduced_clause.proofs.laws.extending_examples.Goals as goal

pub returns-clause-lines : goal.returns-clause-lines
returns-clause-lines c = one_move
