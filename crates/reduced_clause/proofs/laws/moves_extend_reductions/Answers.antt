use Rattle.reduced_clause.proofs.ExtendingLemmas.{moves_extend, steps_go_on}
use Rattle.reduced_clause.proofs.laws.moves_extend_reductions.Goals as goal

pub returns-clause-moves : goal.returns-clause-moves
returns-clause-moves c = moves_extend

pub returns-clause-goes_on : goal.returns-clause-goes_on
returns-clause-goes_on c = steps_go_on
