use Rattle.kbo_order.proofs.AboutLaws.StrictOrderLemmas.{trees_ordered, literals_ordered, clauses_ordered}
use Rattle.kbo_order.proofs.laws.order_is_strict.Goals as goal

pub returns-clause-trees : goal.returns-clause-trees
returns-clause-trees c = trees_ordered

pub returns-clause-literals : goal.returns-clause-literals
returns-clause-literals c = literals_ordered

pub returns-clause-clauses : goal.returns-clause-clauses
returns-clause-clauses c = clauses_ordered
