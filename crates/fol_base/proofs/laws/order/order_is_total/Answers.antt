use Rattle.fol_base.proofs.AboutOrders.TreeOrderLemmas.{trees_totally_ordered}
use Rattle.fol_base.proofs.AboutOrders.ClauseOrderLemmas.{literals_totally_ordered, clauses_totally_ordered, not_greater_is_transitive}
use Rattle.fol_base.proofs.laws.order.order_is_total.Goals as goal

pub returns-clause-trees : goal.returns-clause-trees
returns-clause-trees c = trees_totally_ordered

pub returns-clause-literals : goal.returns-clause-literals
returns-clause-literals c = literals_totally_ordered

pub returns-clause-clauses : goal.returns-clause-clauses
returns-clause-clauses c = clauses_totally_ordered

pub returns-clause-not_greater : goal.returns-clause-not_greater
returns-clause-not_greater c = not_greater_is_transitive
