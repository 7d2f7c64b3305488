use Rattle.fol_base.proofs.AboutOrders.OrderLemmas.{tree_equality_decided, tree_greater_decided, literal_greater_decided, clause_greater_decided}
use Rattle.fol_base.proofs.laws.order.order_tests_decide.Goals as goal

pub returns-clause-equal_trees : goal.returns-clause-equal_trees
returns-clause-equal_trees c = tree_equality_decided

pub returns-clause-trees : goal.returns-clause-trees
returns-clause-trees c = tree_greater_decided

pub returns-clause-literals : goal.returns-clause-literals
returns-clause-literals c = literal_greater_decided

pub returns-clause-clauses : goal.returns-clause-clauses
returns-clause-clauses c = clause_greater_decided
