use Rattle.fol_base.proofs.AboutOrders.OrderLemmas.{trees_equivalence, literals_equivalence, clauses_equivalence, clauses_counted}
use Rattle.fol_base.proofs.laws.order.order_equivalences.Goals as goal

pub returns-clause-trees : goal.returns-clause-trees
returns-clause-trees c = trees_equivalence

pub returns-clause-literals : goal.returns-clause-literals
returns-clause-literals c = literals_equivalence

pub returns-clause-clauses : goal.returns-clause-clauses
returns-clause-clauses c = clauses_equivalence

pub returns-clause-counted : goal.returns-clause-counted
returns-clause-counted c = clauses_counted
