use Rattle.kbo_order.proofs.AboutMultisets.PartLemmas.{smaller_sides_make_smaller, smaller_literals_make_smaller}
use Rattle.kbo_order.proofs.laws.order_of_changed_clauses.Goals as goal

pub returns-clause-literals : goal.returns-clause-literals
returns-clause-literals c = smaller_sides_make_smaller

pub returns-clause-clauses : goal.returns-clause-clauses
returns-clause-clauses c = smaller_literals_make_smaller
