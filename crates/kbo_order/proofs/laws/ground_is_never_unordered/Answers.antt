use Rattle.kbo_order.proofs.AboutLaws.GroundLemmas.{ground_trees_compare, ground_literals_compare, ground_clauses_compare}
use Rattle.kbo_order.proofs.laws.ground_is_never_unordered.Goals as goal

pub returns-clause-trees : goal.returns-clause-trees
returns-clause-trees c = ground_trees_compare

pub returns-clause-literals : goal.returns-clause-literals
returns-clause-literals c = ground_literals_compare

pub returns-clause-clauses : goal.returns-clause-clauses
returns-clause-clauses c = ground_clauses_compare
