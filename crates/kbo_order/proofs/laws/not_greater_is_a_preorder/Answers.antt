use Rattle.kbo_order.proofs.AboutLaws.GroundLemmas.{ground_literals_preordered, ground_clauses_preordered}
use Rattle.kbo_order.proofs.laws.not_greater_is_a_preorder.Goals as goal

pub returns-clause-literals : goal.returns-clause-literals
returns-clause-literals c = ground_literals_preordered

pub returns-clause-clauses : goal.returns-clause-clauses
returns-clause-clauses c = ground_clauses_preordered
