use Rattle.kbo_order.proofs.AboutLaws.StableLemmas.{trees_stable, literals_stable, clauses_stable}
use Rattle.kbo_order.proofs.laws.order_is_stable.Goals as goal

pub returns-clause-trees : goal.returns-clause-trees
returns-clause-trees c = trees_stable

pub returns-clause-literals : goal.returns-clause-literals
returns-clause-literals c = literals_stable

pub returns-clause-clauses : goal.returns-clause-clauses
returns-clause-clauses c = clauses_stable
