use Rattle.kbo_order.proofs.AboutMultisets.PartLemmas.{parts_are_not_greater, proper_parts_are_smaller}
use Rattle.kbo_order.proofs.laws.order_of_parts.Goals as goal

pub returns-clause-not_greater : goal.returns-clause-not_greater
returns-clause-not_greater c = parts_are_not_greater

pub returns-clause-smaller : goal.returns-clause-smaller
returns-clause-smaller c = proper_parts_are_smaller
