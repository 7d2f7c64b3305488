use Rattle.kbo_order.proofs.AboutLaws.SubtermLemmas.{proper_subterms_are_smaller, smaller_subterms_make_smaller}
use Rattle.kbo_order.proofs.laws.order_of_subterms.Goals as goal

pub returns-clause-smaller : goal.returns-clause-smaller
returns-clause-smaller c = proper_subterms_are_smaller

pub returns-clause-made_smaller : goal.returns-clause-made_smaller
returns-clause-made_smaller c = smaller_subterms_make_smaller
