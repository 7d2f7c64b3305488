use Rattle.unifier.proofs.AboutAdditions.SubtermLemmas.{matchers_put_subterms, further_terms_are_subterms, subterms_add_nothing}
use Rattle.unifier.proofs.laws.matchers_put_subterms.Goals as goal

pub returns-clause-variables : goal.returns-clause-variables
returns-clause-variables c = matchers_put_subterms

pub returns-clause-pairs : goal.returns-clause-pairs
returns-clause-pairs c = further_terms_are_subterms

pub returns-clause-nothing_added : goal.returns-clause-nothing_added
returns-clause-nothing_added c = subterms_add_nothing
