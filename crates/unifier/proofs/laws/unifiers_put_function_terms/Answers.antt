use Rattle.unifier.proofs.AboutLayouts.KindLemmas.{unifiers_put_function_terms, unifiers_apart_put_function_terms}
use Rattle.unifier.proofs.laws.unifiers_put_function_terms.Goals as goal

pub returns-clause-together : goal.returns-clause-together
returns-clause-together c = unifiers_put_function_terms

pub returns-clause-apart : goal.returns-clause-apart
returns-clause-apart c = unifiers_apart_put_function_terms
