use Rattle.unifier.proofs.AboutLayouts.KindLemmas.{matchers_put_function_terms}
use Rattle.unifier.proofs.laws.matchers_put_function_terms.Goals as goal

pub returns : goal.returns
returns c = matchers_put_function_terms
