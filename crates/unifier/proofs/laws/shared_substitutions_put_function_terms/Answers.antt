use Rattle.unifier.proofs.AboutClasses.SharedLemmas.{shared_put_function_terms}
use Rattle.unifier.proofs.laws.shared_substitutions_put_function_terms.Goals as goal

pub returns : goal.returns
returns c = shared_put_function_terms
