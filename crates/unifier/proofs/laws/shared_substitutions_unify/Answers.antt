use Rattle.unifier.proofs.AboutClasses.SharedLemmas.{shared_unify, shared_unify_apart, shared_unify_one}
use Rattle.unifier.proofs.laws.shared_substitutions_unify.Goals as goal

pub returns-clause-together : goal.returns-clause-together
returns-clause-together c = shared_unify

pub returns-clause-apart : goal.returns-clause-apart
returns-clause-apart c = shared_unify_apart

pub returns-clause-one : goal.returns-clause-one
returns-clause-one c = shared_unify_one
