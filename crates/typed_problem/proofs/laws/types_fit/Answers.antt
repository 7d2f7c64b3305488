use Rattle.typed_problem.proofs.TypeLemmas.{function-long, predicate-long}
use Rattle.typed_problem.proofs.laws.types_fit.Goals as goal

pub returns : goal.returns
returns c = record { functions = function-long; predicates = predicate-long }
