use Rattle.unifier.proofs.AboutMatching.ExampleLemmas.{contains_itself, clashes, after_both, function_pair, predicate_pair}
use Rattle.unifier.proofs.examples.law_examples.Goals as goal

pub returns-clause-contains_itself : goal.returns-clause-contains_itself
returns-clause-contains_itself c = contains_itself

pub returns-clause-clash : goal.returns-clause-clash
returns-clause-clash c = clashes

pub returns-clause-after_both : goal.returns-clause-after_both
returns-clause-after_both c = after_both

pub returns-clause-function_pair : goal.returns-clause-function_pair
returns-clause-function_pair c = function_pair

pub returns-clause-predicate_pair : goal.returns-clause-predicate_pair
returns-clause-predicate_pair c = predicate_pair
