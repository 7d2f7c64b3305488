use Rattle.unifier.proofs.AboutMatching.ExampleLemmas.{matched, two_terms, other_pair}
use Rattle.unifier.proofs.examples.matcher_examples.Goals as goal

pub returns-clause-matched : goal.returns-clause-matched
returns-clause-matched c = matched

pub returns-clause-two_terms : goal.returns-clause-two_terms
returns-clause-two_terms c = two_terms

pub returns-clause-other_pair : goal.returns-clause-other_pair
returns-clause-other_pair c = other_pair
