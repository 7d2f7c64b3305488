use Rattle.std.proofs.Common.{refl}
use Rattle.std.proofs.lemmas.Bool.{false≢true}
use Rattle.fol_base.proofs.WorkedExamples.MatchingExamples.{used_together, two_numbers_of_arguments, predicate_and_function}
use Rattle.fol_base.proofs.laws.matching_examples.well_formed_examples.Goals as goal

pub returns-clause-together : goal.returns-clause-together
returns-clause-together c = used_together

pub returns-clause-two_numbers_of_arguments : goal.returns-clause-two_numbers_of_arguments
returns-clause-two_numbers_of_arguments c = two_numbers_of_arguments

pub returns-clause-predicate_and_function : goal.returns-clause-predicate_and_function
returns-clause-predicate_and_function c = predicate_and_function

pub returns-clause-terms_put : goal.returns-clause-terms_put
returns-clause-terms_put c = λ v. refl

pub returns-clause-other_number_of_arguments_put : goal.returns-clause-other_number_of_arguments_put
returns-clause-other_number_of_arguments_put c = λ h. false≢true (h 0)
