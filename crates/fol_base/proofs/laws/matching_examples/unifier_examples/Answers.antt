use Rattle.fol_base.proofs.WorkedExamples.MatchingExamples.{apart_general, variable_occurs, first_is_a_general}
use Rattle.fol_base.proofs.laws.matching_examples.unifier_examples.Goals as goal

pub returns-clause-most_general_apart : goal.returns-clause-most_general_apart
returns-clause-most_general_apart c = apart_general

pub returns-clause-occurs : goal.returns-clause-occurs
returns-clause-occurs c = variable_occurs

pub returns-clause-most_general : goal.returns-clause-most_general
returns-clause-most_general c = first_is_a_general
