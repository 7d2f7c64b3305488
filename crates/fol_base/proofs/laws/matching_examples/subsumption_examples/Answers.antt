use Rattle.fol_base.proofs.WorkedExamples.MatchingExamples.{subsumes_in_other_order, variables_by_no_atom}
use Rattle.fol_base.proofs.laws.matching_examples.subsumption_examples.Goals as goal

pub returns-clause-in_other_order : goal.returns-clause-in_other_order
returns-clause-in_other_order c = subsumes_in_other_order

pub returns-clause-to_function_terms : goal.returns-clause-to_function_terms
returns-clause-to_function_terms c = variables_by_no_atom
