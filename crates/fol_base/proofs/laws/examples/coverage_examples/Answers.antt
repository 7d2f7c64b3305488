use Rattle.fol_base.proofs.WorkedExamples.ExampleLemmas.{inner_rewritten, listed_rewritten, chosen_dropped, greater_factored, repeated_by_single, single_not_by_repeated}
use Rattle.fol_base.proofs.laws.examples.coverage_examples.Goals as goal

pub returns-clause-inference : goal.returns-clause-inference
returns-clause-inference c = inner_rewritten

pub returns-clause-resolution : goal.returns-clause-resolution
returns-clause-resolution c = chosen_dropped

pub returns-clause-factoring : goal.returns-clause-factoring
returns-clause-factoring c = greater_factored

pub returns-clause-by_a_smaller : goal.returns-clause-by_a_smaller
returns-clause-by_a_smaller c = repeated_by_single

pub returns-clause-not_by_a_greater : goal.returns-clause-not_by_a_greater
returns-clause-not_by_a_greater c = single_not_by_repeated

pub returns-clause-inference_between_listed : goal.returns-clause-inference_between_listed
returns-clause-inference_between_listed c = listed_rewritten
