use Rattle.fol_base.proofs.WorkedExamples.ExampleLemmas.{instance_over_the_list, p_for_each_value, p_not_for_each_value, p_of_a_without_p_of_b, contradiction, no_contradiction}
use Rattle.fol_base.proofs.laws.examples.meaning_examples.Goals as goal

pub returns-clause-instance_over_the_list : goal.returns-clause-instance_over_the_list
returns-clause-instance_over_the_list c = instance_over_the_list

pub returns-clause-other_constant : goal.returns-clause-other_constant
returns-clause-other_constant c = p_of_a_without_p_of_b

pub returns-clause-contradiction : goal.returns-clause-contradiction
returns-clause-contradiction c = contradiction

pub returns-clause-no_contradiction : goal.returns-clause-no_contradiction
returns-clause-no_contradiction c = no_contradiction

pub returns-clause-holds_for_each_value : goal.returns-clause-holds_for_each_value
returns-clause-holds_for_each_value c = p_for_each_value

pub returns-clause-fails_for_one_value : goal.returns-clause-fails_for_one_value
returns-clause-fails_for_one_value c = p_not_for_each_value
