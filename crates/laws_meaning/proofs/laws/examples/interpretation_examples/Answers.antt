use Rattle.laws_meaning.proofs.WorkedExamples.SmallExamples.{one_value, more_values, no_value, no_truth, one_value_of_form, no_value_of_form, no_truth_of_form}
use Rattle.laws_meaning.proofs.laws.examples.interpretation_examples.Goals as goal

pub returns : goal.returns
returns c = record {
  one_value = one_value;
  more_values = more_values;
  no_value = no_value;
  no_truth = no_truth;
  one_value_of_form = one_value_of_form;
  no_value_of_form = no_value_of_form;
  no_truth_of_form = no_truth_of_form;
}
