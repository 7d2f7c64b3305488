use Rattle.kernel_steps.proofs.WorkedExamples.ChangedExamples.{other_parent, other_index, one_literal_fewer, last_line_left_out}
use Rattle.kernel_steps.proofs.laws.examples.changed_derivation_examples.Goals as goal

pub returns-clause-other_parent : goal.returns-clause-other_parent
returns-clause-other_parent c = other_parent

pub returns-clause-other_index : goal.returns-clause-other_index
returns-clause-other_index c = other_index

pub returns-clause-one_literal_fewer : goal.returns-clause-one_literal_fewer
returns-clause-one_literal_fewer c = one_literal_fewer

pub returns-clause-last_line_left_out : goal.returns-clause-last_line_left_out
returns-clause-last_line_left_out c = last_line_left_out
