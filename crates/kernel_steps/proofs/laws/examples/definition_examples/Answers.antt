use Rattle.kernel_steps.proofs.WorkedExamples.NameExamples.{component_of_literals, introduced_twice, component_without_literals, opposite, opposite_of_nothing, opposite_of_variable, opposite_of_two_literals, opposite_of_negative_literal}
use Rattle.kernel_steps.proofs.laws.examples.definition_examples.Goals as goal

pub returns-clause-component_of_literals : goal.returns-clause-component_of_literals
returns-clause-component_of_literals c = component_of_literals

pub returns-clause-introduced_twice : goal.returns-clause-introduced_twice
returns-clause-introduced_twice c = introduced_twice

pub returns-clause-component_without_literals : goal.returns-clause-component_without_literals
returns-clause-component_without_literals c = component_without_literals

pub returns-clause-opposite : goal.returns-clause-opposite
returns-clause-opposite c = opposite

pub returns-clause-opposite_of_nothing : goal.returns-clause-opposite_of_nothing
returns-clause-opposite_of_nothing c = opposite_of_nothing

pub returns-clause-opposite_of_variable : goal.returns-clause-opposite_of_variable
returns-clause-opposite_of_variable c = opposite_of_variable

pub returns-clause-opposite_of_two_literals : goal.returns-clause-opposite_of_two_literals
returns-clause-opposite_of_two_literals c = opposite_of_two_literals

pub returns-clause-opposite_of_negative_literal : goal.returns-clause-opposite_of_negative_literal
returns-clause-opposite_of_negative_literal c = opposite_of_negative_literal
