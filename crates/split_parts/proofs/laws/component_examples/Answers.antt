use Rattle.split_parts.proofs.AboutParts.ComponentExamples.{shared, ground_literals, chained, none}
use Rattle.split_parts.proofs.laws.component_examples.Goals as goal

pub returns-clause-shared : goal.returns-clause-shared
returns-clause-shared c = shared

pub returns-clause-ground_literals : goal.returns-clause-ground_literals
returns-clause-ground_literals c = ground_literals

pub returns-clause-chained : goal.returns-clause-chained
returns-clause-chained c = chained

pub returns-clause-none : goal.returns-clause-none
returns-clause-none c = none
