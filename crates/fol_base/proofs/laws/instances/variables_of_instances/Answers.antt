use Rattle.fol_base.proofs.AboutInstances.InstanceLemmas.{variables_of_instances, occurrences_in_instances}
use Rattle.fol_base.proofs.laws.instances.variables_of_instances.Goals as goal

pub returns-clause-variables : goal.returns-clause-variables
returns-clause-variables c = variables_of_instances

pub returns-clause-occurrences : goal.returns-clause-occurrences
returns-clause-occurrences c = occurrences_in_instances
