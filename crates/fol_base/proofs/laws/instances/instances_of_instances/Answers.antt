use Rattle.fol_base.proofs.AboutInstances.InstanceLemmas.{instances_of_instances, clause_instances_of_instances}
use Rattle.fol_base.proofs.laws.instances.instances_of_instances.Goals as goal

pub returns-clause-trees : goal.returns-clause-trees
returns-clause-trees c = instances_of_instances

pub returns-clause-clauses : goal.returns-clause-clauses
returns-clause-clauses c = clause_instances_of_instances
