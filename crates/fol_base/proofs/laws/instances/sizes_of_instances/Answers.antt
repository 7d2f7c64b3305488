use Rattle.fol_base.proofs.AboutInstances.InstanceLemmas.{sizes_of_instances, sizes_of_clause_instances}
use Rattle.fol_base.proofs.laws.instances.sizes_of_instances.Goals as goal

pub returns-clause-trees : goal.returns-clause-trees
returns-clause-trees c = sizes_of_instances

pub returns-clause-clauses : goal.returns-clause-clauses
returns-clause-clauses c = sizes_of_clause_instances
