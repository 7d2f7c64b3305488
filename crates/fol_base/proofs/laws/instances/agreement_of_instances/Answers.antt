use Rattle.fol_base.proofs.AboutInstances.InstanceLemmas.{instances_agree, instances_agree_below}
use Rattle.fol_base.proofs.laws.instances.agreement_of_instances.Goals as goal

pub returns-clause-on_variables : goal.returns-clause-on_variables
returns-clause-on_variables c = instances_agree

pub returns-clause-below : goal.returns-clause-below
returns-clause-below c = instances_agree_below
