use Rattle.fol_base.proofs.AboutInstances.GroundInstanceLemmas.{ground_instances_of_canonical}
use Rattle.fol_base.proofs.laws.instances.ground_instances_of_canonical.Goals as goal

pub returns : goal.returns
returns c = ground_instances_of_canonical
