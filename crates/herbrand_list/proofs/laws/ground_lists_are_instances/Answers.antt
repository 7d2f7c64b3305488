use Rattle.herbrand_list.proofs.AboutDemands.InstanceLemmas.{ground_lists_are_instances}
use Rattle.herbrand_list.proofs.laws.ground_lists_are_instances.Goals as goal

pub returns : goal.returns
returns c = ground_lists_are_instances
