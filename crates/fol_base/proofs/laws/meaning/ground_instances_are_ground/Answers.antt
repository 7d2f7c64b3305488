use Rattle.fol_base.proofs.AboutClauses.MeaningLemmas.{ground_instances_are_ground}
use Rattle.fol_base.proofs.laws.meaning.ground_instances_are_ground.Goals as goal

pub returns : goal.returns
returns c = ground_instances_are_ground
