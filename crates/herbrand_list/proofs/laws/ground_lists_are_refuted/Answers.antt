use Rattle.herbrand_list.proofs.AboutDemands.TruthLemmas.{ground_lists_are_refuted}
use Rattle.herbrand_list.proofs.laws.ground_lists_are_refuted.Goals as goal

pub returns : goal.returns
returns c = ground_lists_are_refuted
