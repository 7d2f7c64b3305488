use Rattle.herbrand_list.proofs.AboutRefuting.GroundingLemmas.{atoms-none}
use Rattle.herbrand_list.proofs.grounding.Grounding.new.Goals as goal

pub returns : goal.returns
returns c = atoms-none _ _ c.in_ok-new.ensures c.new-2.ensures.items
