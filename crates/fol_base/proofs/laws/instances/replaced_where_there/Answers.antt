use Rattle.fol_base.proofs.AboutInstances.ConversePlaces.{replaced_where_there}
use Rattle.fol_base.proofs.laws.instances.replaced_where_there.Goals as goal

pub returns : goal.returns
returns c = replaced_where_there
