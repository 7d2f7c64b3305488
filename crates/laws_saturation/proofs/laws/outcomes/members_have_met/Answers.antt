use Rattle.laws_saturation.proofs.AboutClosing.LawLemmas.{members_have_met}
use Rattle.laws_saturation.proofs.laws.outcomes.members_have_met.Goals as goal

pub returns : goal.returns
returns c = members_have_met
