use Rattle.literal_selection.proofs.EligibleLemmas.{eligible_lifts}
use Rattle.literal_selection.proofs.laws.eligible_literals_lift.Goals as goal

pub returns : goal.returns
returns c = eligible_lifts
