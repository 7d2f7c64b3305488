use Rattle.laws_saturation.proofs.AboutClosing.LawLemmas.{saturated_is_saturated}
use Rattle.laws_saturation.proofs.laws.outcomes.saturated_is_saturated.Goals as goal

pub returns : goal.returns
returns c = saturated_is_saturated
