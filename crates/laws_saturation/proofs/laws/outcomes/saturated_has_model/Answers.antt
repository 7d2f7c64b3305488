use Rattle.laws_saturation.proofs.AboutClosing.LawLemmas.{saturated_has_model}
use Rattle.laws_saturation.proofs.laws.outcomes.saturated_has_model.Goals as goal

pub returns : goal.returns
returns c = saturated_has_model
