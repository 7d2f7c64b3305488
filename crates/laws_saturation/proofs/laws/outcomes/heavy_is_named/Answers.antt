use Rattle.laws_saturation.proofs.AboutClosing.OutcomeLemmas.{heavy_is_named}
use Rattle.laws_saturation.proofs.laws.outcomes.heavy_is_named.Goals as goal

pub returns : goal.returns
returns c = heavy_is_named
