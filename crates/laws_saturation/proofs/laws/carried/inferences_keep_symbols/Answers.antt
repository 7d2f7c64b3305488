use Rattle.laws_saturation.proofs.AboutClosing.ConclusionLemmas.{inferences_keep_symbols}
use Rattle.laws_saturation.proofs.laws.carried.inferences_keep_symbols.Goals as goal

pub returns : goal.returns
returns c = inferences_keep_symbols
