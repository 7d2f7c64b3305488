use Rattle.laws_calculus.proofs.AboutLifting.ConclusionLemmas.{conclusions_are_variants}
use Rattle.laws_saturation.proofs.AboutClosing.LawLemmas.{carried_through}
use Rattle.laws_saturation.proofs.laws.carried.carried_through.Goals as goal

pub returns : goal.returns
returns c = carried_through conclusions_are_variants
