use Rattle.split_parts.proofs.AboutTags.SignedLawLemmas.{complements_are_opposite}
use Rattle.split_parts.proofs.laws.complements_are_opposite.Goals as goal

pub returns : goal.returns
returns c = complements_are_opposite
