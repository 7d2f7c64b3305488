use Rattle.split_parts.proofs.AboutParts.UniqueLemmas.{components-unique}
use Rattle.split_parts.proofs.laws.components_are_unique.Goals as goal

pub returns : goal.returns
returns c = components-unique
