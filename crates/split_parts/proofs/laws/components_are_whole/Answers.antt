use Rattle.split_parts.proofs.AboutParts.WholeLemmas.{components-whole}
use Rattle.split_parts.proofs.laws.components_are_whole.Goals as goal

pub returns : goal.returns
returns c = components-whole
