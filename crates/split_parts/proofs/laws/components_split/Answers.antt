use Rattle.split_parts.proofs.AboutParts.SplitLemmas.{components-split}
use Rattle.split_parts.proofs.laws.components_split.Goals as goal

pub returns : goal.returns
returns c = components-split
