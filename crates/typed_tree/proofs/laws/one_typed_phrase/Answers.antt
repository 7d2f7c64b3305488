use Rattle.typed_tree.proofs.AboutUniqueness.UniqueEntries.{typed-same}
use Rattle.typed_tree.proofs.laws.one_typed_phrase.Goals as goal

pub returns : goal.returns
returns c = typed-same
