use Rattle.tptp_tree.proofs.AboutUniqueness.UniqueEntries.{annotated-same}
use Rattle.tptp_tree.proofs.laws.one_phrase.Goals as goal

pub returns : goal.returns
returns c = annotated-same
