use Rattle.tptp_tree.proofs.AboutPrinting.AgainLemmas.{one_annotated}
use Rattle.tptp_tree.proofs.laws.one_annotated.Goals as goal

pub returns : goal.returns
returns c = one_annotated
