use Rattle.tptp_tree.proofs.AboutPrinting.AgainLemmas.{one_name}
use Rattle.tptp_tree.proofs.laws.one_name.Goals as goal

pub returns : goal.returns
returns c = one_name
