use Rattle.tptp_tree.proofs.AboutPrinting.AgainLemmas.{one_entries}
use Rattle.tptp_tree.proofs.laws.one_problem.Goals as goal

pub returns : goal.returns
returns c = one_entries
