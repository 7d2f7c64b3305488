use Rattle.tptp_tree.proofs.AboutPrinting.AgainLemmas.{one_formula}
use Rattle.tptp_tree.proofs.laws.one_formula.Goals as goal

pub returns : goal.returns
returns c = one_formula
