use Rattle.tptp_tree.proofs.AboutNames.FormulaNames.{one_formula_name}
use Rattle.tptp_tree.proofs.laws.one_formula_name.Goals as goal

pub returns : goal.returns
returns c = one_formula_name
