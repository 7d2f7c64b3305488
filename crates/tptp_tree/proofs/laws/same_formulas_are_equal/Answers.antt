use Rattle.tptp_tree.proofs.AboutTrees.EqualityLemmas.{formulas-equal}
use Rattle.tptp_tree.proofs.laws.same_formulas_are_equal.Goals as goal

pub returns : goal.returns
returns c = formulas-equal
