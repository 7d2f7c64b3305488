use Rattle.unifier.proofs.AboutAdditions.VariableLemmas.{unifiers_add_no_variables}
use Rattle.unifier.proofs.laws.unifiers_add_no_variables.Goals as goal

pub returns : goal.returns
returns c = unifiers_add_no_variables
