use Rattle.fol_base.proofs.AboutTerms.KindLemmas.{ground_trees_are_function_terms}
use Rattle.fol_base.proofs.laws.well_formed.ground_trees_are_function_terms.Goals as goal

pub returns : goal.returns
returns c = ground_trees_are_function_terms
