use Rattle.fol_base.proofs.AboutTerms.WellFormedLemmas.{well_formed_sides, ground_trees_are_of_use}
use Rattle.fol_base.proofs.laws.well_formed.terms_are_well_formed.Goals as goal

pub returns-clause-sides : goal.returns-clause-sides
returns-clause-sides c = well_formed_sides

pub returns-clause-ground_trees : goal.returns-clause-ground_trees
returns-clause-ground_trees c = ground_trees_are_of_use
