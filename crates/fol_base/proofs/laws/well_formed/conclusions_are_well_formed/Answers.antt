use Rattle.fol_base.proofs.AboutTerms.WellFormedLemmas.{well_formed_instances, well_formed_superpositions, well_formed_resolutions, well_formed_factorings, well_formed_merges}
use Rattle.fol_base.proofs.laws.well_formed.conclusions_are_well_formed.Goals as goal

pub returns-clause-instances : goal.returns-clause-instances
returns-clause-instances c = well_formed_instances

pub returns-clause-superpositions : goal.returns-clause-superpositions
returns-clause-superpositions c = well_formed_superpositions

pub returns-clause-resolutions : goal.returns-clause-resolutions
returns-clause-resolutions c = well_formed_resolutions

pub returns-clause-factorings : goal.returns-clause-factorings
returns-clause-factorings c = well_formed_factorings

pub returns-clause-merges : goal.returns-clause-merges
returns-clause-merges c = well_formed_merges
