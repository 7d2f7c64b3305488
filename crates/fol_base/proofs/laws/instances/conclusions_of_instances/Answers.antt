use Rattle.fol_base.proofs.AboutClauses.InferenceLemmas.{superpositions_in_instances, resolutions_in_instances, factorings_in_instances, merges_in_instances}
use Rattle.fol_base.proofs.laws.instances.conclusions_of_instances.Goals as goal

pub returns-clause-superposition : goal.returns-clause-superposition
returns-clause-superposition c = superpositions_in_instances

pub returns-clause-resolution : goal.returns-clause-resolution
returns-clause-resolution c = resolutions_in_instances

pub returns-clause-factoring : goal.returns-clause-factoring
returns-clause-factoring c = factorings_in_instances

pub returns-clause-merging : goal.returns-clause-merging
returns-clause-merging c = merges_in_instances
