use Rattle.laws_calculus.proofs.AboutCovering.OnGroundLemmas.{resolutions_on_ground, factorings_on_ground, superpositions_on_ground}
use Rattle.laws_calculus.proofs.laws.on_ground.named_on_ground.Goals as goal

pub returns-clause-resolutions : goal.returns-clause-resolutions
returns-clause-resolutions c = resolutions_on_ground

pub returns-clause-factorings : goal.returns-clause-factorings
returns-clause-factorings c = factorings_on_ground

pub returns-clause-superpositions : goal.returns-clause-superpositions
returns-clause-superpositions c = superpositions_on_ground
