use Rattle.laws_calculus.proofs.WorkedExamples.RefusedExamples.{resolution_not_maximal, resolution_not_chosen, resolution_lost_name, resolution_not_maximal_made}
use Rattle.laws_calculus.proofs.laws.on_ground.refused_resolutions.Goals as goal

pub returns-clause-not_maximal : goal.returns-clause-not_maximal
returns-clause-not_maximal c = resolution_not_maximal

pub returns-clause-not_chosen : goal.returns-clause-not_chosen
returns-clause-not_chosen c = resolution_not_chosen

pub returns-clause-lost_name : goal.returns-clause-lost_name
returns-clause-lost_name c = resolution_lost_name

pub returns-clause-not_maximal_made : goal.returns-clause-not_maximal_made
returns-clause-not_maximal_made c = resolution_not_maximal_made
