use Rattle.laws_calculus.proofs.WorkedExamples.RefusedExamples.{factoring_smaller_side, factoring_not_maximal, factoring_other_kind, factoring_lost_name, factoring_made_smaller}
use Rattle.laws_calculus.proofs.laws.on_ground.refused_factorings.Goals as goal

pub returns-clause-smaller_side : goal.returns-clause-smaller_side
returns-clause-smaller_side c = factoring_smaller_side

pub returns-clause-not_maximal : goal.returns-clause-not_maximal
returns-clause-not_maximal c = factoring_not_maximal

pub returns-clause-other_kind : goal.returns-clause-other_kind
returns-clause-other_kind c = factoring_other_kind

pub returns-clause-lost_name : goal.returns-clause-lost_name
returns-clause-lost_name c = factoring_lost_name

pub returns-clause-made_smaller : goal.returns-clause-made_smaller
returns-clause-made_smaller c = factoring_made_smaller
