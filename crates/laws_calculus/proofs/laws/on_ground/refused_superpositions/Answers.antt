use Rattle.laws_calculus.proofs.WorkedExamples.RefusedExamples.{smaller_side, not_maximal, not_chosen, other_kind, made_smaller, made_equal, superposition_lost_name}
use Rattle.laws_calculus.proofs.laws.on_ground.refused_superpositions.Goals as goal

pub returns-clause-smaller_side : goal.returns-clause-smaller_side
returns-clause-smaller_side c = smaller_side

pub returns-clause-not_maximal : goal.returns-clause-not_maximal
returns-clause-not_maximal c = not_maximal

pub returns-clause-not_chosen : goal.returns-clause-not_chosen
returns-clause-not_chosen c = not_chosen

pub returns-clause-other_kind : goal.returns-clause-other_kind
returns-clause-other_kind c = other_kind

pub returns-clause-made_smaller : goal.returns-clause-made_smaller
returns-clause-made_smaller c = made_smaller

pub returns-clause-made_equal : goal.returns-clause-made_equal
returns-clause-made_equal c = made_equal

pub returns-clause-lost_name : goal.returns-clause-lost_name
returns-clause-lost_name c = superposition_lost_name
