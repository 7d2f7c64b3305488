use Rattle.laws_calculus.proofs.WorkedExamples.RefusedExamples.{by_right_side, named_by_right_side, named_resolution, named_factoring, of_one_clause}
use Rattle.laws_calculus.proofs.laws.on_ground.ground_inference_examples.Goals as goal

pub returns-clause-by_right_side : goal.returns-clause-by_right_side
returns-clause-by_right_side c = by_right_side

pub returns-clause-named_by_right_side : goal.returns-clause-named_by_right_side
returns-clause-named_by_right_side c = named_by_right_side

pub returns-clause-named_resolution : goal.returns-clause-named_resolution
returns-clause-named_resolution c = named_resolution

pub returns-clause-named_factoring : goal.returns-clause-named_factoring
returns-clause-named_factoring c = named_factoring

pub returns-clause-of_one_clause : goal.returns-clause-of_one_clause
returns-clause-of_one_clause c = of_one_clause
