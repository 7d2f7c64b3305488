use Rattle.skolem.proofs.AboutFormulas.ProblemLemmas.{matrix_of_form_is_that_in_problem}
use Rattle.skolem.proofs.laws.matrix_of_form_is_that_in_problem.Goals as goal

pub returns : goal.returns
returns c = matrix_of_form_is_that_in_problem
