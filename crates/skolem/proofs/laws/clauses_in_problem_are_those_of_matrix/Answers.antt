use Rattle.skolem.proofs.AboutFormulas.ProblemLemmas.{clauses_in_problem_are_those_of_matrix}
use Rattle.skolem.proofs.laws.clauses_in_problem_are_those_of_matrix.Goals as goal

pub returns : goal.returns
returns c = clauses_in_problem_are_those_of_matrix
