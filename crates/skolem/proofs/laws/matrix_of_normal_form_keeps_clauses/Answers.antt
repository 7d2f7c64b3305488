use Rattle.skolem.proofs.AboutFormulas.ClauseLemmas.{matrix_of_normal_form_keeps_clauses}
use Rattle.skolem.proofs.laws.matrix_of_normal_form_keeps_clauses.Goals as goal

pub returns : goal.returns
returns c = matrix_of_normal_form_keeps_clauses
