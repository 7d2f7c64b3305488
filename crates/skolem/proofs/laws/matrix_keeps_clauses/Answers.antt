use Rattle.skolem.proofs.AboutFormulas.ClauseLemmas.{matrix_keeps_clauses}
use Rattle.skolem.proofs.laws.matrix_keeps_clauses.Goals as goal

pub returns : goal.returns
returns c = matrix_keeps_clauses
