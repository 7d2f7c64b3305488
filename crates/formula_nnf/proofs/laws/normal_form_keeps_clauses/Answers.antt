use Rattle.formula_nnf.proofs.ClauseLemmas.{normal_form_keeps_clauses}
use Rattle.formula_nnf.proofs.laws.normal_form_keeps_clauses.Goals as goal

pub returns : goal.returns
returns c = normal_form_keeps_clauses
