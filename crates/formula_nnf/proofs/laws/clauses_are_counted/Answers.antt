use Rattle.formula_nnf.proofs.CountLemmas.{clauses_are_counted}
use Rattle.formula_nnf.proofs.laws.clauses_are_counted.Goals as goal

pub returns : goal.returns
returns c = clauses_are_counted
