use Rattle.pool_history.proofs.AboutLines.BeginningLemmas.{clauses_have_lines}
use Rattle.pool_history.proofs.laws.histories.clauses_have_lines.Goals as goal

pub returns : goal.returns
returns c = clauses_have_lines
