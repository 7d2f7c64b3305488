use Rattle.bank_clause.proofs.EqualityLemmas.{same-are-equal}
use Rattle.bank_clause.proofs.laws.same_clauses.Goals as goal

pub returns : goal.returns
returns c = same-are-equal
