use Rattle.bank_clause.proofs.ClauseLemmas.{assertions-are}
use Rattle.bank_clause.proofs.laws.rising_names.Goals as goal

pub returns : goal.returns
returns c = assertions-are
