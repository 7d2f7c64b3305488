use Rattle.bank_clause.proofs.HashLemmas.{hashes-alike}
use Rattle.bank_clause.proofs.laws.hashes.Goals as goal

pub returns : goal.returns
returns c = hashes-alike
