use Rattle.pool_history.proofs.AboutRecords.StayLemmas.{clauses_stay}
use Rattle.pool_history.proofs.laws.histories.clauses_stay.Goals as goal

pub returns : goal.returns
returns c = clauses_stay
