use Rattle.tptp_problem.proofs.AboutReading.ConjectureLemmas.{one-conjecture, no-conjecture-clause}
use Rattle.tptp_problem.proofs.laws.at_most_one_conjecture.Goals as goal

pub returns : goal.returns
returns c = record { one = one-conjecture; no_clause = no-conjecture-clause }
