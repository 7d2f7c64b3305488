use Rattle.tptp_problem.proofs.AboutReading.ClosedLemmas.{problem-closed}
use Rattle.tptp_problem.proofs.laws.closed_formulas.Goals as goal

pub returns : goal.returns
returns c = problem-closed
