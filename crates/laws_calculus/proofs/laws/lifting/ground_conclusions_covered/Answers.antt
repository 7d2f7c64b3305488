use Rattle.laws_calculus.proofs.AboutCovering.ClosureLemmas.{ground_conclusions_covered, ground_conclusions_listed}
use Rattle.laws_calculus.proofs.laws.lifting.ground_conclusions_covered.Goals as goal

pub returns-clause-covered : goal.returns-clause-covered
returns-clause-covered c = ground_conclusions_covered

pub returns-clause-listed : goal.returns-clause-listed
returns-clause-listed c = ground_conclusions_listed
