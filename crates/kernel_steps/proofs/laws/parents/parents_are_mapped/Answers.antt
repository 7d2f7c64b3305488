use Rattle.kernel_steps.proofs.AboutCalls.ParentLemmas.{maps-parents}
use Rattle.kernel_steps.proofs.laws.parents.parents_are_mapped.Goals as goal

pub returns-clause-law : goal.returns-clause-law
returns-clause-law c = maps-parents
