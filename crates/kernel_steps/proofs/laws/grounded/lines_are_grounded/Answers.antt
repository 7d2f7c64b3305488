use Rattle.kernel_steps.proofs.AboutGrounding.GroundedLemmasLines.{lines_are_grounded, refutations_herbrand_refute}
use Rattle.kernel_steps.proofs.laws.grounded.lines_are_grounded.Goals as goal

pub returns-clause-lines : goal.returns-clause-lines
returns-clause-lines c = lines_are_grounded

pub returns-clause-refutations : goal.returns-clause-refutations
returns-clause-refutations c = refutations_herbrand_refute
