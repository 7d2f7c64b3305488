use Rattle.kernel_steps.proofs.AboutSoundness.RefutationLemmas.{ground_lines_are_grounded, ground_refutations_herbrand_refute}
use Rattle.kernel_steps.proofs.laws.soundness.ground_forms_are_grounded.Goals as goal

pub returns-clause-lines : goal.returns-clause-lines
returns-clause-lines c = ground_lines_are_grounded

pub returns-clause-refutations : goal.returns-clause-refutations
returns-clause-refutations c = ground_refutations_herbrand_refute
