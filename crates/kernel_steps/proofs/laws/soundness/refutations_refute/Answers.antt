use Rattle.kernel_steps.proofs.AboutSoundness.RefutationLemmas.{refutations_refute, ground_refutations_refute}
use Rattle.kernel_steps.proofs.laws.soundness.refutations_refute.Goals as goal

pub returns-clause-any_form : goal.returns-clause-any_form
returns-clause-any_form c = refutations_refute

pub returns-clause-ground_form : goal.returns-clause-ground_form
returns-clause-ground_form c = ground_refutations_refute
