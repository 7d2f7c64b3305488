use Rattle.kernel_steps.proofs.AboutSoundness.SoundLemmas.{derivations_are_sound}
use Rattle.kernel_steps.proofs.laws.soundness.derivations_are_sound.Goals as goal

pub returns : goal.returns
returns c = derivations_are_sound
