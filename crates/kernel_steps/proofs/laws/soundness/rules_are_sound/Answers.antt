use Rattle.kernel_steps.proofs.AboutSoundness.RuleTruth.{para_is_sound, refl_is_sound, factor_is_sound, merge_is_sound}
use Rattle.kernel_steps.proofs.AboutNames.NameTruth.{chain_is_sound}
use Rattle.kernel_steps.proofs.laws.soundness.rules_are_sound.Goals as goal

pub returns-clause-para : goal.returns-clause-para
returns-clause-para c = para_is_sound

pub returns-clause-refl : goal.returns-clause-refl
returns-clause-refl c = refl_is_sound

pub returns-clause-factor : goal.returns-clause-factor
returns-clause-factor c = factor_is_sound

pub returns-clause-merge : goal.returns-clause-merge
returns-clause-merge c = merge_is_sound

pub returns-clause-chain : goal.returns-clause-chain
returns-clause-chain c = chain_is_sound
