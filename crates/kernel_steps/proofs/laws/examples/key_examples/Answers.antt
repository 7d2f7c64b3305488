use Rattle.std.proofs.Common.{refl}
use Rattle.std.specs.Fmt.{digits}
use Rattle.kernel_steps.proofs.laws.examples.key_examples.Goals as goal

pub returns-clause-para : goal.returns-clause-para
unfolding digits
returns-clause-para c = refl

pub returns-clause-at_the_side_itself : goal.returns-clause-at_the_side_itself
unfolding digits
returns-clause-at_the_side_itself c = refl

pub returns-clause-refl : goal.returns-clause-refl
unfolding digits
returns-clause-refl c = refl

pub returns-clause-factor : goal.returns-clause-factor
unfolding digits
returns-clause-factor c = refl
