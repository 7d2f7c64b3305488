use Rattle.laws_saturation.proofs.AboutCarried.FixedLemmas.{fixed_are_refuted_or_spent}
use Rattle.laws_saturation.proofs.laws.outcomes.fixed_are_refuted_or_spent.Goals as goal

pub returns : goal.returns
returns c = fixed_are_refuted_or_spent
