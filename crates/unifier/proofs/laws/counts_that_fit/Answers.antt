use Rattle.unifier.proofs.AboutLayouts.BoundLemmas.{fit-leaves-others, fit-leaves-others-apart, fits-above}
use Rattle.unifier.proofs.laws.counts_that_fit.Goals as goal

pub returns-clause-together : goal.returns-clause-together
returns-clause-together c = fit-leaves-others

pub returns-clause-apart : goal.returns-clause-apart
returns-clause-apart c = fit-leaves-others-apart

pub returns-clause-above : goal.returns-clause-above
returns-clause-above c = fits-above
