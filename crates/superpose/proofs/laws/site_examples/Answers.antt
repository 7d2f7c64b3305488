use Rattle.std.proofs.Common.{refl}
use Rattle.fol_base.specs.Examples.{x}
use Rattle.kernel_steps.specs.Examples.{not_p}
use Rattle.superpose.proofs.laws.site_examples.Goals as goal

pub returns-clause-settled : goal.returns-clause-settled
returns-clause-settled c = record { literal = not_p (x 0); there = refl; greater = refl; outdoes = refl }
