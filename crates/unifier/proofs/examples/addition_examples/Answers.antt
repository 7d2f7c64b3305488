use Rattle.std.proofs.Common.{[], ◌∷◌, refl}
use Rattle.unifier.proofs.examples.addition_examples.Goals as goal

pub returns-clause-subterm : goal.returns-clause-subterm
returns-clause-subterm c = (1 ∷ [], refl)
