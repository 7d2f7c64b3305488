use Rattle.std.proofs.Common.{◌∷◌, [], refl}
use Rattle.fol_base.specs.Examples.{x, a, f}
use Rattle.term_bank.proofs.laws.examples.Goals as goal

pub returns-clause-first_interned : goal.returns-clause-first_interned
returns-clause-first_interned c =
    (f a ∷ [], x 0 ∷ [], refl, record { more = (f a, 1) ∷ []; table = refl; first = refl })
