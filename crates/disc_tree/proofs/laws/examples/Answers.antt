use Rattle.std.proofs.Common.{refl, inl, inr}
use Rattle.disc_tree.proofs.laws.examples.Goals as goal

pub returns-clause-first_accepted : goal.returns-clause-first_accepted
returns-clause-first_accepted c = inl (refl, inr (refl, refl))

pub returns-clause-none_accepted : goal.returns-clause-none_accepted
returns-clause-none_accepted c = inl (refl, inl (refl, refl))
