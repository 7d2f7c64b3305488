use Rattle.std.proofs.Common.{refl}
use Rattle.std.specs.Fmt.{digits}
use Rattle.clausal_form.proofs.laws.derivation_examples.single_rule_examples.Goals as goal

pub returns : goal.returns
unfolding digits
returns c = record { factored = refl; merged = refl; twice = refl; one_variable = refl; negated_pivot = refl }
