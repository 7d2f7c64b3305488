use Rattle.std.proofs.Common.{refl}
use Rattle.signature.proofs.laws.form_examples.truth_value_examples.Goals as goal

pub returns : goal.returns
returns c = record {
  true_value = refl;
  false_value = refl;
  not_true = refl;
  not_false = refl;
  product = refl;
}
