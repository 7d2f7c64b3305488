use Rattle.std.proofs.Common.{refl}
use Rattle.signature.proofs.laws.form_examples.equation_examples.Goals as goal

pub returns : goal.returns
returns c = record {
  equal = refl;
  unequal = refl;
  not_equal = refl;
  not_unequal = refl;
}
