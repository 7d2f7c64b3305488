use Rattle.std.proofs.Common.{refl}
use Rattle.formula_nnf.proofs.laws.normal_form_examples.Goals as goal

pub returns : goal.returns
returns c = record {
  positive = refl;
  negative = refl;
}
