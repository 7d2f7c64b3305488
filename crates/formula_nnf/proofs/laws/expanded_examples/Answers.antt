use Rattle.std.proofs.Common.{refl}
use Rattle.formula_nnf.proofs.laws.expanded_examples.Goals as goal

pub returns : goal.returns
returns c = record {
  one = refl;
  below = refl;
  above = refl;
  variables = refl;
}
