use Rattle.std.proofs.Common.{refl}
use Rattle.signature.proofs.laws.truth_examples.formula_truth_examples.Goals as goal

pub returns : goal.returns
returns c = record {
  left_alone = refl;
  whole = refl;
  some = refl;
}
