use Rattle.std.proofs.Common.{refl}
use Rattle.formula_nnf.proofs.laws.clause_count_examples.Goals as goal

pub returns : goal.returns
returns c = record {
  equivalence = refl;
  named = refl;
  unnamed = refl;
}
