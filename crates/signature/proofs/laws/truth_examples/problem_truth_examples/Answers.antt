use Rattle.std.proofs.Common.{refl}
use Rattle.signature.proofs.laws.truth_examples.problem_truth_examples.Goals as goal

pub returns : goal.returns
returns c = record {
  some = refl;
  all = refl;
  all_from_some = refl;
  some_from_some = refl;
  all_from_all = refl;
  clause = refl;
  clause_with_negation = refl;
}
