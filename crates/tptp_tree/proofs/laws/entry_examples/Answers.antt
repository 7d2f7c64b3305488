use Rattle.std.proofs.Common.{refl}
use Rattle.tptp_tree.proofs.laws.entry_examples.Goals as goal

pub returns : goal.returns
returns c = record {
  clause_tokens = refl;
  clause_meaning = refl;
  one_literal = refl;
  clause_levels = refl;
  open_tokens = refl;
  open_causes = refl;
  one_name = refl;
  roles = refl;
  formula_roles = refl;
  unknown_role = refl;
  left_out_role = refl;
  balanced = refl;
  crossed = refl;
  entry_of_truth = refl;
  negative_sign = refl;
}
