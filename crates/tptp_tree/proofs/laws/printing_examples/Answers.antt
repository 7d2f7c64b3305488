use Rattle.std.proofs.Common.{refl}
use Rattle.tptp_tree.proofs.laws.printing_examples.Goals as goal

pub returns : goal.returns
returns c = record {
  bound_implication = refl;
  negated_conjunction = refl;
  negated_equation = refl;
  bare_operands = refl;
}
