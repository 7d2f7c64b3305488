use Rattle.std.proofs.Common.{refl}
use Rattle.laws_meaning.proofs.WorkedExamples.SmallExamples.{open_no_form}
use Rattle.laws_meaning.proofs.laws.examples.open_examples.Goals as goal

pub returns : goal.returns
returns c = record {
  closed = refl;
  closed_clause = refl;
  open_formula = refl;
  formula = refl;
  no_form = open_no_form;
}
