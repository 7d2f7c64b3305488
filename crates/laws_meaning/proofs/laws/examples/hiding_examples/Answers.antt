use Rattle.std.proofs.Common.{refl}
use Rattle.laws_meaning.proofs.WorkedExamples.SmallExamples.{witness_interprets, witness_extends, witness_form, loop_no_form}
use Rattle.laws_meaning.proofs.laws.examples.hiding_examples.Goals as goal

pub returns : goal.returns
returns c = record {
  formula = refl;
  interprets = witness_interprets;
  extends = witness_extends;
  form = witness_form;
  other_value = loop_no_form;
}
