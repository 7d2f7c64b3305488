use Rattle.std.proofs.Common.{refl}
use Rattle.laws_meaning.proofs.WorkedExamples.SmallExamples.{no_conjecture_follows, contradiction_follows}
use Rattle.laws_meaning.proofs.laws.examples.conjecture_examples.Goals as goal

pub returns : goal.returns
returns c = record {
  conjecture = refl;
  none = refl;
  no_consequence = no_conjecture_follows;
  consequence = contradiction_follows;
}
