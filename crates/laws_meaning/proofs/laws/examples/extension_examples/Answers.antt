use Rattle.laws_meaning.proofs.WorkedExamples.SmallExamples.{other_size, other_p, other_r}
use Rattle.laws_meaning.proofs.laws.examples.extension_examples.Goals as goal

pub returns : goal.returns
returns c = record {
  other_size = other_size;
  other_p = other_p;
  other_r = other_r;
}
