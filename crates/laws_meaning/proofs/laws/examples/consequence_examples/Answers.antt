use Rattle.std.proofs.Common.{refl}
use Rattle.laws_meaning.proofs.WorkedExamples.SmallExamples.{some_interprets, no_consequence, own_consequence}
use Rattle.laws_meaning.proofs.laws.examples.consequence_examples.Goals as goal

pub returns : goal.returns
returns c = record {
  interprets = some_interprets;
  axioms = refl;
  conjecture = refl;
  no_consequence = no_consequence;
  consequence = own_consequence;
}
