use Rattle.std.proofs.Common.{refl}
use Rattle.signature.proofs.laws.prefixes.prefix_examples.Goals as goal

pub returns : goal.returns
returns c = record {
  taken = refl;
  free = refl;
  longer = refl;
}
