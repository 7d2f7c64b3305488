use Rattle.std.proofs.Common.{refl}
use Rattle.std.specs.Fmt.{digits}
use Rattle.signature.proofs.laws.naming_examples.name_arguments_examples.Goals as goal

pub returns : goal.returns
unfolding digits
returns c = record {
  count = refl;
  first = refl;
  second = refl;
  defining = refl;
  first_of_equally_long = refl;
  in_order = refl;
}
