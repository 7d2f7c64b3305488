use Rattle.std.proofs.Common.{refl}
use Rattle.std.specs.Fmt.{digits}
use Rattle.signature.proofs.laws.naming_examples.names_of_names_examples.Goals as goal

pub returns : goal.returns
unfolding digits
returns c = record {
  count = refl;
  first = refl;
  second = refl;
  first_defining = refl;
  last_of_first_name = refl;
  first_of_second_name = refl;
  last = refl;
  no_name = refl;
  no_symbol = refl;
}
