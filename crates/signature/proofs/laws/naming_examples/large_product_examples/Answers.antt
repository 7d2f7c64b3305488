use Rattle.std.proofs.Common.{refl}
use Rattle.std.specs.Fmt.{digits}
use Rattle.signature.proofs.laws.naming_examples.large_product_examples.Goals as goal

pub returns : goal.returns
unfolding digits
returns c = record {
  one_clause = refl;
  smallest = refl;
  second_is_longer = refl;
}
