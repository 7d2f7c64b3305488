use Rattle.std.proofs.Common.{refl}
use Rattle.tptp_source.proofs.laws.item_examples.Goals as goal

pub returns : goal.returns
returns c = record {
  sides = (refl, refl);
  signed_names = (refl, refl, refl);
  decimals = (refl, refl, refl);
  no_decimals = (refl, refl, refl, refl);
  number_lists = (refl, refl);
  formula_terms = (refl, refl);
}
