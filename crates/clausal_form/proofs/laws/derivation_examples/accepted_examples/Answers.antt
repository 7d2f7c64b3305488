use Rattle.std.proofs.Common.{refl}
use Rattle.std.specs.Fmt.{digits}
use Rattle.clausal_form.proofs.laws.derivation_examples.accepted_examples.Goals as goal

pub returns : goal.returns
unfolding digits
returns c = record {
  units = refl;
  implication = refl;
  rewrites = refl;
  merging = refl;
  spare_constant = refl;
  other_variable = refl;
  components = refl;
  signed_names = refl;
}
