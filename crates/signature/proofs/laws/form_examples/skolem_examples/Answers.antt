use Rattle.std.proofs.Common.{refl}
use Rattle.std.specs.Fmt.{digits}
use Rattle.signature.proofs.laws.form_examples.skolem_examples.Goals as goal

pub returns : goal.returns
unfolding digits
returns c = record {
  clauses = refl;
  symbols = refl;
  both_signs = refl;
  name_bound_again = refl;
  no_spare_constant = refl;
  arguments = refl;
  through_another = refl;
  two = refl;
}
