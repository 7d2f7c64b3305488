use Rattle.std.proofs.Common.{refl}
use Rattle.tptp_source.proofs.laws.source_examples.Goals as goal

pub returns : goal.returns
returns c = record {
  file = refl;
  inference = refl;
  empty_lists = refl;
  definitions = (refl, refl);
  parent_with_arguments = refl;
  signed_file_name = refl;
  fraction_as_name = refl;
  definition_with_arguments = refl;
}
