use Rattle.std.proofs.Common.{refl}
use Rattle.tptp_source.proofs.laws.term_examples.Goals as goal

pub returns : goal.returns
returns c = record {
  phrase_tokens = refl;
  phrase_meaning = refl;
  signed_names = refl;
  joined_parts = refl;
  one_word = refl;
  arguments_behind_tilde = refl;
  empty_arguments = refl;
  other_bracket = refl;
  two_terms = refl;
  no_part_behind_colon = refl;
}
