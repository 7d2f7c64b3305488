use Rattle.std.proofs.Common.{refl}
use Rattle.tptp_reader.proofs.laws.answer_examples.Goals as goal

pub returns : goal.returns
returns c = record {
  whole_clause = refl;
  mixed_connectives = refl;
  negated_inequality = refl;
  truth_as_term = refl;
  empty_notes = refl;
  crossed_notes = refl;
  free_variable = refl;
  unbound = refl;
  unknown_role = refl;
  conjecture_clause = refl;
  too_deep = refl;
  typed_formula = refl;
  left_out_role = refl;
  number_term = refl;
  distinct_term = refl;
  dollar_atom = refl;
  include_entry = refl;
  number_role = refl;
  cut_off = refl;
}
