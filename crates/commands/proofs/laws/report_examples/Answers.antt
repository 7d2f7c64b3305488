use Rattle.std.proofs.Common.{refl}
use Rattle.std.specs.Fmt.{digits}
use Rattle.commands.proofs.laws.report_examples.Goals as goal

pub returns : goal.returns
unfolding digits
returns c = record {
  theorem = refl;
  unsatisfiable = refl;
  accepted = refl;
  spent = refl;
  syntax = refl;
  too_heavy = refl;
  heavy = refl;
  problem_lost = refl;
  derivation_lost = refl;
  memory_out = refl;
  lost_under_a_name_of_other_bytes = refl;
  typed = refl;
  refused = refl;
  unknown = refl;
  counter_satisfiable = refl;
  satisfiable = refl;
  model = refl;
  empty_list = refl;
  names = refl;
  large = refl;
  not_ground = refl;
  form_refuted = refl;
  form_true = refl;
  bench = refl;
  no_model = refl;
  too_large = refl;
}
