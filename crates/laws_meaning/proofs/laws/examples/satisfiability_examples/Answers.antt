use Rattle.std.proofs.Common.{refl}
use Rattle.laws_meaning.proofs.WorkedExamples.SmallExamples.{contradiction_unsatisfiable, every_p_satisfiable, all_equal_satisfiable, axioms_satisfiable}
use Rattle.laws_meaning.proofs.laws.examples.satisfiability_examples.Goals as goal

pub returns : goal.returns
returns c = record {
  unsatisfiable = contradiction_unsatisfiable;
  satisfiable = every_p_satisfiable;
  by_one_value = all_equal_satisfiable;
  not_by_two_values = refl;
  conjecture_is_no_axiom = axioms_satisfiable;
}
