use Rattle.clausal_form.proofs.AboutDerivations.RefutationLemmas.{taken_lines_are_steps, taken_lines_are_grounded, accepted_lines_refute}
use Rattle.clausal_form.proofs.laws.derivations.taken_lines_are_steps.Goals as goal

pub returns-clause-steps : goal.returns-clause-steps
returns-clause-steps c = taken_lines_are_steps

pub returns-clause-grounded : goal.returns-clause-grounded
returns-clause-grounded c = taken_lines_are_grounded

pub returns-clause-refutation : goal.returns-clause-refutation
returns-clause-refutation c = accepted_lines_refute
