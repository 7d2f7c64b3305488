use Rattle.tptp_problem.proofs.AboutReading.SpelledLemmas.{problem-spelled, one-spelled}
use Rattle.tptp_problem.proofs.laws.formulas_are_spelled.Goals as goal

pub returns : goal.returns
returns c = record { spelled = problem-spelled; one = one-spelled }
