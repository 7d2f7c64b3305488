use Rattle.tptp_problem.proofs.AboutReading.OutcomeLemmas.{problem-one, problem-or-fault, problem-fault-one}
use Rattle.tptp_problem.proofs.laws.one_outcome.Goals as goal

pub returns : goal.returns
returns c = record { one_problem = problem-one; problem_or_fault = problem-or-fault; one_fault = problem-fault-one }
