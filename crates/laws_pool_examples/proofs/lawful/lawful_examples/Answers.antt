use Rattle.laws_pool_examples.proofs.WorkedExamples.MeetingExample.{r_stays, part_stays}
use Rattle.laws_pool_examples.proofs.WorkedExamples.EntryExample.{met}
use Rattle.laws_pool_examples.proofs.WorkedExamples.GoingExample.{rewritten_goes}
use Rattle.laws_pool_examples.proofs.WorkedExamples.LawfulExamples.{tautology_goes, subsumed_goes, given_up, solver_and_clause, log_returned}
use Rattle.laws_pool_examples.proofs.WorkedExamples.CuttingExample.{cut_goes}
use Rattle.laws_pool_examples.proofs.WorkedExamples.SteppingExample.{step_met}
use Rattle.laws_pool_examples.proofs.WorkedExamples.RemovingExample.{removal_met}
use Rattle.laws_pool_examples.proofs.WorkedExamples.DroppingExample.{dropped_met}
use Rattle.laws_pool_examples.proofs.lawful.lawful_examples.Goals as goal

pub returns-clause-tautology : goal.returns-clause-tautology
returns-clause-tautology c = tautology_goes

pub returns-clause-subsumed : goal.returns-clause-subsumed
returns-clause-subsumed c = subsumed_goes

pub returns-clause-given_up : goal.returns-clause-given_up
returns-clause-given_up c = given_up

pub returns-clause-rewritten : goal.returns-clause-rewritten
returns-clause-rewritten c = rewritten_goes

pub returns-clause-solver_and_clause : goal.returns-clause-solver_and_clause
returns-clause-solver_and_clause c = solver_and_clause

pub returns-clause-stays : goal.returns-clause-stays
returns-clause-stays c = r_stays

pub returns-clause-model : goal.returns-clause-model
returns-clause-model c = part_stays

pub returns-clause-log : goal.returns-clause-log
returns-clause-log c = log_returned

pub returns-clause-met : goal.returns-clause-met
returns-clause-met c = met

pub returns-clause-cut_goes : goal.returns-clause-cut_goes
returns-clause-cut_goes c = cut_goes

pub returns-clause-one_step : goal.returns-clause-one_step
returns-clause-one_step c = step_met

pub returns-clause-dropped : goal.returns-clause-dropped
returns-clause-dropped c = dropped_met

pub returns-clause-removes : goal.returns-clause-removes
returns-clause-removes c = removal_met
