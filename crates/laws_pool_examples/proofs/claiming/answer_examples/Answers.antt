use Rattle.laws_pool_examples.proofs.WorkedExamples.AnswerExamples.{idle, nothing_out, saturated, ended, not_saturated, void, not_void, taken, not_taken, first_dead}
use Rattle.laws_pool_examples.proofs.claiming.answer_examples.Goals as goal

pub returns-clause-idle : goal.returns-clause-idle
returns-clause-idle c = idle

pub returns-clause-ended : goal.returns-clause-ended
returns-clause-ended c = ended

pub returns-clause-not_saturated : goal.returns-clause-not_saturated
returns-clause-not_saturated c = not_saturated

pub returns-clause-void : goal.returns-clause-void
returns-clause-void c = void

pub returns-clause-nothing_out : goal.returns-clause-nothing_out
returns-clause-nothing_out c = nothing_out

pub returns-clause-saturated : goal.returns-clause-saturated
returns-clause-saturated c = saturated

pub returns-clause-not_void : goal.returns-clause-not_void
returns-clause-not_void c = not_void

pub returns-clause-taken : goal.returns-clause-taken
returns-clause-taken c = taken

pub returns-clause-not_taken : goal.returns-clause-not_taken
returns-clause-not_taken c = not_taken

pub returns-clause-first_dead : goal.returns-clause-first_dead
returns-clause-first_dead c = first_dead
