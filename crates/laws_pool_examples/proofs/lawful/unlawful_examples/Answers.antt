use Rattle.laws_pool_examples.proofs.WorkedExamples.EntryExample.{itself_left_out, partner_left_out, met_twice}
use Rattle.laws_pool_examples.proofs.WorkedExamples.LawfulExamples.{number_twice, number_of_solver, number_given_up, justifier_lives, solver_first, nothing_to_solve, not_out, not_void, never_given, justifier_missing, wrong_model, short_model, wrong_log}
use Rattle.laws_pool_examples.proofs.lawful.unlawful_examples.Goals as goal

pub returns-clause-number_twice : goal.returns-clause-number_twice
returns-clause-number_twice c = number_twice

pub returns-clause-solver_first : goal.returns-clause-solver_first
returns-clause-solver_first c = solver_first

pub returns-clause-nothing_to_solve : goal.returns-clause-nothing_to_solve
returns-clause-nothing_to_solve c = nothing_to_solve

pub returns-clause-not_out : goal.returns-clause-not_out
returns-clause-not_out c = not_out

pub returns-clause-wrong_model : goal.returns-clause-wrong_model
returns-clause-wrong_model c = wrong_model

pub returns-clause-short_model : goal.returns-clause-short_model
returns-clause-short_model c = short_model

pub returns-clause-wrong_log : goal.returns-clause-wrong_log
returns-clause-wrong_log c = wrong_log

pub returns-clause-not_void : goal.returns-clause-not_void
returns-clause-not_void c = not_void

pub returns-clause-never_given : goal.returns-clause-never_given
returns-clause-never_given c = never_given

pub returns-clause-justifier_missing : goal.returns-clause-justifier_missing
returns-clause-justifier_missing c = justifier_missing

pub returns-clause-number_of_solver : goal.returns-clause-number_of_solver
returns-clause-number_of_solver c = number_of_solver

pub returns-clause-number_given_up : goal.returns-clause-number_given_up
returns-clause-number_given_up c = number_given_up

pub returns-clause-justifier_lives : goal.returns-clause-justifier_lives
returns-clause-justifier_lives c = justifier_lives

pub returns-clause-itself_left_out : goal.returns-clause-itself_left_out
returns-clause-itself_left_out c = itself_left_out

pub returns-clause-partner_left_out : goal.returns-clause-partner_left_out
returns-clause-partner_left_out c = partner_left_out

pub returns-clause-met_twice : goal.returns-clause-met_twice
returns-clause-met_twice c = met_twice
