use Rattle.std.proofs.Common.{subst}
use Rattle.pool_history.specs.declared.options.Options.{Options}
use Rattle.given_work.proofs.AboutWhole.LawProofs.{told_for_jobs_are_told, work_makes_right_batches}
use Rattle.given_work.specs.Working.{IsRightUnder}
use Rattle.given_work.proofs.AboutLearning.TicketLemmas.{given-known, news-are-new}
use Rattle.worker_team.specs.Passes.{origin_of, seen_pool}
use Rattle.worker_team.proofs.JobLemmas.{knows-told, prepared}
use Rattle.worker_team.proofs.job.make_batch.Goals as goal

pub learn-requires-clause-new : goal.learn-requires-clause-new
learn-requires-clause-new c =
    news-are-new (seen_pool c.args.pass.now) c.args.index c.args.ticket.now.news c.requires.index.learned c.requires.ticket.answers.news

pub work-requires-clause-told : goal.work-requires-clause-told
work-requires-clause-told c =
    let pass = c.args.pass.now in
    told_for_jobs_are_told (origin_of pass) pass.seen c.args.ticket.now c.in_ok-index.index.members c.requires.pass.inputs c.requires.pass.lawful
    (knows-told c.args.bank.now pass c.args.index c.in_ok-index.index c.args.ticket.now c.requires.index c.requires.ticket c.in_ok-index.ensures.index
    c.in_ok-index.ensures.of_bank)

pub work-requires-clause-given : goal.work-requires-clause-given
work-requires-clause-given c =
    let pass = c.args.pass.now in
    given-known (origin_of pass) pass.seen c.args.ticket.now c.in_ok-index.index.members c.requires.pass.inputs c.requires.pass.lawful
    (knows-told c.args.bank.now pass c.args.index c.in_ok-index.index c.args.ticket.now c.requires.index c.requires.ticket c.in_ok-index.ensures.index
    c.in_ok-index.ensures.of_bank)

pub returns-clause-index : goal.returns-clause-index
returns-clause-index c =
    (prepared c.args.bank.now c.args.pass.now c.args.index c.in_ok-index.index c.args.ticket.now c.requires.index c.requires.ticket
    c.in_ok-index.ensures.index c.in_ok-index.ensures.of_bank).0

pub returns-clause-batch : goal.returns-clause-batch
returns-clause-batch c =
    let pass = c.args.pass.now in
    let ready =
    prepared c.args.bank.now pass c.args.index c.in_ok-index.index c.args.ticket.now c.requires.index c.requires.ticket c.in_ok-index.ensures.index
    c.in_ok-index.ensures.of_bank in
    work_makes_right_batches (origin_of pass) pass.seen c.args.ticket.now c.in_ok-index.index.members c.in_ok-batch.batch c.requires.pass.inputs
    c.requires.pass.lawful
    (knows-told c.args.bank.now pass c.args.index c.in_ok-index.index c.args.ticket.now c.requires.index c.requires.ticket c.in_ok-index.ensures.index
    c.in_ok-index.ensures.of_bank)
    c.in_ok-batch.ensures.job
    (subst (λ (o : Options). IsRightUnder o c.in_ok-index.index.members c.args.ticket.now.number c.args.ticket.now.left c.in_ok-batch.batch.work)
    ready.0.options c.in_ok-batch.ensures.work)
