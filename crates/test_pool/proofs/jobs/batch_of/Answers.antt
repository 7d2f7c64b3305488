use Rattle.std.proofs.Common.{ap, ◌∙◌, subst}
use Rattle.pool_history.specs.declared.options.Options.{Options}
use Rattle.given_work.proofs.AboutWhole.LawProofs.{told_for_jobs_are_told, work_makes_right_batches}
use Rattle.given_work.specs.View.{IndexView}
use Rattle.given_work.specs.Working.{IsRightUnder}
use Rattle.given_work.proofs.AboutLearning.TicketLemmas.{given-known}
use Rattle.test_pool.proofs.ToldLemmas.{new-news, knows}
use Rattle.test_pool.proofs.jobs.batch_of.Goals as goal

pub learn-requires-clause-new : goal.learn-requires-clause-new
learn-requires-clause-new c =
    new-news c.args.pool.now c.in_ok-index.index c.options.result c.args.ticket.now c.in_ok-index.ensures c.requires.ticket

pub work-requires-clause-told : goal.work-requires-clause-told
work-requires-clause-told c =
    let pool = c.args.pool.now in
    told_for_jobs_are_told pool.origin pool.history c.args.ticket.now c.in_ok-index-2.index.members c.history-history.ensures.inputs
    c.history-history.ensures.lawful
    (knows pool c.in_ok-index.index c.in_ok-index-2.index c.options.result c.args.ticket.now c.in_ok-index.ensures c.in_ok-index-2.ensures.index c.requires.ticket)

pub work-requires-clause-given : goal.work-requires-clause-given
work-requires-clause-given c =
    let pool = c.args.pool.now in
    given-known pool.origin pool.history c.args.ticket.now c.in_ok-index-2.index.members c.history-history.ensures.inputs c.history-history.ensures.lawful
    (knows pool c.in_ok-index.index c.in_ok-index-2.index c.options.result c.args.ticket.now c.in_ok-index.ensures c.in_ok-index-2.ensures.index c.requires.ticket)

pub returns-clause-right : goal.returns-clause-right
returns-clause-right c =
    let pool = c.args.pool.now in
    let options =
    ap (λ (i : IndexView). i.options) c.in_ok-index-2.ensures.index ∙ ap (λ (i : IndexView). i.options) c.in_ok-index.ensures ∙ c.options.ensures in
    work_makes_right_batches pool.origin pool.history c.args.ticket.now c.in_ok-index-2.index.members c.in_ok-batch.batch c.history-history.ensures.inputs
    c.history-history.ensures.lawful
    (knows pool c.in_ok-index.index c.in_ok-index-2.index c.options.result c.args.ticket.now c.in_ok-index.ensures c.in_ok-index-2.ensures.index c.requires.ticket)
    c.in_ok-batch.ensures.job
    (subst (λ (o : Options). IsRightUnder o c.in_ok-index-2.index.members c.args.ticket.now.number c.args.ticket.now.left c.in_ok-batch.batch.work)
    options c.in_ok-batch.ensures.work)
