use Rattle.std.proofs.Common.{◌≢◌, arith}
use Rattle.pool_history.specs.declared.event.Event.TheVariants.{Claim}
use Rattle.test_pool.proofs.StayLemmas.{stays}
use Rattle.test_pool.proofs.jobs.next_batch_beside.Goals as goal

pub returns-clause-held : goal.returns-clause-held
returns-clause-held g c =
    let after = c.next_batch-batch in
    let differs : after.result.job ≢ c.args.held.now.job = omega arith in
    stays c.args.pool.now.origin after.new.pool.origin c.args.pool.now.history after.new.pool.history (Claim after.result.job)
    c.args.held.now after.ensures.origin after.ensures.history differs c.requires.held
