use Rattle.std.proofs.Common.{◌≢◌, arith}
use Rattle.pool_history.specs.declared.event.Event.TheVariants.{Return}
use Rattle.test_pool.proofs.StayLemmas.{stays}
use Rattle.test_pool.proofs.jobs.take_beside.Goals as goal

pub returns-clause-held : goal.returns-clause-held
returns-clause-held g c =
    let differs : c.args.batch.job ≢ c.args.held.now.job = omega arith in
    stays c.args.pool.now.origin c.take.new.pool.origin c.args.pool.now.history c.take.new.pool.history (Return c.args.batch) c.args.held.now
    c.take.ensures.origin c.take.ensures.history differs c.requires.held
