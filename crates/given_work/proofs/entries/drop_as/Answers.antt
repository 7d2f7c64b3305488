use Rattle.given_work.proofs.AboutBatches.DroppedLemmas.{known-more}
use Rattle.given_work.proofs.entries.drop_as.Goals as goal

pub returns-clause-dropped : goal.returns-clause-dropped
returns-clause-dropped c = λ es us ms all one.
    known-more es us ms c.args.dropped.now c.put.new.self c.args.clause c.args.cause c.in_ok-put.ensures all one
