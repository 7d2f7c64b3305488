use Rattle.tptp_problem.proofs.AboutFiles.NameSetLemmas.{has-next}
use Rattle.tptp_problem.proofs.name_set.set_of.Goals as goal

pub loop-name-preserved : goal.loop-name-preserved
loop-name-preserved c =
    has-next c.args.names.now c.loop-name.name-index c.loop-name.set c.insert.new.self (record { bytes = c.as_slice.result }) c.name-item.result c.loop-name-test.true
    c.as_slice.ensures c.name-item.is c.loop-name.invariant c.in_ok-insert.ensures.updates.0
