use Rattle.unit_cutting.proofs.AboutLeaving.DroppingLemmas.{dropped}
use Rattle.unit_cutting.proofs.dropping.drop_trivial.Goals as goal

pub returns-clause-step : goal.returns-clause-step
returns-clause-step c =
    dropped c.args.reduced.now c.extend.new.reduced c.in_ok-parent.parent c.in-Some.index c.in_ok-line.line c.in_ok-parent.ensures c.in_ok-line.ensures
    c.in_ok-extend.ensures.ok
