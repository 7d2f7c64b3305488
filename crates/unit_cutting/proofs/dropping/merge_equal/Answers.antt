use Rattle.unit_cutting.proofs.AboutLeaving.DroppingLemmas.{merged-dropped}
use Rattle.unit_cutting.proofs.dropping.merge_equal.Goals as goal

pub returns-clause-step : goal.returns-clause-step
returns-clause-step c =
    merged-dropped c.args.reduced.now c.extend.new.reduced c.in_ok-parent.parent c.in-Some.places.stays c.in-Some.places.goes c.in_ok-line.line
    c.in_ok-parent.ensures c.in_ok-line.ensures c.in_ok-extend.ensures.ok
