use Rattle.unit_cutting.proofs.AboutCuts.CutByLemmas.{went-on}
use Rattle.unit_cutting.proofs.cutting.cut_by.Goals as goal

pub returns-in_ok-extend-in-Some-clause-step : goal.returns-in_ok-extend-in-Some-clause-step
returns-in_ok-extend-in-Some-clause-step c =
    went-on c.args.unit.now c.args.reduced.now c.extend.new.reduced c.in-Some.lines c.in_ok-number.number c.in_ok-number.ensures
    (rw c.in-Some.is at c.in_ok-find_lines.ensures) c.in_ok-extend-in-Some.ensures.ok
