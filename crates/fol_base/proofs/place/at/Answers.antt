use Rattle.fol_base.proofs.AboutInstances.PlaceLemmas.{subterm_step, subterm_stop}
use Rattle.fol_base.proofs.place.at.Goals as goal

pub loop-number-preserved : goal.loop-number-preserved
loop-number-preserved c = subterm_step _ _ _ _ _ c.loop-number-test.true c.loop-number.invariant c.in-Some.ensures

pub returns-in-None : goal.returns-in-None
returns-in-None c = subterm_stop _ _ _ _ c.loop-number-test.true c.loop-number.invariant c.in-None.ensures
