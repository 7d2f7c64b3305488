use Rattle.congruence.proofs.AboutClasses.KeyLemmas.{lists-met, place-met}
use Rattle.congruence.proofs.keys.Keys.meet.Goals as goal

pub returns-clause-keys : goal.returns-clause-keys
returns-clause-keys c = lists-met c.args.key c.self.inside.keys.keys _ _ c.self.view_is c.in_ok-place.ensures.keys

pub returns-clause-place : goal.returns-clause-place
returns-clause-place c = place-met c.args.key c.self.inside.keys.keys _ _ c.self.view_is c.in_ok-place.ensures.index
