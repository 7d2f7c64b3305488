use Rattle.clausal_form.proofs.AboutNaming.PairLemmas.{single-listed, single-written}
use Rattle.clausal_form.proofs.naming.single.Goals as goal

pub returns-clause-list : goal.returns-clause-list
returns-clause-list c = single-listed _ _ _ c.new-members.ensures c.in_ok-push.ensures.ok

pub returns-clause-product : goal.returns-clause-product
returns-clause-product c = single-written _ _ _ c.new-members.ensures c.in_ok-push.ensures.ok
