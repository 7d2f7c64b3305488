use Rattle.partners.proofs.IndexLemmas.{others-then}
use Rattle.partners.proofs.index.take_sites.Goals as goal

pub loop-index-preserved : goal.loop-index-preserved
loop-index-preserved g c =
    others-then c.args.number c.args.tree.now c.loop-index.tree c.take_site.new.tree c.loop-index.invariant c.take_site.ensures
