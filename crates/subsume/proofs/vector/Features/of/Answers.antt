use Rattle.fol_base.specs.Lent.{lent_of}
use Rattle.subsume.proofs.AboutSearch.CountingLemmas.{features-more}
use Rattle.subsume.proofs.vector.Features.of.Goals as goal

pub loop-index-preserved : goal.loop-index-preserved
loop-index-preserved g c =
    features-more (g.L.LendsLiterals.meaning c.args.literals.now) c.loop-index.index (lent_of c.literal.result) c.loop-index.features.values
    c.count_literal.new.self.values c.literal.ensures c.loop-index.invariant c.count_literal.ensures
