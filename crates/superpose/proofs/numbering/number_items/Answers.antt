use Rattle.std.proofs.Common.{length, refl, arith}
use Rattle.std.proofs.lemmas.Option.{slice_get_read}
use Rattle.superpose.proofs.AboutSteps.NumberingLemmas.{items_met}
use Rattle.superpose.proofs.numbering.number_items.Goals as goal

pub loop-index-preserved : goal.loop-index-preserved
loop-index-preserved g c =
    items_met (g.T.LendsTerms.meaning c.args.bind.now) c.args.items.now c.args.start c.loop-index.index c.index-items-index.result
    c.args.numbers.now c.loop-index.numbers c.number_instance.new.numbers (slice_get_read c.args.items.now (length c.args.items.now) c.loop-index.index c.index-items-index.result refl (omega arith) c.index-items-index.is) c.loop-index.auto.index c.loop-index.invariant
    c.in_ok-number_instance.ensures.met
