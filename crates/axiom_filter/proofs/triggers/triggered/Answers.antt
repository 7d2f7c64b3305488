use Rattle.std.proofs.Common.{length, ap, ◌∙◌}
use Rattle.axiom_filter.specs.Tables.{rare_enough}
use Rattle.axiom_filter.proofs.AboutTables.IndexLemmas.{row-below}
use Rattle.axiom_filter.proofs.AboutTables.TriggerLemmas.{mapped-more, mapped-done}
use Rattle.axiom_filter.proofs.triggers.triggered.Goals as goal

pub loop-places-init : goal.loop-places-init
loop-places-init c = c.in_ok-lists.ensures.items

pub triggered_by-requires : goal.triggered_by-requires
triggered_by-requires c = row-below (length c.args.rarest.now) c.args.index.now c.loop-places.places-index c.places-item.result c.as_slice.result.now c.requires c.loop-places-test.true c.places-item.is c.as_slice.ensures

pub loop-places-preserved : goal.loop-places-preserved
loop-places-preserved c =
    mapped-more (rare_enough c.args.tolerance c.args.rarest.now) c.args.index.now c.loop-places.places-index c.places-item.result c.in_ok-triggered_by.field-0 c.loop-places.lists.items _
    c.loop-places-test.true c.places-item.is c.loop-places.invariant
    (c.in_ok-triggered_by.ensures ∙ ap (rare_enough c.args.tolerance c.args.rarest.now) c.as_slice.ensures) c.in_ok-push.ensures.items

pub returns : goal.returns
returns c = mapped-done (rare_enough c.args.tolerance c.args.rarest.now) c.args.index.now c.loop-places.places-index c.loop-places.lists.items c.loop-places-test.false c.loop-places.invariant
