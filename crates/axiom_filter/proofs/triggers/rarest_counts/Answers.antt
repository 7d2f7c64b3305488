use Rattle.axiom_filter.specs.Tables.{least_length}
use Rattle.axiom_filter.proofs.AboutTables.IndexLemmas.{row-below}
use Rattle.axiom_filter.proofs.AboutTables.TriggerLemmas.{mapped-more, mapped-done}
use Rattle.axiom_filter.proofs.triggers.rarest_counts.Goals as goal
use Rattle.std.proofs.Common.{length, ap, ◌∙◌}

pub loop-row-init : goal.loop-row-init
loop-row-init c = c.in_ok-counts.ensures.items

pub rarest_count-requires : goal.rarest_count-requires
rarest_count-requires c = row-below (length c.args.index.now) c.args.rows.now c.loop-row.row-index c.row-item.result c.as_slice.result.now c.requires c.loop-row-test.true c.row-item.is c.as_slice.ensures

pub loop-row-preserved : goal.loop-row-preserved
loop-row-preserved c =
    mapped-more (least_length c.args.index.now) c.args.rows.now c.loop-row.row-index c.row-item.result c.rarest_count.result c.loop-row.counts.items _
    c.loop-row-test.true c.row-item.is c.loop-row.invariant
    (c.rarest_count.ensures ∙ ap (least_length c.args.index.now) c.as_slice.ensures) c.in_ok-push.ensures.items

pub returns : goal.returns
returns c = mapped-done (least_length c.args.index.now) c.args.rows.now c.loop-row.row-index c.loop-row.counts.items c.loop-row-test.false c.loop-row.invariant
