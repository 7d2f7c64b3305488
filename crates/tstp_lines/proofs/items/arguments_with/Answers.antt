use Rattle.std.proofs.Common.{map}
use Rattle.tstp_lines.specs.Items.{item_word}
use Rattle.tstp_lines.proofs.AboutItems.ItemLemmas.{argument-added, argument-skipped, arguments-end}
use Rattle.tstp_lines.proofs.items.arguments_with.Goals as goal

pub loop-item-preserved-then-not-has_one_of : goal.loop-item-preserved-then-not-has_one_of
loop-item-preserved-then-not-has_one_of c =
    argument-skipped (map item_word c.args.words.now) c.args.items.now c.loop-item.item-index c.item-item.result (c.loop-item.row).items _
    c.loop-item-test.true c.item-item.is c.if-not-has_one_of.ensures c.loop-item.invariant

pub loop-item-preserved : goal.loop-item-preserved
loop-item-preserved c =
    argument-added (map item_word c.args.words.now) c.args.items.now c.loop-item.item-index c.item-item.result (c.loop-item.row).items _ _ _
    c.loop-item-test.true c.item-item.is c.if-not-has_one_of.ensures c.arguments.ensures c.in_ok-push.ensures.items c.loop-item.invariant

pub returns : goal.returns
returns c =
    arguments-end (map item_word c.args.words.now) c.args.items.now c.loop-item.item-index (c.loop-item.row).items _ c.loop-item-test.false
    c.loop-item.invariant
