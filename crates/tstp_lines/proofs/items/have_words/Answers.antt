use Rattle.std.proofs.Common.{◌∷◌, map}
use Rattle.std.specs.Prelude.{codes}
use Rattle.tstp_lines.specs.Items.{item_word}
use Rattle.tstp_lines.proofs.AboutItems.ItemLemmas.{asked-skip, asked-none, asked-next, asked-end}
use Rattle.tstp_lines.proofs.items.have_words.Goals as goal

pub loop-item-preserved-then-not-is_of_row : goal.loop-item-preserved-then-not-is_of_row
loop-item-preserved-then-not-is_of_row c =
    asked-skip c.loop-item.left.now (codes "status" ∷ map item_word c.args.words.now) c.args.items.now c.loop-item.item-index c.item-item.result _
    c.loop-item-test.true c.item-item.is c.if-not-is_of_row.ensures c.loop-item.invariant

pub returns-in_default : goal.returns-in_default
returns-in_default c =
    asked-none c.loop-item.left.now (codes "status" ∷ map item_word c.args.words.now) c.args.items.now c.loop-item.item-index c.item-item.result _
    (rw c.in_default.is at c.split_first.ensures.cases) c.loop-item-test.true c.item-item.is c.if-not-is_of_row.ensures c.loop-item.invariant

pub returns-then-not-has_word : goal.returns-then-not-has_word
returns-then-not-has_word c =
    asked-next c.in-Some.word.now _ c.loop-item.left.now c.in-Some.others.now (codes "status" ∷ map item_word c.args.words.now) c.args.items.now
    c.loop-item.item-index c.item-item.result _ _ c.loop-item-test.true c.item-item.is c.if-not-is_of_row.ensures c.in-Some.ensures.cases.0
    c.bytes.ensures c.if-not-has_word.ensures c.loop-item.invariant

pub loop-item-preserved : goal.loop-item-preserved
loop-item-preserved c =
    asked-next c.in-Some.word.now _ c.loop-item.left.now c.in-Some.others.now (codes "status" ∷ map item_word c.args.words.now) c.args.items.now
    c.loop-item.item-index c.item-item.result _ _ c.loop-item-test.true c.item-item.is c.if-not-is_of_row.ensures c.in-Some.ensures.cases.0
    c.bytes.ensures c.if-not-has_word.ensures c.loop-item.invariant

pub returns : goal.returns
returns c =
    asked-end c.loop-item.left.now (codes "status" ∷ map item_word c.args.words.now) c.args.items.now c.loop-item.item-index _ _
    c.loop-item-test.false c.is_empty.ensures c.loop-item.invariant
