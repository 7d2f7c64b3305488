use Rattle.std.proofs.Common.{arith}
use Rattle.term_bank.proofs.RowLemmas.{top-above, top-below, row-top, row-small}
use Rattle.term_bank.proofs.rows.among_shorter.Goals as goal

pub overflow_sub-row : goal.overflow_sub-row
overflow_sub-row c =
    top-above c.args.shifted c.ilog2-row.result c.ilog2-row.ensures.power_le c.ilog2-row.ensures.next_power_gt c.requires.low

pub overflow_sub-result : goal.overflow_sub-result
overflow_sub-result c =
    let low = c.ilog2-row.ensures.power_le in let high = c.ilog2-row.ensures.next_power_gt in
    let above = top-above c.args.shifted c.ilog2-row.result low high c.requires.low in
    let below = top-below c.args.shifted c.ilog2-row.result low high c.requires.high in
    let is = row-top c.ilog2-row.result above in
    let small = row-small c.ilog2-row.result below in omega arith

pub returns-clause-row : goal.returns-clause-row
returns-clause-row c =
    let low = c.ilog2-row.ensures.power_le in let high = c.ilog2-row.ensures.next_power_gt in
    let below = top-below c.args.shifted c.ilog2-row.result low high c.requires.high in omega arith

pub returns-clause-below : goal.returns-clause-below
returns-clause-below c =
    let low = c.ilog2-row.ensures.power_le in let high = c.ilog2-row.ensures.next_power_gt in
    let above = top-above c.args.shifted c.ilog2-row.result low high c.requires.low in
    let below = top-below c.args.shifted c.ilog2-row.result low high c.requires.high in
    let is = row-top c.ilog2-row.result above in
    let small = row-small c.ilog2-row.result below in omega arith

pub returns-clause-place : goal.returns-clause-place
returns-clause-place c =
    let low = c.ilog2-row.ensures.power_le in let high = c.ilog2-row.ensures.next_power_gt in
    let above = top-above c.args.shifted c.ilog2-row.result low high c.requires.low in
    let below = top-below c.args.shifted c.ilog2-row.result low high c.requires.high in
    let is = row-top c.ilog2-row.result above in
    let small = row-small c.ilog2-row.result below in omega arith
