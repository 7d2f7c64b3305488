use Rattle.std.proofs.Common.{rules}
use Rattle.kernel_steps.proofs.AboutCalls.ParentLemmas.{mapped-one-more, next-passes}
use Rattle.kernel_steps.proofs.parent_numbers.mapped.Goals as goal

pub number-requires : goal.number-requires
number-requires g c =
    next-passes (goal.F-pre g c.args.number.now) (goal.F-post g c.args.number.now) c.args.numbers c.loop-index.index c.index.result.now
    c.loop-index.items.items c.loop-index.invariant c.requires (search rules) c.index.ensures

pub loop-index-preserved : goal.loop-index-preserved
loop-index-preserved g c =
    mapped-one-more (goal.F-pre g c.args.number.now) (goal.F-post g c.args.number.now) c.args.numbers c.loop-index.index c.index.result.now c.number.result
    c.loop-index.items.items c.loop-index.invariant (search rules) c.index.ensures (search rules)
    (next-passes (goal.F-pre g c.args.number.now) (goal.F-post g c.args.number.now) c.args.numbers c.loop-index.index c.index.result.now
    c.loop-index.items.items c.loop-index.invariant c.requires (search rules) c.index.ensures)
    c.number.ensures
