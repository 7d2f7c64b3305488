use Rattle.std.proofs.Common.{◌≡◌, ◌+◌, ◌-◌, drop, ap, sym, ◌∙◌, arith}
use Rattle.kernel_steps.specs.Names.{are_sorted}
use Rattle.kernel_steps.proofs.AboutNames.NameSorts.{unsorted-here, sorted-here, are_sorted-last}
use Rattle.pool_core.proofs.sorting.are_sorted.Goals as goal

pub returns-then-rank : goal.returns-then-rank
returns-then-rank c =
    sym
    (unsorted-here c.args.names.now c.loop-index.index _ _ _ _ c.loop-index.invariant.0 c.loop-index-test.true c.rank.ensures
    c.rank-in-loop-index.ensures c.if-rank.true)
    ∙ c.loop-index.invariant.1

pub loop-index-preserved : goal.loop-index-preserved
loop-index-preserved c =
    let i = c.loop-index.index in
    let same : i + 1 - 1 ≡ i = omega arith in (
      omega arith,
      ap (λ j. are_sorted (drop j c.args.names.now)) same
          ∙ sorted-here c.args.names.now i _ _ _ _ c.loop-index.invariant.0 c.loop-index-test.true c.rank.ensures
          c.rank-in-loop-index.ensures c.if-rank.false
          ∙ c.loop-index.invariant.1,
    )

pub returns : goal.returns
returns c = sym (are_sorted-last c.args.names.now c.loop-index.index c.loop-index-test.false) ∙ c.loop-index.invariant.1
