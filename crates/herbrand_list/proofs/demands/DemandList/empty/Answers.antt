use Rattle.std.proofs.Common.{ℕ, List, length, ap, arith, ◌∙◌}
use Rattle.list_lemmas.proofs.Lists.{length-pushed}
use Rattle.herbrand_list.specs.Worked.{row_at}
use Rattle.herbrand_list.proofs.AboutListing.ListLemmas.{empty-pushed}
use Rattle.herbrand_list.proofs.demands.DemandList.empty.Goals as goal

pub loop-init : goal.loop-init
loop-init c = (ap length c.in_ok-by_line.ensures.items, λ n. ap (λ (rs : List (List ℕ)). row_at rs n) c.in_ok-by_line.ensures.items)

pub loop-preserved : goal.loop-preserved
loop-preserved c = (
  omega (arith, ap length c.in_ok-push.ensures.items, length-pushed c.loop.by_line.items c.new.result, c.loop.invariant.0),
  λ n. ap (λ (rs : List (List ℕ)). row_at rs n) c.in_ok-push.ensures.items
      ∙ empty-pushed c.loop.by_line.items c.new.result c.new.ensures c.loop.invariant.1 n,
)

pub returns-clause-count : goal.returns-clause-count
returns-clause-count c = omega (arith, c.loop.invariant.0, c.loop-test.false)

pub returns-clause-rows : goal.returns-clause-rows
returns-clause-rows c = c.loop.invariant.1
