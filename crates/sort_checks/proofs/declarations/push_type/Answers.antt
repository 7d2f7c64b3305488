use Rattle.typed_tree.specs.Shape.{result_sort}
use Rattle.sort_checks.specs.Lent.{declared_among}
use Rattle.sort_checks.proofs.CauseLemmas.{sort-step}
use Rattle.sort_checks.proofs.declarations.push_type.Goals as goal

pub loop-sort-preserved : goal.loop-sort-preserved
loop-sort-preserved c =
    sort-step (declared_among c.args.table.now) (result_sort c.args.declaration.now.result) c.as_slice-sort-items.result.now c.loop-sort.sort-index c.sort-item.result
    c.loop-sort.causes.items c.push_sort.new.causes.items _ c.loop-sort-test.true c.sort-item.is c.in_ok-push_sort.ensures c.loop-sort.invariant
