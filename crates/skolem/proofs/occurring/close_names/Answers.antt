use Rattle.std.proofs.Common.{refl}
use Rattle.std.proofs.lemmas.List.{take_all}
use Rattle.std.proofs.Common.{arith, length}
use Rattle.skolem.specs.declared.bound_term.BoundTerm.TheVariants.{Closed}
use Rattle.skolem.proofs.AboutBindings.ListLemmas.{take-kept}
use Rattle.skolem.proofs.AboutBindings.OccurringLemmas.{closed-then}
use Rattle.skolem.proofs.AboutBindings.PlaceLemmas.{closed-all, closed-push}
use Rattle.skolem.proofs.occurring.close_names.Goals as goal

pub loop-name-init : goal.loop-name-init
loop-name-init c = (refl, (take_all (length c.args.bindings.now) c.args.bindings.now (omega arith), closed-all c.args.bindings.now _ refl))

pub loop-name-preserved : goal.loop-name-preserved
loop-name-preserved c = (
  closed-then c.args.names.now c.loop-name.name-index c.name-item.result (record { name = c.name-item.result; term = Closed })
      c.loop-name.bindings c.push.new.self _ c.loop-name-test.true c.name-item.is refl refl c.in_ok-push.ensures
      c.loop-name.invariant.0,
  (
    take-kept c.args.bindings.now c.loop-name.bindings _ _ c.loop-name.invariant.1.0 c.in_ok-push.ensures c.loop-name.invariant.1.1.within,
    closed-push _ c.loop-name.bindings c.push.new.self _ c.in_ok-push.ensures c.loop-name.invariant.1.1,
  ),
)
