use Rattle.std.proofs.Common.{length, rules, refl, subst, arith}
use Rattle.unifier.specs.declared.placing.Sweep.{Sweep}
use Rattle.unifier.specs.Placing.{SweepDone}
use Rattle.unifier.proofs.AboutLayouts.PlacingLemmas.{placing-starts, stuck-at-last}
use Rattle.unifier.proofs.placing.Placing.order.Goals as goal

pub loop-placing-init : goal.loop-placing-init
loop-placing-init c =
    placing-starts c.args.cells.now c.args.classes.now _ (length c.args.cells.now) c.in_ok-with_capacity.ensures.items refl
    (c.in_ok-vec.ensures.items_if_clones_equal (λ y h. search rules)) (omega (arith, c.in_ok-vec.ensures.len, c.in_ok-vec.field-0.ok.0))

pub returns-in-Stuck : goal.returns-in-Stuck
returns-in-Stuck c =
    let D : Sweep → Type 0 = λ s. SweepDone c.args.cells.now c.args.classes.now c.loop-placing.placing c.sweep.new.self s in
    stuck-at-last c.args.cells.now c.args.classes.now c.loop-placing.placing c.sweep.new.self c.in_ok-sweep.ensures.placing (subst D c.in-Stuck.is c.in_ok-sweep.ensures.done)
