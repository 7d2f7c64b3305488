use Rattle.std.proofs.Common.{Option, length, refl, subst}
use Rattle.unifier.specs.declared.placing.Placing.{Placing}
use Rattle.unifier.specs.Placing.{IsOrdering}
use Rattle.unifier.proofs.AboutClasses.ClassLemmas.{when-true, when-false}
use Rattle.unifier.proofs.AboutEquations.SolvedLemmas.{Given, given-refuted, given-stuck, given-solved, given-in-order}
use Rattle.unifier.proofs.AboutLayouts.BoundLemmas.{relocated-passes}
use Rattle.unifier.proofs.solving.solve.Goals as goal

pub returns-then-not-branch : goal.returns-then-not-branch
returns-then-not-branch c =
    let given : Given c.args.layout.now c.args.first c.args.second c.as_slice-cells.result.now (length c.as_slice-cells.result.now) c.in_ok-classes.classes =
    record {
      is_layout = c.requires.layout;
      kinds = c.requires.kinds;
      first_inside = c.requires.first;
      second_inside = c.requires.second;
      slice = c.as_slice-cells.ensures.value;
      count = refl;
      discrete = c.in_ok-classes.ensures.discrete;
    } in
    given-refuted c.args.layout.now c.args.first c.args.second _ _ _ given (when-false _ _ _ c.in_ok-close.ensures c.if-not-branch.true)

pub returns-in-None : goal.returns-in-None
returns-in-None c =
    let given : Given c.args.layout.now c.args.first c.args.second c.as_slice-cells.result.now (length c.as_slice-cells.result.now) c.in_ok-classes.classes =
    record {
      is_layout = c.requires.layout;
      kinds = c.requires.kinds;
      first_inside = c.requires.first;
      second_inside = c.requires.second;
      slice = c.as_slice-cells.ensures.value;
      count = refl;
      discrete = c.in_ok-classes.ensures.discrete;
    } in
    let P : Option Placing → Type 0 = λ o. IsOrdering c.as_slice-cells.result.now c.close.new.self o in
    given-stuck c.args.layout.now c.args.first c.args.second _ _ _ c.close.new.self given (when-true _ _ _ c.in_ok-close.ensures c.if-not-branch.false) (subst P c.in-None.is c.in_ok-order.ensures)

pub returns : goal.returns
returns c =
    let given : Given c.args.layout.now c.args.first c.args.second c.as_slice-cells.result.now (length c.as_slice-cells.result.now) c.in_ok-classes.classes =
    record {
      is_layout = c.requires.layout;
      kinds = c.requires.kinds;
      first_inside = c.requires.first;
      second_inside = c.requires.second;
      slice = c.as_slice-cells.ensures.value;
      count = refl;
      discrete = c.in_ok-classes.ensures.discrete;
    } in
    let P : Option Placing → Type 0 = λ o. IsOrdering c.as_slice-cells.result.now c.close.new.self o in (
      refl,
      given-solved c.args.layout.now c.args.first c.args.second _ _ _ c.close.new.self c.in-Some.placing _ _ given (when-true _ _ _ c.in_ok-close.ensures c.if-not-branch.false)
          (subst P c.in-Some.is c.in_ok-order.ensures) c.as_slice.ensures.value c.in_ok-places-in-Some.ensures,
      relocated-passes c.close.new.self c.in-Some.placing _ _ _ c.as_slice.ensures.value c.in_ok-places-in-Some.ensures,
    )

pub invariant_of-result : goal.invariant_of-result
invariant_of-result c =
    let given : Given c.args.layout.now c.args.first c.args.second c.as_slice-cells.result.now (length c.as_slice-cells.result.now) c.in_ok-classes.classes =
    record {
      is_layout = c.requires.layout;
      kinds = c.requires.kinds;
      first_inside = c.requires.first;
      second_inside = c.requires.second;
      slice = c.as_slice-cells.ensures.value;
      count = refl;
      discrete = c.in_ok-classes.ensures.discrete;
    } in
    let P : Option Placing → Type 0 = λ o. IsOrdering c.as_slice-cells.result.now c.close.new.self o in
    record {
      in_order =
          given-in-order c.args.layout.now c.args.first c.args.second _ _ _ c.close.new.self c.in-Some.placing _ _ given (when-true _ _ _ c.in_ok-close.ensures c.if-not-branch.false)
          (subst P c.in-Some.is c.in_ok-order.ensures) c.as_slice.ensures.value c.in_ok-places-in-Some.ensures;
    }
