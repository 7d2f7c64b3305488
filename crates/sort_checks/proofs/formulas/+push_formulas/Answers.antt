use Rattle.std.proofs.Common.{◌≡◌, List, ◌++◌, length, map, [], ⊎_elim, refl, ap, ◌∙◌, arith}
use Rattle.std.proofs.lemmas.Result.{on_ok_weaker}
use Rattle.tptp_tree.specs.Formula.{BinaryConnective, implies, implied, equivalent, different, nor, nand, Quantifier, for_all, exists_some}
use Rattle.typed_tree.specs.Shape.{typed_of, variable_of}
use Rattle.typed_tree.specs.TypedFormula.{TypedVariable, connected, quantified}
use Rattle.typed_problem.specs.SortFaults.{variables_causes, inside, formula_causes}
use Rattle.sort_checks.specs.Lent.{declared_among}
use Rattle.sort_checks.proofs.CauseLemmas.{formula-step}
use Rattle.sort_checks.proofs.PushLemmas.{formula-item-is, predicate-pushed, quantifier-pushed, pair-pushed}
use Rattle.sort_checks.proofs.ScopeLemmas.{scope-again}
use Rattle.sort_checks.proofs.formulas.+push_formulas.Goals as goal

pub push_formula-returns-in_ok-push-in-Pred-clause-causes : goal.push_formula-returns-in_ok-push-in-Pred-clause-causes
push_formula-returns-in_ok-push-in-Pred-clause-causes t c =
    on_ok_weaker c.push_arguments.result
    (predicate-pushed (declared_among c.args.table.now) c.args.scope.now c.as_slice.result.now c.in-Pred.name (length c.as_slice-terms.result.now)
    c.as_slice-terms.result.now c.in-Pred.arguments c.predicate-declaration.result (typed_of c.args.formula.now) c.args.causes.now.items
    c.push.new.self.items c.push_arguments.new.causes.items (ap typed_of c.in-Pred.is) c.as_slice.ensures c.as_slice-terms.ensures refl
    c.predicate-declaration.ensures c.in_ok-push-in-Pred.ensures.items)
    c.push_arguments.ensures

pub push_formulas-push_formula-requires : goal.push_formulas-push_formula-requires
push_formulas-push_formula-requires t c = (omega (arith, formula-item-is _ _ _ c.loop-formula-test.true c.formula-item.is, c.decreases), tt)

pub push_formulas-loop-formula-preserved : goal.push_formulas-loop-formula-preserved
push_formulas-loop-formula-preserved t c = record {
  causes =
      formula-step (declared_among c.args.table.now) c.args.scope.now c.args.formulas.now c.loop-formula.formula-index c.formula-item.result
      c.loop-formula.causes.items c.push_formula.new.causes.items _ c.loop-formula-test.true c.formula-item.is
      (c.in_ok-push_formula.ensures.causes
      ∙ ap (λ Γ. c.loop-formula.causes.items ++ formula_causes (declared_among c.args.table.now) Γ (typed_of c.formula-item.result) []) c.loop-formula.invariant.scope)
      c.loop-formula.invariant.causes;
  scope = c.in_ok-push_formula.ensures.scope ∙ c.loop-formula.invariant.scope;
}

pub push_formula-returns-in_ok-push_formula-in-All-clause-causes : goal.push_formula-returns-in_ok-push_formula-in-All-clause-causes
push_formula-returns-in_ok-push_formula-in-All-clause-causes t c =
    let ds = declared_among c.args.table.now in
    let xs : List TypedVariable = map variable_of c.in-All.variables in
    let pushed : (q : Quantifier) → typed_of c.args.formula.now ≡ quantified q xs c.in-All.body
    → c.push_formula-in-All.new.causes.items ≡ c.args.causes.now.items ++ formula_causes ds c.args.scope.now (typed_of c.args.formula.now) [] = λ q is.
    quantifier-pushed ds c.args.scope.now c.push_variables.new.scope q xs c.in-All.body (typed_of c.get-in-All.result.now) (typed_of c.args.formula.now)
    c.args.causes.now.items c.push_variables.new.causes.items c.push_formula-in-All.new.causes.items is c.get-in-All.ensures
    (c.in_ok-push_variables-in-All.ensures.scope ∙ ap (λ ys. inside (map variable_of ys) c.args.scope.now) c.as_slice-in-All.ensures)
    (c.in_ok-push_variables-in-All.ensures.causes
    ∙ ap (λ ys. c.args.causes.now.items ++ variables_causes ds (map variable_of ys) []) c.as_slice-in-All.ensures)
    c.in_ok-push_formula-in-All.ensures.causes in
    ⊎_elim (λ w. pushed for_all (ap typed_of w)) (λ w. pushed exists_some (ap typed_of w)) c.in-All.is

pub push_formula-returns-in_ok-push_formula-in-All-clause-scope : goal.push_formula-returns-in_ok-push_formula-in-All-clause-scope
push_formula-returns-in_ok-push_formula-in-All-clause-scope t c =
    scope-again (map variable_of c.as_slice-in-All.result.now) c.args.scope.now c.push_formula-in-All.new.scope c.truncate.new.self c.len-outer.result
    (c.in_ok-push_formula-in-All.ensures.scope ∙ c.in_ok-push_variables-in-All.ensures.scope) c.len-outer.ensures c.truncate.ensures

pub push_formula-returns-in_ok-push_formula-in-Implies-clause-causes : goal.push_formula-returns-in_ok-push_formula-in-Implies-clause-causes
push_formula-returns-in_ok-push_formula-in-Implies-clause-causes t c =
    let ds = declared_among c.args.table.now in
    let by : (k : BinaryConnective) → typed_of c.args.formula.now ≡ connected k c.in-Implies.left c.in-Implies.right
    → formula_causes ds c.args.scope.now (typed_of c.args.formula.now) []
    ≡ formula_causes ds c.args.scope.now c.in-Implies.left (formula_causes ds c.args.scope.now c.in-Implies.right []) = λ k e.
    ap (λ u. formula_causes ds c.args.scope.now u []) e in
    let is : formula_causes ds c.args.scope.now (typed_of c.args.formula.now) []
    ≡ formula_causes ds c.args.scope.now c.in-Implies.left (formula_causes ds c.args.scope.now c.in-Implies.right []) =
    ⊎_elim (λ w. by implies (ap typed_of w))
    (⊎_elim (λ w. by implied (ap typed_of w))
    (⊎_elim (λ w. by equivalent (ap typed_of w))
    (⊎_elim (λ w. by different (ap typed_of w)) (⊎_elim (λ w. by nor (ap typed_of w)) (λ w. by nand (ap typed_of w)))))) c.in-Implies.is in
    on_ok_weaker c.push_formula-in-Implies-2.result
    (pair-pushed ds c.args.scope.now c.push_formula-in-Implies.new.scope c.in-Implies.left c.in-Implies.right (typed_of c.get-in-Implies.result.now)
    (typed_of c.get-in-Implies-2.result.now) (typed_of c.args.formula.now) c.args.causes.now.items c.push_formula-in-Implies.new.causes.items
    c.push_formula-in-Implies-2.new.causes.items is c.get-in-Implies.ensures c.get-in-Implies-2.ensures c.in_ok-push_formula-in-Implies.ensures.scope
    c.in_ok-push_formula-in-Implies.ensures.causes)
    c.push_formula-in-Implies-2.ensures.causes
