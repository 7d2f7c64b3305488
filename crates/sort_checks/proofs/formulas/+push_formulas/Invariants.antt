use Rattle.std.proofs.Common.{◌≡◌, ◌+◌, ◌*◌, ◌++◌, map, drop, []}
use Rattle.typed_tree.specs.Shape.{typed_of}
use Rattle.typed_tree.specs.TypedFormula.{typed_size, all_typed_size, trees_of}
use Rattle.typed_problem.specs.SortFaults.{formulas_causes}
use Rattle.sort_checks.specs.Lent.{declared_among}
use Rattle.sort_checks.proofs.formulas.+push_formulas.Given as goal

abbrev pub decreases-push_formula : goal.decreases-push_formula
decreases-push_formula l = 2 * typed_size (typed_of l.formula.now)

abbrev pub decreases-push_formulas : goal.decreases-push_formulas
decreases-push_formulas l = 2 * all_typed_size (trees_of (map typed_of l.formulas.now)) + 1

abbrev pub invariant-push_formulas-loop-formula : goal.invariant-push_formulas-loop-formula
invariant-push_formulas-loop-formula l = record {
  causes :
      l.causes.items ++ formulas_causes (declared_among l.table) l.initial.scope (trees_of (map typed_of (drop l.formula-index l.formulas))) []
      ≡ l.initial.causes.items ++ formulas_causes (declared_among l.table) l.initial.scope (trees_of (map typed_of l.formulas)) [];
  scope : l.scope ≡ l.initial.scope;
}
