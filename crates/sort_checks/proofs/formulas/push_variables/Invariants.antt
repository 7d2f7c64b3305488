use Rattle.std.proofs.Common.{◌≡◌, ◌++◌, map, drop, []}
use Rattle.typed_tree.specs.Shape.{variable_of}
use Rattle.typed_problem.specs.SortFaults.{variables_causes, inside}
use Rattle.sort_checks.specs.Lent.{declared_among}
use Rattle.sort_checks.proofs.formulas.push_variables.Given as goal

abbrev pub invariant-loop-variable : goal.invariant-loop-variable
invariant-loop-variable l = record {
  causes :
      l.causes.items ++ variables_causes (declared_among l.table) (map variable_of (drop l.variable-index l.variables)) []
      ≡ l.initial.causes.items ++ variables_causes (declared_among l.table) (map variable_of l.variables) [];
  scope : inside (map variable_of (drop l.variable-index l.variables)) l.scope ≡ inside (map variable_of l.variables) l.initial.scope;
}
