use Rattle.std.proofs.Common.{◌≡◌, ◌++◌, map, drop, []}
use Rattle.typed_tree.specs.Shape.{sort_of, result_sort}
use Rattle.typed_tree.specs.Sorts.{a_symbol}
use Rattle.typed_problem.specs.ProblemShape.{type_of}
use Rattle.typed_problem.specs.SortFaults.{sorts_causes, result_causes, declared_causes}
use Rattle.sort_checks.specs.Lent.{declared_among}
use Rattle.sort_checks.proofs.declarations.push_type.Given as goal

abbrev pub invariant-loop-sort : goal.invariant-loop-sort
invariant-loop-sort l =
    l.causes.items ++ sorts_causes (declared_among l.table) (map sort_of (drop l.sort-index l.sort-items)) (result_causes (declared_among l.table) (result_sort l.declaration.result) [])
    ≡ l.initial.causes.items ++ declared_causes (declared_among l.table) (a_symbol (type_of l.declaration))
