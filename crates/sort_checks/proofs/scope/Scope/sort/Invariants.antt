use Rattle.std.proofs.Common.{◌≡◌, take}
use Rattle.typed_problem.specs.SortFaults.{sort_in_force}
use Rattle.sort_checks.specs.Scopes.{innermost_first}
use Rattle.sort_checks.proofs.scope.Scope.sort.Given as goal

abbrev pub invariant-loop-index : goal.invariant-loop-index
invariant-loop-index l =
    sort_in_force (innermost_first (take l.index l.self-inside.variables.items)) l.name ≡ sort_in_force (innermost_first l.self-inside.variables.items) l.name
