use Rattle.std.proofs.Common.{◌≡◌, drop}
use Rattle.unifier.specs.Equations.{bound_to}
use Rattle.unifier.proofs.equation.Equations.find.Given as goal

abbrev pub invariant-loop-equation : goal.invariant-loop-equation
invariant-loop-equation l = bound_to l.code (drop l.equation-index l.equation-items) ≡ bound_to l.code l.equation-items
