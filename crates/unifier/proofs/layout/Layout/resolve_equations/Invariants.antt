use Rattle.std.proofs.Common.{map, take}
use Rattle.unifier.specs.declared.equation.Equation.{Equation}
use Rattle.unifier.specs.Resolving.{AreResolved}
use Rattle.unifier.proofs.layout.Layout.resolve_equations.Given as goal

abbrev pub invariant-loop-equation : goal.invariant-loop-equation
invariant-loop-equation l =
    AreResolved l.apart l.equations l.initial.self l.self (map (λ (e : Equation). e.code) (take l.equation-index l.equation-items))
