use Rattle.std.proofs.Common.{ap, take, ◌∙◌, arith}
use Rattle.unifier.specs.Equations.{bound_to}
use Rattle.unifier.proofs.AboutEquations.EquationLemmas.{here-found}
use Rattle.unifier.proofs.equation.Equations.find.Goals as goal

pub returns-then-equation-code : goal.returns-then-equation-code
returns-then-equation-code c =
    here-found c.args.code (take c.min.result c.args.self.now.items) c.loop-equation.equation-index c.equation-item.result (omega (arith, c.loop-equation-test.true))
    c.equation-item.is c.if-equation-code.true c.loop-equation.invariant
    ∙ ap (λ k. bound_to c.args.code (take k c.args.self.now.items)) c.min.ensures
