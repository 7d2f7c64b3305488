use Rattle.std.proofs.Common.{◌+◌, min, ap, refl, take, ◌∙◌, arith}
use Rattle.unifier.specs.declared.equation.TheConstants.{MOST_EQUATIONS}
use Rattle.unifier.specs.declared.equation.Equation.{Equation}
use Rattle.unifier.proofs.AboutEquations.EquationLemmas.{stored, added}
use Rattle.unifier.proofs.equation.Equations.add.Goals as goal

pub returns : goal.returns
returns c =
    let e : Equation = record { code = c.args.code; bound = c.args.bound } in
    added c.args.self.now _ c.args.code e
    (ap (take (min (c.args.self.now.len + 1) MOST_EQUATIONS)) c.store.ensures ∙ stored c.args.self.now.items MOST_EQUATIONS c.args.self.now.len e (omega arith) (omega arith))
    refl c.requires refl
