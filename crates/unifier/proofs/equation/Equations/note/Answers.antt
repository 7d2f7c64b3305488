use Rattle.std.proofs.Common.{refl, sym, ◌∙◌, arith}
use Rattle.unifier.specs.declared.equation.TheConstants.{MOST_NOTED}
use Rattle.unifier.proofs.AboutEquations.EquationLemmas.{stored, noted-already, noted-more}
use Rattle.unifier.proofs.equation.Equations.note.Goals as goal

pub returns-then-is_noted : goal.returns-then-is_noted
returns-then-is_noted c = noted-already c.args.self.now c.args.code (sym c.is_noted.ensures ∙ c.if-is_noted.true)

pub returns : goal.returns
returns c =
    noted-more c.args.self.now _ c.args.code (λ u. refl)
    (stored c.args.self.now.noted MOST_NOTED c.args.self.now.noted_len c.args.code (omega arith) (omega arith))
