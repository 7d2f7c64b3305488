use Rattle.std.proofs.Common.{◌-◌, ap, ap₂, ◌∙◌}
use Rattle.tptp_tree.specs.Formula.{FormulaTree}
use Rattle.tptp_tree.specs.Shape.{formula_of}
use Rattle.tptp_tree.specs.Term.{TermTree}
use Rattle.tptp_tree.specs.declared.formula.Formula.TheVariants.{Implies}
use Rattle.commands.specs.BenchProblem.{chained}
use Rattle.commands.proofs.numbered_problem.implication.Goals as goal

pub returns : goal.returns
returns c =
    ap₂ (λ (f g : FormulaTree). Implies f g)
    (c.in_ok-left.ensures ∙ ap formula_of c.in_ok-premise.ensures ∙ ap (λ (t : TermTree). chained (c.args.number - 1) t) c.in_ok-variable.ensures)
    (c.in_ok-right.ensures ∙ ap formula_of c.in_ok-conclusion.ensures ∙ ap (λ (t : TermTree). chained c.args.number t) c.in_ok-applied.ensures)
