use Rattle.std.proofs.Common.{List, ℕ, ap, ap₂, ◌∙◌}
use Rattle.tptp_tree.specs.Shape.{formula_of}
use Rattle.tptp_tree.specs.declared.formula.Formula.{Formula}
use Rattle.tptp_tree.specs.declared.role.Role.TheVariants.{Axiom}
use Rattle.commands.specs.BenchProblem.{bench_formula, each_x}
use Rattle.commands.proofs.numbered_problem.link.Goals as goal

pub returns : goal.returns
returns c =
    c.bench_formula.ensures
    ∙ ap₂ (λ (name : List ℕ) (formula : Formula). bench_formula name Axiom formula) c.in_ok-name.ensures
    (c.in_ok-formula.ensures ∙ ap (λ (body : Formula). each_x (formula_of body)) c.in_ok-body.ensures)
