use Rattle.std.proofs.Common.{List, ℕ, true, ap₂, ◌∙◌}
use Rattle.tptp_tree.specs.Formula.{equation}
use Rattle.tptp_tree.specs.Term.{TermTree}
use Rattle.tptp_tree.specs.declared.formula.Formula.{Formula}
use Rattle.tptp_tree.specs.declared.role.Role.TheVariants.{Axiom}
use Rattle.commands.specs.BenchProblem.{bench_formula, each_x}
use Rattle.commands.proofs.numbered_problem.back_link.Goals as goal

pub returns : goal.returns
returns c =
    c.bench_formula.ensures
    ∙ ap₂ (λ (name : List ℕ) (formula : Formula). bench_formula name Axiom formula) c.in_ok-name.ensures
    (c.in_ok-formula.ensures ∙ ap₂ (λ (s t : TermTree). each_x (equation true s t)) c.in_ok-left.ensures c.in_ok-right.ensures)
