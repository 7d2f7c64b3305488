use Rattle.std.proofs.Common.{List, ℕ, [], ◌∷◌, ap, ap₂, ◌∙◌}
use Rattle.tptp_tree.specs.Term.{TermTree}
use Rattle.tptp_tree.specs.declared.formula.Formula.{Formula}
use Rattle.tptp_tree.specs.declared.formula.Formula.TheVariants.{Pred}
use Rattle.tptp_tree.specs.declared.role.Role.TheVariants.{Axiom}
use Rattle.commands.specs.BenchProblem.{bench_formula, chain_name}
use Rattle.commands.proofs.numbered_problem.first_link.Goals as goal

pub returns : goal.returns
returns c =
    c.bench_formula.ensures
    ∙ ap₂ (λ (name : List ℕ) (formula : Formula). bench_formula name Axiom formula) c.in_ok-name.ensures
    (c.in_ok-formula.ensures ∙ ap (λ (t : TermTree). Pred (chain_name 0) (t ∷ [])) c.in_ok-constant.ensures)
