use Rattle.std.proofs.Common.{List, ℕ, [], ◌∷◌, ap, ap₂, ◌∙◌}
use Rattle.tptp_tree.specs.Term.{TermTree}
use Rattle.tptp_tree.specs.declared.formula.Formula.{Formula}
use Rattle.tptp_tree.specs.declared.formula.Formula.TheVariants.{Pred}
use Rattle.tptp_tree.specs.declared.role.Role.TheVariants.{Conjecture}
use Rattle.commands.specs.BenchProblem.{bench_formula, chain_name}
use Rattle.commands.proofs.numbered_problem.last_link.Goals as goal

pub returns : goal.returns
returns c =
    c.bench_formula.ensures
    ∙ ap₂ (λ (name : List ℕ) (formula : Formula). bench_formula name Conjecture formula) c.in_ok-name.ensures
    (c.in_ok-formula.ensures ∙ ap (λ (t : TermTree). Pred (chain_name c.args.number) (t ∷ [])) c.in_ok-constant.ensures)
