use Rattle.tstp_lines.proofs.AboutReadings.ClauseLemmas.{equation-literal}
use Rattle.tstp_lines.proofs.numbers.LineNumbers.equation.Goals as goal

pub returns-clause-literal : goal.returns-clause-literal
returns-clause-literal c =
    equation-literal _ _ c.args.positive _ _ _ _ c.in_ok-term.ensures.tree c.in_ok-term-2.ensures.met c.in_ok-term-2.ensures.tree
