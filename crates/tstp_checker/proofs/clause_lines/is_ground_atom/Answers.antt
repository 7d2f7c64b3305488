use Rattle.std.proofs.Common.{◌&&◌, ◌==◌, ap, sym, ◌∙◌}
use Rattle.fol_base.specs.Ground.{is_ground_literal}
use Rattle.fol_base.specs.Literal.{literal_of}
use Rattle.tstp_checker.proofs.AboutVerdicts.AtomLemmas.{literal-ground}
use Rattle.tstp_checker.proofs.clause_lines.is_ground_atom.Goals as goal

pub returns-then-literal : goal.returns-then-literal
returns-then-literal c =
    ap (λ n. n == 0) c.variable_bound.ensures.value
    ∙ literal-ground (literal_of c.args.literal.now)
    ∙ ap (λ b. b && is_ground_literal (literal_of c.args.literal.now)) (sym c.if-literal.true)
