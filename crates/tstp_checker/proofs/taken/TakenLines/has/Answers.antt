use Rattle.std.proofs.Common.{sym, ◌∙◌}
use Rattle.tstp_checker.proofs.AboutDerivations.TakenLemmas.{named-any}
use Rattle.tstp_checker.proofs.taken.TakenLines.has.Goals as goal

pub returns-clause-value : goal.returns-clause-value
returns-clause-value c =
    c.is_some.ensures ∙ c.number.ensures.found ∙ sym (named-any c.args.name.now c.args.self.now.names c.args.self.now.lines c.requires.named)
