use Rattle.std.proofs.Common.{sym, ◌∙◌}
use Rattle.tstp_checker.proofs.AboutDerivations.TakenLemmas.{named-length}
use Rattle.tstp_checker.proofs.lines.Lines.len.Goals as goal

pub returns : goal.returns
returns c = c.len.ensures ∙ sym (named-length c.args.self.now.taken.names c.args.self.now.taken.lines)
