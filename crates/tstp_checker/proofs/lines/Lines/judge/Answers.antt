use Rattle.tstp_checker.specs.Lines.{line_meant, setting_in}
use Rattle.tstp_checker.proofs.AboutDerivations.LinesLemmas.{name-new}
use Rattle.tstp_checker.proofs.lines.Lines.judge.Goals as goal

pub add-requires-clause-new : goal.add-requires-clause-new
add-requires-clause-new c =
    name-new (setting_in c.args.self.now) c.args.self.now.taken (line_meant c.args.entry.now c.args.source.now) c.in-Ok.line
    c.as_slice.result.now c.verdict.new.self.taken.names c.requires.ready.kept c.in-Ok.ensures.verdict c.as_slice.ensures
    c.verdict.ensures.names
