use Rattle.std.proofs.Common.{ap, ◌-◌, length, ◌∙◌}
use Rattle.std.specs.Prelude.{slice_get}
use Rattle.tstp_checker.proofs.AboutDerivations.LinesLemmas.{ends-there}
use Rattle.tstp_checker.proofs.lines.Lines.ends_empty.Goals as goal

pub returns-in-Some : goal.returns-in-Some
returns-in-Some c =
    c.is_empty_clause.ensures
    ∙ ends-there c.args.self.now.taken.names c.args.self.now.taken.lines c.in-Some.line.now
    (c.in-Some.ensures.value ∙ ap (λ ls. slice_get ls (length ls - 1)) c.as_slice.ensures)
