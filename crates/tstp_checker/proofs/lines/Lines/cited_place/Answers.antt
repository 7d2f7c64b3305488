use Rattle.std.proofs.Common.{ap, sym, ◌∙◌}
use Rattle.tptp_source.specs.SourceShape.{source_of}
use Rattle.clausal_form.specs.DerivationCauses.{cited, place_of_entry}
use Rattle.tstp_checker.specs.FormulaLines.{cited_at}
use Rattle.tstp_checker.specs.Lines.{line_meant, setting_in}
use Rattle.tstp_checker.proofs.AboutVerdicts.FormulaLineLemmas.{cited-there}
use Rattle.tstp_checker.proofs.lines.Lines.cited_place.Goals as goal

pub returns : goal.returns
returns c =
    c.place_of.ensures
    ∙ ap (λ n. place_of_entry (setting_in c.args.self.now) (cited (line_meant c.args.entry.now c.args.source.now) n)) c.as_slice.ensures
    ∙ cited-there (setting_in c.args.self.now) (line_meant c.args.entry.now c.args.source.now) _ _ c.if-not-is_plain_word.ensures
    ∙ sym (ap (λ u. cited_at (setting_in c.args.self.now) (line_meant c.args.entry.now c.args.source.now) (source_of u)) c.in-File.is)
