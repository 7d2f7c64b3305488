use Rattle.std.proofs.Common.{map, ap, sym, ◌∙◌}
use Rattle.kernel_steps.specs.Parents.{all_there}
use Rattle.clausal_form.specs.DerivationLine.{NamedLine}
use Rattle.std.specs.Prelude.{bytes_eq}
use Rattle.std.specs.List.{list_any}
use Rattle.clausal_form.specs.DerivationParts.{line_place}
use Rattle.tstp_checker.specs.Lines.{line_meant, taken_in}
use Rattle.tstp_checker.proofs.AboutVerdicts.FormulaLineLemmas.{parents-there, parents-missing}
use Rattle.tstp_checker.proofs.lines.Lines.parents.Goals as goal

pub returns-in-Some : goal.returns-in-Some
returns-in-Some c =
    parents-there (taken_in c.args.self.now) (line_meant c.args.entry.now c.args.source.now) c.in-Some.places
    (c.if-has.ensures.value ∙ ap (λ n. list_any (λ (l : NamedLine). bytes_eq n l.name) (taken_in c.args.self.now).lines) c.as_slice.ensures)
    (sym c.in-Some.is ∙ c.in_ok-places.ensures ∙ ap (λ ns. all_there (map (line_place (taken_in c.args.self.now)) ns)) c.parent_names.ensures)

pub returns-in-None : goal.returns-in-None
returns-in-None c =
    parents-missing (taken_in c.args.self.now) (line_meant c.args.entry.now c.args.source.now)
    (c.if-has.ensures.value ∙ ap (λ n. list_any (λ (l : NamedLine). bytes_eq n l.name) (taken_in c.args.self.now).lines) c.as_slice.ensures)
    (sym c.in-None.is ∙ c.in_ok-places.ensures ∙ ap (λ ns. all_there (map (line_place (taken_in c.args.self.now)) ns)) c.parent_names.ensures)
