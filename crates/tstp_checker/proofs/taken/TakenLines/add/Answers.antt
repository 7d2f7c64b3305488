use Rattle.std.proofs.Common.{[], ◌∷◌, ◌++◌, ap, ◌∙◌}
use Rattle.tstp_checker.proofs.AboutDerivations.TakenLemmas.{added-kept, added-lines}
use Rattle.tstp_checker.proofs.taken.TakenLines.add.Goals as goal

pub returns-clause-kept : goal.returns-clause-kept
returns-clause-kept c =
    added-kept c.args.self.now _ c.args.name.now c.args.line c.requires.kept c.requires.next
    (c.in_ok-add.ensures.added ∙ ap (λ ns. ns ++ c.args.name.now ∷ []) c.in_ok-note_component.ensures.names)
    (c.in_ok-push.ensures.ok ∙ ap (λ ls. ls ++ c.args.line ∷ []) c.in_ok-note_component.ensures.lines)
    c.in_ok-note_component.ensures.components

pub returns-clause-lines : goal.returns-clause-lines
returns-clause-lines c =
    added-lines c.args.self.now
    (record { names = c.add.new.self; lines = c.push.new.self; introduced = c.note_component.new.self.introduced; components = c.note_component.new.self.components })
    c.args.name.now c.args.line c.requires.kept
    (c.in_ok-add.ensures.added ∙ ap (λ ns. ns ++ c.args.name.now ∷ []) c.in_ok-note_component.ensures.names)
    (c.in_ok-push.ensures.ok ∙ ap (λ ls. ls ++ c.args.line ∷ []) c.in_ok-note_component.ensures.lines)
