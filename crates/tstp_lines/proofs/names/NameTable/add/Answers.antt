use Rattle.std.proofs.Common.{◌++◌, ◌∙◌, ap}
use Rattle.tstp_lines.proofs.AboutReadings.TableLemmas.{text-added, text-numbered}
use Rattle.tstp_lines.proofs.names.NameTable.add.Goals as goal

pub returns-clause-number : goal.returns-clause-number
returns-clause-number c =
    text-numbered c.extend_from_slice.new.self c.self.inside.names.keys _ _ _ c.self.view_is
    (c.in_ok-extend_from_slice.ensures.items ∙ ap (λ xs. xs ++ c.args.name.now) c.new-owned.ensures.items) c.requires.new
    c.in_ok-place.ensures.index

pub returns-clause-added : goal.returns-clause-added
returns-clause-added c =
    text-added c.extend_from_slice.new.self c.self.inside.names.keys _ _ _ c.self.view_is
    (c.in_ok-extend_from_slice.ensures.items ∙ ap (λ xs. xs ++ c.args.name.now) c.new-owned.ensures.items) c.requires.new
    c.in_ok-place.ensures.keys
