use Rattle.std.proofs.Common.{false, sym, ◌∙◌}
use Rattle.std.proofs.lemmas.List.{get_or_read}
use Rattle.sat_core.proofs.AboutConflicts.MarkLemmas.{marked_already}
use Rattle.sat_core.proofs.marks.Marks.mark.Goals as goal

pub returns-else-not-index-clause-literals : goal.returns-else-not-index-clause-literals
returns-else-not-index-clause-literals c =
    marked_already _ _ c.args.literal c.requires.marks c.requires.one_sign
    (sym (get_or_read c.args.self.now.marked.items c.args.literal.name c.index.result.now c.requires.named c.index.ensures false)
    ∙ c.if-not-index.false)
