use Rattle.std.proofs.Common.{length, sym, ap, ◌∙◌, arith}
use Rattle.sat_core.proofs.AboutConflicts.EndLemmas.{cut-count}
use Rattle.sat_core.proofs.lists.Lists.len.Goals as goal

pub returns-clause-length : goal.returns-clause-length
returns-clause-length g c =
    let count = sym (cut-count c.self.inside.items.items 0 c.self.inside.ends.items) ∙ ap length c.self.view_is in
    let len = c.len.ensures in omega (arith, count, len)
