use Rattle.std.proofs.Common.{length, sym, ap, ◌∙◌, arith}
use Rattle.sat_core.specs.ClauseBuffer.{ClauseBuffer}
use Rattle.sat_core.proofs.AboutConflicts.EndLemmas.{cut-count}
use Rattle.sat_core.proofs.buffer.PropClauseBuffer.len.Goals as goal

pub returns : goal.returns
returns c =
    let count = sym (cut-count c.self.inside.items.items 0 c.self.inside.ends.items) ∙ ap (λ (b : ClauseBuffer). length b.lists) c.self.view_is in
    let len = c.len.ensures in omega (arith, count, len)
