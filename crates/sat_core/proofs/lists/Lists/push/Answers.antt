use Rattle.std.proofs.Common.{◌∙◌, ◌+◌, ◌∷◌, ◌++◌, [], length, ap, arith}
use Rattle.sat_core.proofs.AboutConflicts.EndLemmas.{cut-push, cut-longer}
use Rattle.sat_core.proofs.lists.Lists.push.Goals as goal

pub invariant_of-self-2 : goal.invariant_of-self-2
invariant_of-self-2 g c =
    cut-longer c.self.inside.items.items c.args.list.now c.extend_from_slice.new.self.items c.self.inside.ends.items c.push_reserved.new.self.items (c.len-start.result + length c.args.list.now)
    c.self.invariant c.in_ok-extend_from_slice.ensures.items (c.push_reserved.ensures.items ∙ ap (λ es. es ++ (c.len-start.result + length c.args.list.now) ∷ []) c.reserve.ensures.items)
    (omega (arith, c.len-start.ensures))
    (omega (arith, c.len-start.ensures, c.if-list-start.false, c.self.invariant.1))

pub returns-clause-more : goal.returns-clause-more
returns-clause-more g c =
    rw (c.in_ok-extend_from_slice.ensures.items, c.push_reserved.ensures.items, c.reserve.ensures.items, ← c.self.view_is)
    (cut-push _ _ 0 _ _ c.self.invariant.0 (omega (arith, c.len-start.ensures)))
