use Rattle.std.proofs.Common.{◌∙◌, subst, arith}
use Rattle.sat_core.proofs.AboutTrails.PropagationLemmas.{propagates_then}
use Rattle.sat_core.proofs.AboutTrails.CopyLemmas.{same_clauses_then, alone_at}
use Rattle.sat_core.specs.Known.{known}
use Rattle.sat_core.specs.Copies.{IsVisit}
use Rattle.sat_core.proofs.watches.Watches.visit_all.Goals as goal
use Rattle.sat_core.proofs.watches.Watches.visit_all.Goals.{in-Kept, in-Moved, in-Closed+in_ok-conflict-in-Closed+in_default}

pub settle-requires-clause-alone : goal.settle-requires-clause-alone
settle-requires-clause-alone c =
    alone_at c.loop.trail.slots.items c.loop.self.copies.items _ c.in-Closed.closed.number c.in-Closed.closed.other c.loop.invariant.copies
    (subst (IsVisit c.loop.trail.slots.items c.loop.self.copies.items) c.in-Closed.is c.in_ok-visit.ensures.visit)

pub loop-preserved : goal.loop-preserved
loop-preserved c =
    elim c.match-branch-2.branch [
      | in-Kept w ↦ rw (w.trail-is, w.index-is) (record {
        propagates = c.loop.invariant.propagates;
        lists = c.in_ok-visit.ensures.lists ∙ c.loop.invariant.lists;
        copies = same_clauses_then _ _ _ c.in_ok-visit.ensures.copies c.loop.invariant.copies;
        seen = c.in_ok-visit.ensures.seen ∙ c.loop.invariant.seen;
        index = omega (arith, c.loop.invariant.index);
      })
      | in-Moved w ↦ rw (w.trail-is, w.index-is) (record {
        propagates = c.loop.invariant.propagates;
        lists = c.in_ok-visit.ensures.lists ∙ c.loop.invariant.lists;
        copies = same_clauses_then _ _ _ c.in_ok-visit.ensures.copies c.loop.invariant.copies;
        seen = c.in_ok-visit.ensures.seen ∙ c.loop.invariant.seen;
        index = omega (arith, c.loop.invariant.index);
      })
      | in-Closed+in_ok-conflict-in-Closed+in_default w ↦ rw (w.trail-is, w.index-is) (record {
        propagates =
            propagates_then (known c.args.clauses.now) _ _ _ _ _ _ c.loop.invariant.propagates
            w.in_ok-conflict-in-Closed.ensures.propagates;
        lists = c.in_ok-visit.ensures.lists ∙ c.loop.invariant.lists;
        copies = same_clauses_then _ _ _ c.in_ok-visit.ensures.copies c.loop.invariant.copies;
        seen = c.in_ok-visit.ensures.seen ∙ c.loop.invariant.seen;
        index = omega (arith, c.loop.invariant.index);
      })
    ]
