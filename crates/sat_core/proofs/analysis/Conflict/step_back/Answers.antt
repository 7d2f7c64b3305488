use Rattle.std.proofs.Common.{arith, ◌-◌, length, ◌∙◌}
use Rattle.sat_core.proofs.AboutConflicts.ResolveLemmas.{entry_read, entry_named, mark_read, passed_entry, turned_entry, implied_entry, others_false, resolved_entry}
use Rattle.sat_core.specs.Known.{known}
use Rattle.sat_core.proofs.analysis.Conflict.step_back.Goals as goal

pub index-requires : goal.index-requires
index-requires c =
    let read = entry_read c.args.trail.now.entries.items (c.args.bound - 1) c.index-entry.result.now (omega (arith, c.requires.some, c.requires.bound)) c.index-entry.ensures in
    let named = entry_named c.args.trail.now.entries.items c.args.trail.now.slots.items (c.args.bound - 1) (length c.args.marks.now.marked.items) c.index-entry.result.now
    c.requires.sound.trail (omega (arith, c.requires.some, c.requires.bound)) read c.requires.resolving.names in
    omega (arith, named)

pub returns-then-not-index-clause-none : goal.returns-then-not-index-clause-none
returns-then-not-index-clause-none c =
    let read = entry_read c.args.trail.now.entries.items (c.args.bound - 1) c.index-entry.result.now (omega (arith, c.requires.some, c.requires.bound)) c.index-entry.ensures in
    let named = entry_named c.args.trail.now.entries.items c.args.trail.now.slots.items (c.args.bound - 1) (length c.args.marks.now.marked.items) c.index-entry.result.now
    c.requires.sound.trail (omega (arith, c.requires.some, c.requires.bound)) read c.requires.resolving.names in
    passed_entry _ c.args.trail.now.entries.items _ _ _ _ _ _ c.index-entry.result.now c.requires.sound.trail c.requires.some c.requires.bound c.requires.resolving read
    (mark_read c.args.marks.now.marked.items _ c.index.result.now named c.index.ensures ∙ c.if-not-index.true)

pub returns-in-Some-clause-some : goal.returns-in-Some-clause-some
returns-in-Some-clause-some c =
    let read = entry_read c.args.trail.now.entries.items (c.args.bound - 1) c.index-entry.result.now (omega (arith, c.requires.some, c.requires.bound)) c.index-entry.ensures in
    let named = entry_named c.args.trail.now.entries.items c.args.trail.now.slots.items (c.args.bound - 1) (length c.args.marks.now.marked.items) c.index-entry.result.now
    c.requires.sound.trail (omega (arith, c.requires.some, c.requires.bound)) read c.requires.resolving.names in (
      c.requires.resolving,
      turned_entry _ c.args.trail.now.entries.items _ _ _ _ _ _ c.index-entry.result.now c.in-Some.turn c.requires.sound.trail c.requires.some c.requires.bound c.requires.resolving read
          (mark_read c.args.marks.now.marked.items _ c.index.result.now named c.index.ensures ∙ c.if-not-index.false)
          (rw c.as_slice.ensures.value at c.in-Some.ensures.some),
    )

pub literals-literals-requires : goal.literals-literals-requires
literals-literals-requires c =
    let read = entry_read c.args.trail.now.entries.items (c.args.bound - 1) c.index-entry.result.now (omega (arith, c.requires.some, c.requires.bound)) c.index-entry.ensures in
    (implied_entry (known c.args.clauses.now) _ _ c.args.bound c.in-Some-reason.reason c.index-entry.result.now c.requires.sound c.requires.some c.requires.bound read c.in-Some-reason.is).within

pub mark_others-requires-clause-others_false : goal.mark_others-requires-clause-others_false
mark_others-requires-clause-others_false c =
    let read = entry_read c.args.trail.now.entries.items (c.args.bound - 1) c.index-entry.result.now (omega (arith, c.requires.some, c.requires.bound)) c.index-entry.ensures in
    others_false (known c.args.clauses.now) _ _ c.in-Some-reason.reason c.index-entry.result.now.literal _
    (implied_entry (known c.args.clauses.now) _ _ c.args.bound c.in-Some-reason.reason c.index-entry.result.now c.requires.sound c.requires.some c.requires.bound read c.in-Some-reason.is)
    c.literals-literals.ensures

pub returns-in_ok-mark_others-clause-none : goal.returns-in_ok-mark_others-clause-none
returns-in_ok-mark_others-clause-none c =
    let read = entry_read c.args.trail.now.entries.items (c.args.bound - 1) c.index-entry.result.now (omega (arith, c.requires.some, c.requires.bound)) c.index-entry.ensures in
    let named = entry_named c.args.trail.now.entries.items c.args.trail.now.slots.items (c.args.bound - 1) (length c.args.marks.now.marked.items) c.index-entry.result.now
    c.requires.sound.trail (omega (arith, c.requires.some, c.requires.bound)) read c.requires.resolving.names in
    rw c.see.ensures.start
    (resolved_entry _ c.args.trail.now.entries.items _ _ c.args.bound c.in-Some-reason.reason _ _ _ _ _ _ c.index-entry.result.now c.opposite-pivot.result c.literals-literals.result.now
    c.requires.sound c.requires.some c.requires.bound c.requires.resolving read
    (mark_read c.args.marks.now.marked.items _ c.index.result.now named c.index.ensures ∙ c.if-not-index.false) c.in-Some-reason.is
    c.opposite-pivot.ensures (c.see.ensures.links ∙ c.in_ok-push.ensures.items) c.in_ok-mark_others.ensures.marks c.in_ok-mark_others.ensures.names c.literals-literals.ensures c.in_ok-mark_others.ensures.adds)
