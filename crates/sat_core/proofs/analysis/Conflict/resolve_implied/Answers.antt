use Rattle.std.proofs.Common.{arith, length, sym, ◌∙◌}
use Rattle.sat_core.proofs.AboutConflicts.ResolveLemmas.{entry_read, entry_named}
use Rattle.sat_core.proofs.AboutConflicts.ReduceLemmas.{implied_read, entry_away}
use Rattle.sat_core.specs.Known.{known}
use Rattle.sat_core.proofs.analysis.Conflict.resolve_implied.Goals as goal

pub is_marked-requires : goal.is_marked-requires
is_marked-requires c =
    let read = entry_read c.args.trail.now.entries.items c.args.index c.index-entry.result.now (omega (arith, c.requires.index, c.requires.bound)) c.index-entry.ensures in
    entry_named c.args.trail.now.entries.items c.args.trail.now.slots.items c.args.index (length c.args.marks.now.marked.items) c.index-entry.result.now
    c.requires.sound.trail (omega (arith, c.requires.index, c.requires.bound)) read c.requires.reduced.names

pub literals-requires : goal.literals-requires
literals-requires c =
    let read = entry_read c.args.trail.now.entries.items c.args.index c.index-entry.result.now (omega (arith, c.requires.index, c.requires.bound)) c.index-entry.ensures in
    (implied_read (known c.args.clauses.now) _ _ c.args.index c.in-Some.reason c.index-entry.result.now c.requires.sound (omega (arith, c.requires.index, c.requires.bound)) read c.in-Some.is).within

pub returns-in_ok-push-clause-reduced : goal.returns-in_ok-push-clause-reduced
returns-in_ok-push-clause-reduced c =
    let read = entry_read c.args.trail.now.entries.items c.args.index c.index-entry.result.now (omega (arith, c.requires.index, c.requires.bound)) c.index-entry.ensures in
    entry_away (known c.args.clauses.now) c.args.trail.now.entries.items _ _ c.args.index c.args.bound c.in-Some.reason _ _ _ _ _ _ c.index-entry.result.now c.opposite-pivot.result c.literals.result.now
    c.requires.sound c.requires.index c.requires.bound c.requires.reduced read c.in-Some.is
    (sym c.is_marked.ensures ∙ c.if-is_marked.true) c.literals.ensures (sym c.have_others.ensures ∙ c.if-have_others.true)
    c.opposite-pivot.ensures c.in_ok-push.ensures.items c.unmark.ensures.marked c.unmark.ensures.literals
