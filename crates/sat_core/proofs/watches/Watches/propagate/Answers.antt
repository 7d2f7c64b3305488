use Rattle.std.proofs.Common.{length, refl, ap, arith}
use Rattle.plain_types.specs.declared.sequence.NameLit.{NameLit}
use Rattle.sat_core.proofs.AboutConflicts.ResolveLemmas.{entry_read, entry_named}
use Rattle.sat_core.proofs.watches.Watches.propagate.Goals as goal

pub visit_list-requires-clause-named : goal.visit_list-requires-clause-named
visit_list-requires-clause-named c =
    let entries = c.loop-self.trail.entries.items in
    let h = entry_named entries c.loop-self.trail.slots.items c.loop-self.self.seen (length c.loop-self.trail.slots.items) c.index.result.now
    c.loop-self.invariant.propagates.sound.trail (omega arith) (entry_read entries c.loop-self.self.seen c.index.result.now (omega arith) c.index.ensures) refl in
    let same = ap (λ (l : NameLit). l.name) c.opposite-falsified.ensures in
    omega (arith, h, same)
