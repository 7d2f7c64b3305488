use Rattle.sat_core.proofs.AboutTrails.TrailLemmas.{popped_at}
use Rattle.sat_core.proofs.AboutTrails.ValueLemmas.{popped_values}
use Rattle.sat_core.proofs.trail.Trail.pop.Goals as goal

pub invariant_of-self : goal.invariant_of-self
invariant_of-self c = record {
  agree = rw c.take_back.ensures (popped_values c.args.self.now.values.by_code.items c.args.self.now.slots.items c.in-Some.entry.literal _ c.args.self.now.agree);
}

pub returns-in-Some : goal.returns-in-Some
returns-in-Some c = popped_at _ _ _ c.in-Some.entry c.index_mut.result.now c.requires.trail c.in-Some.ensures.items c.index_mut.ensures.value
