use Rattle.std.proofs.Common.{arith, ℕ, ◌≡◌, subst, length}
use Rattle.sat_core.specs.Trail.{Cuts}
use Rattle.sat_core.proofs.AboutTrails.TrailLemmas.{cut_none, cut_more, cut_length}
use Rattle.sat_core.proofs.trail.Trail.cut.Goals as goal

pub loop-self-init : goal.loop-self-init
loop-self-init c = record { left = cut_none _ _ c.requires.trail; within = c.requires.within }

pub loop-self-preserved : goal.loop-self-preserved
loop-self-preserved c =
    let shorter = cut_length _ _ _ _ _ (omega arith) c.pop.ensures in
    record { left = cut_more _ _ _ _ _ _ c.loop-self.invariant.left c.pop.ensures; within = omega (arith, shorter, c.len.ensures) }

pub loop-self-smaller : goal.loop-self-smaller
loop-self-smaller c =
    let shorter = cut_length _ _ _ _ _ (omega arith) c.pop.ensures in
    omega (arith, shorter, c.len.ensures)

pub returns : goal.returns
returns c =
    let n : length c.loop-self.self.entries.items ≡ c.args.count = omega (arith, c.len.ensures, c.loop-self.invariant.within) in
    subst (λ (k : ℕ). Cuts k c.args.self.now.entries.items c.args.self.now.slots.items c.loop-self.self.entries.items c.loop-self.self.slots.items) n c.loop-self.invariant.left
