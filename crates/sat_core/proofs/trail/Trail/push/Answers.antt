use Rattle.std.proofs.Common.{arith}
use Rattle.sat_core.proofs.AboutTrails.TrailLemmas.{pushed_at}
use Rattle.sat_core.proofs.trail.Trail.push.Goals as goal

pub returns-clause-trail : goal.returns-clause-trail
returns-clause-trail c = pushed_at _ _ _ c.args.entry _ c.requires.trail c.requires.named c.requires.free c.in_ok-push.ensures.items (omega (arith, c.in_ok-push.ensures.len, c.len.ensures))
