use Rattle.std.proofs.Common.{◌+◌, ◌-◌, ◌*◌, length}
use Rattle.std.specs.Prelude.{if◌then◌else◌}
use Rattle.kernel_steps.proofs.instance.+replaced_under.Given as goal

abbrev pub decreases-replaced_under : goal.decreases-replaced_under
decreases-replaced_under g l = 2 * (length l.place.now - l.depth) + (if l.is_bound then 0 else 1)
