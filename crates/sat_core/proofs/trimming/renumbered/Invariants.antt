use Rattle.std.proofs.Common.{◌≡◌, map, take}
use Rattle.sat_core.specs.Trimming.{new_link}
use Rattle.sat_core.proofs.trimming.renumbered.Given as goal

abbrev pub invariant-loop-link : goal.invariant-loop-link
invariant-loop-link l = l.renumbered.items ≡ map (new_link l.inputs l.numbers) (take l.link-index l.links)
