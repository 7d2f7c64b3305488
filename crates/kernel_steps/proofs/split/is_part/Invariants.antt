use Rattle.std.proofs.Common.{◌≡◌, ◌-◌, ◌≤◌, get_or, drop}
use Rattle.kernel_steps.specs.Split.{rises_from, is_part}
use Rattle.kernel_steps.proofs.split.is_part.Given as goal

abbrev pub invariant-loop-index : goal.invariant-loop-index
invariant-loop-index l = (1 ≤ l.index) × (rises_from (get_or l.places (l.index - 1) 0) (drop l.index l.places) ≡ is_part l.places)
