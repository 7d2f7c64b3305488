use Rattle.std.proofs.Common.{◌≡◌, ◌-◌, ◌≤◌, drop}
use Rattle.kernel_steps.specs.Names.{are_sorted}
use Rattle.pool_core.proofs.sorting.are_sorted.Given as goal

abbrev pub invariant-loop-index : goal.invariant-loop-index
invariant-loop-index l = (1 ≤ l.index) × (are_sorted (drop (l.index - 1) l.names) ≡ are_sorted l.names)
