use Rattle.std.proofs.Common.{◌≡◌, map, take}
use Rattle.axiom_filter.specs.Restriction.{reindexed_step}
use Rattle.axiom_filter.proofs.parts.reindex.Given as goal

abbrev pub invariant-loop-step : goal.invariant-loop-step
invariant-loop-step l = l.made.items ≡ map (reindexed_step l.numbers) (take l.step-index l.steps)
