-- The names of the inferences that were counted.
use Rattle.std.specs.Prelude.{List, map}
use Rattle.std.specs.declared.snapshot.Snapshot.{Snapshot}
use Rattle.kernel_steps.specs.declared.key.Key.{Key}
use Rattle.pool_core.specs.declared.counted_keys.CountedKeys.{CountedKeys}

abbrev pub keys_in : CountedKeys → List Key
keys_in counted = map (λ (s : Snapshot Key). s.value) counted.keys.items
