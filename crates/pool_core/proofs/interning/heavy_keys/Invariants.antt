use Rattle.std.proofs.Common.{◌≡◌, take}
use Rattle.pool_history.specs.Counting.{keys_of}
use Rattle.pool_history.specs.Returning.{heavy_entries}
use Rattle.pool_core.proofs.interning.heavy_keys.Given as goal

abbrev pub invariant-loop-entry : goal.invariant-loop-entry
invariant-loop-entry l = l.keys.items ≡ keys_of (heavy_entries (take l.entry-index l.entries))
