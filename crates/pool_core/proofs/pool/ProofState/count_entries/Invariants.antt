use Rattle.std.proofs.Common.{◌≡◌, ◌+◌, length, vec_len, vec_capacity}
use Rattle.std.specs.Vec.Iter.{into_iter_items}
use Rattle.pool_core.specs.CountedList.{keys_in}
use Rattle.pool_core.proofs.AboutReturns.ArrivalLemmas.{AreCountedSoFar}
use Rattle.pool_core.proofs.pool.ProofState.count_entries.Given as goal

abbrev pub invariant-loop-entry : goal.invariant-loop-entry
invariant-loop-entry l = record {
  so_far :
      AreCountedSoFar l.bank l.fn.options.split l.is_spent l.fn.self (keys_in l.fn.counted) l.fn.entries l.fn.results.items
      l.self (keys_in l.counted) (into_iter_items l.entry-iterator) (into_iter_items l.results);
  len : vec_len l.counted.keys + length (into_iter_items l.entry-iterator) ≡ vec_len l.fn.counted.keys + length l.fn.entries;
  room : vec_capacity l.counted.keys ≡ vec_capacity l.fn.counted.keys;
}
