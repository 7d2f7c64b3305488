use Rattle.std.proofs.Common.{◌≡◌, ◌+◌, ◌≤◌, length, vec_len, vec_capacity}
use Rattle.std.specs.Vec.Iter.{into_iter_items}
use Rattle.pool_core.specs.CountedList.{keys_in}
use Rattle.pool_core.proofs.AboutReturns.ProposedLemmas.{AreProposedSoFar}
use Rattle.pool_core.proofs.pool.ProofState.propose.Given as goal

abbrev pub invariant-loop-removal : goal.invariant-loop-removal
invariant-loop-removal l = record {
  so_far :
      AreProposedSoFar l.bank l.options l.event l.fn.self (keys_in l.fn.counted) l.fn.removals l.fn.results.items
      l.self (keys_in l.counted) (into_iter_items l.removal-iterator) (into_iter_items l.results);
  len : vec_len l.counted.keys + length (into_iter_items l.removal-iterator) ≤ vec_len l.fn.counted.keys + length l.fn.removals;
  room : vec_capacity l.counted.keys ≡ vec_capacity l.fn.counted.keys;
}
