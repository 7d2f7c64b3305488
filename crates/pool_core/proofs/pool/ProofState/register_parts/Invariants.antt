use Rattle.std.proofs.Common.{◌≡◌, ℕ, ◌+◌, length}
use Rattle.std.specs.Vec.Iter.{into_iter_items}
use Rattle.pool_core.specs.State.{HasPlaces}
use Rattle.pool_core.proofs.AboutReturns.WholeComingLemmas.{ArePartsSoFar}
use Rattle.pool_core.proofs.pool.ProofState.register_parts.Given as goal

abbrev pub invariant-loop-part : goal.invariant-loop-part
invariant-loop-part l = record {
  so_far :
      ArePartsSoFar l.bank l.fn.self l.fn.parts.items l.fn.tags.items l.self (into_iter_items l.part-iterator) (into_iter_items l.tags);
  room :
      (clauses assertions : ℕ) → HasPlaces l.fn.self (length l.fn.parts.items + clauses) (length l.fn.parts.items + assertions)
      → HasPlaces l.self (length (into_iter_items l.part-iterator) + clauses) (length (into_iter_items l.part-iterator) + assertions);
  rest : l.self ≡ record l.fn.self { register = l.self.register; queue = l.self.queue; asserting = l.self.asserting };
}
