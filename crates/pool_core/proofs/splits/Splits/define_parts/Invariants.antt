use Rattle.std.proofs.Common.{◌≡◌, ℕ, ◌+◌, ◌*◌, ◌≤◌, length, vec_len, vec_capacity}
use Rattle.std.specs.Vec.Iter.{into_iter_items}
use Rattle.pool_core.specs.Splits.{HasClauseRoom, HasPartRoom, split_view}
use Rattle.pool_core.proofs.AboutSplits.PartsLemmas.{AreDefinedSoFar}
use Rattle.pool_core.proofs.splits.Splits.define_parts.Given as goal

abbrev pub invariant-loop-part : goal.invariant-loop-part
invariant-loop-part l = record {
  so_far :
      AreDefinedSoFar (split_view l.fn.self) l.fn.steps.items l.fn.tags.items l.fn.parts.items
      (split_view l.self) l.steps.items l.tags.items (into_iter_items l.part-iterator);
  room : HasPartRoom l.self (length (into_iter_items l.part-iterator));
  part_room :
      (more : ℕ) → HasPartRoom l.fn.self (length l.fn.parts.items + more) → HasPartRoom l.self (length (into_iter_items l.part-iterator) + more);
  clause_room : (clauses literals : ℕ) → HasClauseRoom l.fn.self clauses literals → HasClauseRoom l.self clauses literals;
  steps_len : vec_len l.steps + 2 * length (into_iter_items l.part-iterator) ≤ vec_len l.fn.steps + 2 * length l.fn.parts.items;
  steps_capacity : vec_capacity l.steps ≡ vec_capacity l.fn.steps;
  steps_room : vec_len l.steps + 2 * length (into_iter_items l.part-iterator) ≤ vec_capacity l.steps;
  tags_room : vec_len l.tags + length (into_iter_items l.part-iterator) ≤ vec_capacity l.tags;
}
