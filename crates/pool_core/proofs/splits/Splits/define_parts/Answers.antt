use Rattle.std.proofs.Common.{◌≡◌, ℕ, suc, ◌+◌, List, length, ap, subst, ◌∙◌, arith}
use Rattle.std.specs.Vec.Iter.{into_iter_items}
use Rattle.split_parts.specs.declared.key.PartKey.{PartKey}
use Rattle.pool_core.specs.Splits.{HasPartRoom, split_view}
use Rattle.pool_core.proofs.AboutSplits.PartsLemmas.{AreDefinedSoFar, one-defined}
use Rattle.pool_core.proofs.AboutSplits.SortedLemmas.{part-room-less}
use Rattle.pool_core.proofs.splits.Splits.define_parts.Goals as goal

pub loop-part-preserved : goal.loop-part-preserved
loop-part-preserved c =
    let rest : List PartKey = into_iter_items c.next.new.self in
    let left : length (into_iter_items c.loop-part.part-iterator) ≡ suc (length rest) = ap length c.in-Some.ensures.steps.0 in
    let inv = c.loop-part.invariant in
    record {
      so_far =
          one-defined (split_view c.args.self.now) c.args.steps.now.items c.args.tags.now.items c.args.parts.items
          (split_view c.loop-part.self) (split_view c.define-tag.new.self) c.loop-part.steps.items c.define-tag.new.steps.items
          c.loop-part.tags.items c.push_reserved.new.self.items c.in-Some.part rest c.define-tag.result
          c.define-tag.ensures.defined c.define-tag.ensures.added c.define-tag.ensures.tag c.push_reserved.ensures.items
          (subst (AreDefinedSoFar (split_view c.args.self.now) c.args.steps.now.items c.args.tags.now.items c.args.parts.items
          (split_view c.loop-part.self) c.loop-part.steps.items c.loop-part.tags.items) c.in-Some.ensures.steps.0 inv.so_far);
      part_room = λ more enough.
          c.define-tag.ensures.room (length rest + more)
          (part-room-less c.loop-part.self (suc (length rest + more)) (length (into_iter_items c.loop-part.part-iterator) + more) (omega (arith, left)) (inv.part_room more enough));
      clause_room = λ clauses literals enough. c.define-tag.ensures.clause_room clauses literals (inv.clause_room clauses literals enough);
      steps_len = let few = inv.steps_len in omega (arith, left, few, c.define-tag.ensures.steps_len);
      steps_capacity = c.define-tag.ensures.steps_capacity ∙ inv.steps_capacity;
      room = c.define-tag.ensures.room (length rest) (subst (λ (n : ℕ). HasPartRoom c.loop-part.self n) left inv.room);
      steps_room = let room = inv.steps_room in omega (arith, left, room, c.define-tag.ensures.steps_len, c.define-tag.ensures.steps_capacity);
      tags_room = let room = inv.tags_room in omega (arith, left, room, c.push_reserved.ensures.len, c.push_reserved.ensures.capacity);
    }

pub returns-clause-part_room : goal.returns-clause-part_room
returns-clause-part_room c = λ more enough.
    part-room-less c.loop-part.self more (length (into_iter_items c.loop-part.part-iterator) + more) (omega arith) (c.loop-part.invariant.part_room more enough)
