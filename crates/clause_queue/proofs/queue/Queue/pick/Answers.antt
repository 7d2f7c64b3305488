use Rattle.std.proofs.Common.{ap, arith}
use Rattle.clause_queue.specs.Pairs.{Waiting}
use Rattle.clause_queue.proofs.Kept.{taken_out}
use Rattle.clause_queue.proofs.queue.Queue.pick.Goals as goal

pub invariant_of-self-2 : goal.invariant_of-self-2
invariant_of-self-2 c =
    let out = taken_out c.in_ok-node.node c.self.inside.tree c.pick.new.self c.in_ok-node.ensures.taken c.self.invariant.rising in
    let longer = out.shorter in
    let room = c.self.invariant.room in
    let counted = c.self.invariant.counted in
    record {
      bare = c.keep_node.ensures.bare;
      room = omega (arith, c.keep_node.ensures.spare, c.keep_node.ensures.kept);
      counted = omega arith;
      rising = out.rising;
    }

pub returns-clause-pairs : goal.returns-clause-pairs
returns-clause-pairs c =
    let out = taken_out c.in_ok-node.node c.self.inside.tree c.pick.new.self c.in_ok-node.ensures.taken c.self.invariant.rising in
    let same = ap (λ (w : Waiting). w.pairs) c.self.view_is in
    rw (c.deref.ensures, ← same) out.is
