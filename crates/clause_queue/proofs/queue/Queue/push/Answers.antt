use Rattle.std.proofs.Common.{ap, arith}
use Rattle.clause_queue.specs.Pairs.{Waiting}
use Rattle.clause_queue.specs.Node.{pair_of}
use Rattle.clause_queue.specs.TreeFalls.{length-with_pair}
use Rattle.clause_queue.proofs.Numbers.{absent_from}
use Rattle.clause_queue.proofs.PairsLemmas.{rising-with_pair}
use Rattle.clause_queue.proofs.queue.Queue.push.Goals as goal

pub put-requires-clause-absent : goal.put-requires-clause-absent
put-requires-clause-absent c =
    let same = ap (λ (w : Waiting). w.pairs) c.self.view_is in
    rw c.in_ok-node.ensures.entry (absent_from c.args.number c.self.inside.tree (rw (← same) at c.requires.absent))

pub invariant_of-self-2 : goal.invariant_of-self-2
invariant_of-self-2 c =
    let same = ap (λ (w : Waiting). w.pairs) c.self.view_is in
    let absent = absent_from c.args.number c.self.inside.tree (rw (← same) at c.requires.absent) in
    let more = length-with_pair (pair_of c.in_ok-node.node.value.entry) c.self.inside.tree in
    let room = c.in_ok-node.ensures.room in
    let counted = c.self.invariant.counted in
    record {
      bare = c.spare_node.ensures.bare;
      room = rw c.put.ensures (omega arith);
      counted = rw c.put.ensures (omega arith);
      rising = rw (c.put.ensures, c.in_ok-node.ensures.entry) (rising-with_pair (c.args.number, c.args.size) c.self.inside.tree c.self.invariant.rising absent);
    }
