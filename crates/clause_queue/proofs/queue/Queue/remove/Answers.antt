use Rattle.std.proofs.Common.{ap, refl, arith}
use Rattle.clause_queue.specs.Pairs.{Waiting}
use Rattle.std.proofs.lemmas.Bool.{false≢true}
use Rattle.clause_queue.specs.Node.{pair_of}
use Rattle.clause_queue.proofs.Numbers.{lacks_from, contains_number-with_pair}
use Rattle.clause_queue.proofs.PairsLemmas.{without_absent}
use Rattle.clause_queue.proofs.Kept.{taken_out}
use Rattle.clause_queue.proofs.queue.Queue.remove.Goals as goal

pub returns-in_default-clause-found : goal.returns-in_default-clause-found
returns-in_default-clause-found c =
    let same = ap (λ (w : Waiting). w.pairs) c.self.view_is in
    (λ yes. absurd (false≢true yes), λ has. absurd (lacks_from c.args.number c.self.inside.tree c.in_default.ensures.none.0 (rw (← same) at has)))

pub returns-in_default-clause-pairs : goal.returns-in_default-clause-pairs
returns-in_default-clause-pairs c =
    let same = ap (λ (w : Waiting). w.pairs) c.self.view_is in
    rw (← same, without_absent c.args.number c.self.inside.tree c.in_default.ensures.none.0) c.in_default.ensures.none.1

pub overflow_sub-self : goal.overflow_sub-self
overflow_sub-self c =
    let out = taken_out c.in-Some.node c.self.inside.tree c.take.new.self c.in-Some.ensures.taken c.self.invariant.rising in
    let longer = out.shorter in
    let counted = c.self.invariant.counted in
    omega arith

pub keep_node-requires-clause-room : goal.keep_node-requires-clause-room
keep_node-requires-clause-room c =
    let out = taken_out c.in-Some.node c.self.inside.tree c.take.new.self c.in-Some.ensures.taken c.self.invariant.rising in
    let longer = out.shorter in
    let room = c.self.invariant.room in
    omega arith

pub invariant_of-self-2 : goal.invariant_of-self-2
invariant_of-self-2 c =
    let out = taken_out c.in-Some.node c.self.inside.tree c.take.new.self c.in-Some.ensures.taken c.self.invariant.rising in
    let longer = out.shorter in
    let room = c.self.invariant.room in
    let counted = c.self.invariant.counted in
    record {
      bare = c.keep_node.ensures.bare;
      room = omega (arith, c.keep_node.ensures.spare, c.keep_node.ensures.kept);
      counted = omega arith;
      rising = out.rising;
    }

pub returns-clause-pairs : goal.returns-clause-pairs
returns-clause-pairs c =
    let out = taken_out c.in-Some.node c.self.inside.tree c.take.new.self c.in-Some.ensures.taken c.self.invariant.rising in
    let same = ap (λ (w : Waiting). w.pairs) c.self.view_is in
    let is = out.is in
    let number = c.in-Some.ensures.number in
    rw (← same, ← number) is

pub returns-clause-found : goal.returns-clause-found
returns-clause-found c =
    let same = ap (λ (w : Waiting). w.pairs) c.self.view_is in
    let has = contains_number-with_pair (pair_of c.in-Some.node.value.entry) c.take.new.self in
    (λ _. rw (← c.in-Some.ensures.taken.is, c.in-Some.ensures.number, same) at has, λ _. refl)
