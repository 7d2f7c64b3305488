use Rattle.std.proofs.Common.{ℕ, arith}
use Rattle.clause_queue.specs.Node.{pair_of}
use Rattle.clause_queue.proofs.Placed.{node_of, step_of, put_lower, put_upper, IsNodeOf, IsStep}
use Rattle.clause_queue.proofs.tree.Tree.+put.Goals as goal
use Rattle.clause_queue.proofs.tree.Tree.+put.Goals.{After-settle}

-- the node that stands here
node : (t : ℕ) (c : After-settle t) → IsNodeOf c.args.self.now c.deref_mut-top.result.now
node t c = node_of c.deref_mut-top.result.now c.self.view_is c.self.invariant c.in-Some.is c.deref_mut-top.ensures.value

-- what stands here then, and what goes on down
step : (t : ℕ) (c : After-settle t) → IsStep (pair_of c.args.node.value.entry) (pair_of c.settle.new.above) (pair_of c.settle.new.below) c.deref_mut-top.result.now
step t c = step_of (pair_of c.args.node.value.entry) (pair_of c.settle.new.above) (pair_of c.settle.new.below) c.deref_mut-top.result.now (node t c) c.requires.absent (rw c.deref_mut-in-Some.ensures.value at c.settle.ensures)

pub put-requires : goal.put-requires
put-requires t c =
    let given = c.deref_mut-in-Some.ensures.value in
    let here = (goal.at.put-requires t c).After-settle in
    let shorter = (node t here).lower_shorter in
    (omega arith, (omega (arith, c.saturating_sub.ensures), (record { no_lower = rw given c.requires.bare.no_lower; no_upper = rw given c.requires.bare.no_upper }, (step t here).lower_free)))

pub put-requires-else-deref-top : goal.put-requires-else-deref-top
put-requires-else-deref-top t c =
    let given = c.deref_mut-in-Some.ensures.value in
    let here = (goal.at.put-requires-else-deref-top t c).After-settle in
    let shorter = (node t here).upper_shorter in
    (omega arith, (omega (arith, c.saturating_sub-else-deref-top.ensures), (record { no_lower = rw given c.requires.bare.no_lower; no_upper = rw given c.requires.bare.no_upper }, (step t here).upper_free)))

pub invariant_of-self-then-deref-top : goal.invariant_of-self-then-deref-top
invariant_of-self-then-deref-top t c =
    let here = (goal.at.invariant_of-self-then-deref-top t c).After-settle in
    let side = rw c.deref-in-Some.ensures at c.if-deref-top.true in
    (put_lower _ _ c.settle.new.below c.deref_mut-top.result.now c.put.new.self (node t here) (step t here) side c.put.ensures).placed

pub returns-then-deref-top : goal.returns-then-deref-top
returns-then-deref-top t c =
    let here = (goal.at.returns-then-deref-top t c).After-settle in
    let side = rw c.deref-in-Some.ensures at c.if-deref-top.true in
    (put_lower _ _ c.settle.new.below c.deref_mut-top.result.now c.put.new.self (node t here) (step t here) side c.put.ensures).is

pub invariant_of-self-else-deref-top : goal.invariant_of-self-else-deref-top
invariant_of-self-else-deref-top t c =
    let here = (goal.at.invariant_of-self-else-deref-top t c).After-settle in
    let side = rw c.deref-in-Some.ensures at c.if-deref-top.false in
    (put_upper _ _ c.settle.new.below c.deref_mut-top.result.now c.put-else-deref-top.new.self (node t here) (step t here) side c.put-else-deref-top.ensures).placed

pub returns-else-deref-top : goal.returns-else-deref-top
returns-else-deref-top t c =
    let here = (goal.at.returns-else-deref-top t c).After-settle in
    let side = rw c.deref-in-Some.ensures at c.if-deref-top.false in
    (put_upper _ _ c.settle.new.below c.deref_mut-top.result.now c.put-else-deref-top.new.self (node t here) (step t here) side c.put-else-deref-top.ensures).is
