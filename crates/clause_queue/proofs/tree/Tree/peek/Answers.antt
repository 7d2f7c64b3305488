use Rattle.std.proofs.Common.{sym}
use Rattle.clause_queue.proofs.Placed.{node_of}
use Rattle.clause_queue.proofs.Peeks.{peek_light, peek_old}
use Rattle.clause_queue.proofs.tree.Tree.peek.Goals as goal

pub returns-in-Light-clause-picked : goal.returns-in-Light-clause-picked
returns-in-Light-clause-picked c =
    let node = node_of c.deref.result.now c.self.view_is c.self.invariant (sym c.in_ok-as_ref.ensures.value) c.deref.ensures in
    rw c.in-Light.is (peek_light c.deref.result.now node)

pub returns-in-Old-clause-picked : goal.returns-in-Old-clause-picked
returns-in-Old-clause-picked c =
    let node = node_of c.deref.result.now c.self.view_is c.self.invariant (sym c.in_ok-as_ref.ensures.value) c.deref.ensures in
    rw c.in-Old.is (peek_old c.deref.result.now c.least_number.result node c.least_number.ensures.least c.least_number.ensures.given)
