use Rattle.std.proofs.Common.{◌≡◌, ℕ, List, [], Option, Some, None, Box, IfNone, sym}
use Rattle.std.specs.declared.alloc.Global.{Global}
use Rattle.clause_queue.specs.Pairs.{IsAbsent}
use Rattle.clause_queue.specs.declared.tree.Node.{Node}
use Rattle.clause_queue.proofs.Placed.{node_of, absent_parts, IsNodeOf}
use Rattle.clause_queue.proofs.tree.Tree.take_oldest.Goals as goal

-- the least number is there, since the top's is
found : {d : List (ℕ × ℕ)} (n : Node) (m : ℕ) (r : Option (Box Node Global)) (new : List (ℕ × ℕ)) → IsNodeOf d n → (IsAbsent m d → m ≡ n.entry.number) → IfNone r (IsAbsent m d × (new ≡ d)) → IfNone r ((d ≡ []) × (new ≡ []))
found n m None new node given none = absurd ((absent_parts n m node none.0).0 (sym (given none.0)))
found n m (Some b) new node given none = tt

pub returns-clause-none : goal.returns-clause-none
returns-clause-none c =
    let node = node_of c.deref.result.now c.self.view_is c.self.invariant (sym c.in_ok-as_ref.ensures.value) c.deref.ensures in
    found c.deref.result.now c.least_number-oldest.result c.take.result c.take.new.self node c.least_number-oldest.ensures.given c.take.ensures.none
