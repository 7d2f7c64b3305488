-- What a queue keeps beside its tree: its spare nodes.
use Rattle.std.specs.Prelude.{◌≡◌, ◌+◌, ◌≤◌, length, vec_capacity}
use Rattle.std.specs.List.{AllByRecursion}
use Rattle.clause_queue.specs.Node.{IsBare}
use Rattle.clause_queue.specs.Pairs.{Waiting, IsRising}
use Rattle.clause_queue.specs.declared.queue.Queue.TheInside.{Inside}

-- the pairs of the tree, and a place for each spare node
abbrev pub waiting_of : Inside → Waiting
waiting_of a = record { pairs = a.tree; spare = length a.spare.items }

-- the spare nodes are bare, and the list of them has room for all nodes, those of the tree too
pub record IsKept (a : Inside) : Type 0 where
  pub bare : AllByRecursion IsBare a.spare.items
  pub room : length a.tree + length a.spare.items ≤ vec_capacity a.spare
  pub counted : a.len ≡ length a.tree
  pub rising : IsRising a.tree
