-- What the counted queue of the clauses that wait and are awake is seen as. Its count is no higher than their number.
use Rattle.std.specs.Prelude.{◌≤◌, length}
use Rattle.clause_queue.specs.Pairs.{Waiting}
use Rattle.pool_core.specs.declared.ready_queue.ReadyQueue.TheInside.{Inside}

abbrev pub waiting_in : Inside → Waiting
waiting_in a = a.queue

pub record IsCounted (a : Inside) : Type 0 where
  pub few : a.len ≤ length a.queue.pairs
