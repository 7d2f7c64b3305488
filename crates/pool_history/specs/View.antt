-- The view that contracts have of a pool.
use Rattle.std.specs.Prelude.{ℕ, List}
use Rattle.std.specs.Coded.{Coded, codes}
use Rattle.fol_base.specs.TreeCode.{tree_code}
use Rattle.pool_history.specs.Replay.{Origin}
use Rattle.pool_history.specs.declared.event.Event.{Event}

-- the identity of its bank, its beginning, and its events
pub record PoolView : Type 0 where
  pub bank : ℕ
  pub origin : Origin
  pub history : List Event

pub view_code : Coded PoolView
view_code = hlevel (codes, tree_code)
