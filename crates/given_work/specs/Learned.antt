-- What an index learned of a pool's history.
use Rattle.std.specs.Prelude.{◌≡◌, ◌≤◌, List, [], map, length, take}
use Rattle.pool_history.specs.View.{PoolView}
use Rattle.pool_history.specs.News.{change_of, news_since}
use Rattle.pool_history.specs.declared.ticket.Change.{Change}
use Rattle.given_work.specs.View.{IndexView}
use Rattle.given_work.specs.Learning.{learned}

-- The index learned the changes of the first `told` events of the pool's history, in their order and no others.
pub record HasLearned (pool : PoolView) (index : IndexView) : Type 0 where
  pub told : index.told ≤ length pool.history
  pub changes : List Change
  pub of_history : map change_of changes ≡ news_since pool.origin (take index.told pool.history) 0
  pub members : index.members ≡ learned [] changes
