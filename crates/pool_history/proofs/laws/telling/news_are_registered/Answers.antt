use Rattle.pool_history.proofs.AboutRecords.NewsLemmas.{news_are_registered}
use Rattle.pool_history.proofs.laws.telling.news_are_registered.Goals as goal

pub returns : goal.returns
returns c = news_are_registered
