use Rattle.pool_history.proofs.AboutRecords.NewsLemmas.{told_are_news}
use Rattle.pool_history.proofs.laws.telling.told_are_news.Goals as goal

pub returns : goal.returns
returns c = told_are_news
