use Rattle.disc_tree.proofs.AboutQueries.MatcherLemmas.{matchers-read-off}
use Rattle.disc_tree.proofs.laws.matchers_are_read_off.Goals as goal

pub returns : goal.returns
returns c = matchers-read-off
