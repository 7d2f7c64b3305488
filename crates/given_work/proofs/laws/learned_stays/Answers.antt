use Rattle.given_work.proofs.AboutLearning.TicketLemmas.{learned_stays}
use Rattle.given_work.proofs.laws.learned_stays.Goals as goal

pub returns : goal.returns
returns c = learned_stays
