use Rattle.given_work.proofs.AboutLearning.TicketLemmas.{tickets_are_learned, learned_are_told_for}
use Rattle.given_work.proofs.laws.tickets_are_learned.Goals as goal

pub returns-clause-learned : goal.returns-clause-learned
returns-clause-learned c = tickets_are_learned

pub returns-clause-told : goal.returns-clause-told
returns-clause-told c = learned_are_told_for
