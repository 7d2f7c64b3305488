-- A new index that learned what a ticket tells from the beginning of the history: it knows the clauses of the ticket's job.
use Rattle.std.proofs.Common.{◌≡◌, [], refl, ap, sym, ◌∙◌, subst, arith}
use Rattle.pool_history.specs.View.{PoolView}
use Rattle.pool_history.specs.Answers.{IsTicket}
use Rattle.pool_history.specs.declared.options.Options.{Options}
use Rattle.pool_history.specs.declared.ticket.Ticket.{Ticket}
use Rattle.given_work.specs.View.{IndexView}
use Rattle.given_work.specs.Laws.{AreToldFor}
use Rattle.given_work.specs.Learned.{HasLearned}
use Rattle.given_work.specs.Learning.{AreNews, learned}
use Rattle.given_work.proofs.AboutLearning.TicketLemmas.{learned_are_told_for, tickets_are_learned}

abbrev IsNewIndex : Options → IndexView → Type 0
IsNewIndex options index = index ≡ record { options = options; told = 0; members = [] }

begun : (pool : PoolView) (index : IndexView) (options : Options) → IsNewIndex options index → HasLearned pool index
begun pool index options new =
    subst (HasLearned pool) (sym new) (record { told = omega arith; changes = []; of_history = refl; members = refl })

-- the place of a new index is the beginning
at-zero :
    (pool : PoolView) (index : IndexView) (options : Options) (ticket : Ticket)
    → IsNewIndex options index → IsTicket pool.origin pool.history 0 ticket → IsTicket pool.origin pool.history index.told ticket
at-zero pool index options ticket new is = subst (λ (i : IndexView). IsTicket pool.origin pool.history i.told ticket) (sym new) is

pub new-news :
    (pool : PoolView) (index : IndexView) (options : Options) (ticket : Ticket)
    → IsNewIndex options index → IsTicket pool.origin pool.history 0 ticket → AreNews index.members ticket.news
new-news pool index options ticket new is =
    (tickets_are_learned pool index ticket (begun pool index options new) (at-zero pool index options ticket new is)).0

pub knows :
    (pool : PoolView) (index now : IndexView) (options : Options) (ticket : Ticket)
    → IsNewIndex options index → now ≡ record { options = index.options; told = ticket.as_of; members = learned index.members ticket.news }
    → IsTicket pool.origin pool.history 0 ticket → AreToldFor pool.origin pool.history ticket now.members
knows pool index now options ticket new same is =
    learned_are_told_for pool now 0 ticket
    (subst (HasLearned pool) (sym same)
    (tickets_are_learned pool index ticket (begun pool index options new) (at-zero pool index options ticket new is)).1)
    (ap (λ (i : IndexView). i.told) same ∙ is.as_of.1) is
