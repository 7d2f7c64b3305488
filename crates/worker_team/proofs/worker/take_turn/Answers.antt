use Rattle.std.proofs.Common.{ℕ, ◌≤◌, [], ◌∷◌, length, ap, sym, ◌∙◌, subst}
use Rattle.std.specs.Prelude.{Ok}
use Rattle.pool_history.specs.declared.event.Event.TheVariants.{Claim, ClaimSolve}
use Rattle.pool_history.specs.declared.ticket.Claimed.{Claimed}
use Rattle.pool_history.specs.declared.ticket.Ticket.{Ticket}
use Rattle.pool_history.specs.declared.ticket.PropTicket.{PropTicket}
use Rattle.worker_team.specs.Passes.{HasClaimed, IsGiven, PoolPass}
use Rattle.worker_team.specs.Jobs.{HasDoneClause, HasDoneSolving, IsAsked}
use Rattle.worker_team.specs.Team.{HasEndedTurn, IsIdleAt}
use Rattle.worker_team.proofs.ClaimedLemmas.{asked-claimed, given-claimed, waits-claimed}
use Rattle.worker_team.proofs.EndLemmas.{clause-turn, ended-turn, idle-turn, solver-turn}
use Rattle.worker_team.proofs.JobLemmas.{knows-still}
use Rattle.worker_team.proofs.worker.take_turn.Goals as goal

pub claim-after-requires-clause-told : goal.claim-after-requires-clause-told
claim-after-requires-clause-told g c =
    subst (λ (n : ℕ). n ≤ length c.args.pass.seen) (sym c.told.ensures) c.requires.knows.index.learned.told

pub work_on-requires-clause-knows : goal.work_on-requires-clause-knows
work_on-requires-clause-knows g c =
    let bank = c.args.bank.now in
    let p = c.args.pass in
    let q = c.claim-after.result.pass in
    let given = c.in-Ok-Given in
    let claimed =
    subst (HasClaimed bank p c.told.result q) (given.is ∙ ap (λ (a : Claimed). Ok a) (rw given.is at given.field-0-is)) c.claim-after.ensures.claimed in
    knows-still p q (Claim given.ticket.job ∷ []) claimed.adds bank c.args.knowledge c.requires.knows

pub work_on-requires-clause-ticket : goal.work_on-requires-clause-ticket
work_on-requires-clause-ticket g c =
    let bank = c.args.bank.now in
    let p = c.args.pass in
    let q = c.claim-after.result.pass in
    let given = c.in-Ok-Given in
    let claimed =
    subst (HasClaimed bank p c.told.result q) (given.is ∙ ap (λ (a : Claimed). Ok a) (rw given.is at given.field-0-is)) c.claim-after.ensures.claimed in
    subst (IsGiven q c.args.knowledge.index.told) (sym given.ticket-is)
    (subst (λ (n : ℕ). IsGiven q n given.ticket) c.told.ensures (given-claimed bank p q c.told.result given.ticket claimed))

pub solve-requires-clause-knows : goal.solve-requires-clause-knows
solve-requires-clause-knows g c =
    let bank = c.args.bank.now in
    let p = c.args.pass in
    let q = c.claim-after.result.pass in
    let asked = c.in-Ok-Solve in
    let claimed =
    subst (HasClaimed bank p c.told.result q) (asked.is ∙ ap (λ (a : Claimed). Ok a) (rw asked.is at asked.field-0-is)) c.claim-after.ensures.claimed in
    knows-still p q (ClaimSolve asked.ticket.job ∷ []) claimed.adds bank c.args.knowledge c.requires.knows

pub solve-requires-clause-ticket : goal.solve-requires-clause-ticket
solve-requires-clause-ticket g c =
    let bank = c.args.bank.now in
    let p = c.args.pass in
    let q = c.claim-after.result.pass in
    let asked = c.in-Ok-Solve in
    let claimed =
    subst (HasClaimed bank p c.told.result q) (asked.is ∙ ap (λ (a : Claimed). Ok a) (rw asked.is at asked.field-0-is)) c.claim-after.ensures.claimed in
    subst (IsAsked q) (sym asked.ticket-is) (asked-claimed bank p q c.told.result asked.ticket claimed.pass claimed)

pub returns-in-Ok-Given-clause-ended : goal.returns-in-Ok-Given-clause-ended
returns-in-Ok-Given-clause-ended g c =
    let bank = c.args.bank.now in
    let p = c.args.pass in
    let q = c.claim-after.result.pass in
    let r = c.work_on.result.pass in
    let known = c.work_on.result.known in
    let given = c.in-Ok-Given in
    let claimed =
    subst (HasClaimed bank p c.told.result q) (given.is ∙ ap (λ (a : Claimed). Ok a) (rw given.is at given.field-0-is)) c.claim-after.ensures.claimed in
    clause-turn bank p q c.told.result r given.ticket known claimed
    (subst (λ (t : Ticket). HasDoneClause bank q t.job r known) given.ticket-is c.work_on.ensures.done)

pub returns-in-Ok-Solve-clause-ended : goal.returns-in-Ok-Solve-clause-ended
returns-in-Ok-Solve-clause-ended g c =
    let bank = c.args.bank.now in
    let p = c.args.pass in
    let q = c.claim-after.result.pass in
    let r = c.solve.result.pass in
    let known = c.solve.result.known in
    let asked = c.in-Ok-Solve in
    let claimed =
    subst (HasClaimed bank p c.told.result q) (asked.is ∙ ap (λ (a : Claimed). Ok a) (rw asked.is at asked.field-0-is)) c.claim-after.ensures.claimed in
    solver-turn bank p q c.told.result r asked.ticket known claimed
    (subst (λ (t : PropTicket). HasDoneSolving bank q t.job r known) asked.ticket-is c.solve.ensures.done)

pub returns-in-Ok-Idle-clause-ended : goal.returns-in-Ok-Idle-clause-ended
returns-in-Ok-Idle-clause-ended g c =
    let bank = c.args.bank.now in
    let p = c.args.pass in
    let q = c.claim-after.result.pass in
    let idle = c.in-Ok-Idle in
    let claimed =
    subst (HasClaimed bank p c.told.result q) (idle.is ∙ ap (λ (a : Claimed). Ok a) (rw idle.is at idle.field-0-is)) c.claim-after.ensures.claimed in
    subst (λ (s : PoolPass). HasEndedTurn bank p s c.rests.result.known) (sym c.rests.ensures.pass)
    (subst (HasEndedTurn bank p q) (sym c.rests.ensures.known) (idle-turn bank p q c.told.result idle.field-0-0 c.args.knowledge c.requires.knows claimed))

pub returns-in-Ok-Ended-clause-ended : goal.returns-in-Ok-Ended-clause-ended
returns-in-Ok-Ended-clause-ended g c =
    let bank = c.args.bank.now in
    let p = c.args.pass in
    let q = c.claim-after.result.pass in
    let ended = c.in-Ok-Ended in
    let rests = c.rests-in-Ok-Ended in
    let claimed =
    subst (HasClaimed bank p c.told.result q) (ended.is ∙ ap (λ (a : Claimed). Ok a) (rw ended.is at ended.field-0-is)) c.claim-after.ensures.claimed in
    subst (λ (s : PoolPass). HasEndedTurn bank p s rests.result.known) (sym rests.ensures.pass)
    (subst (HasEndedTurn bank p q) (sym rests.ensures.known)
    (ended-turn bank p q c.told.result ended.field-0-0 c.args.knowledge c.requires.knows claimed))

pub returns-in-Ok-Given-clause-idle : goal.returns-in-Ok-Given-clause-idle
returns-in-Ok-Given-clause-idle g c = subst (IsIdleAt c.work_on.result.pass) (sym c.work_on.ensures.idle) tt

pub returns-in-Ok-Solve-clause-idle : goal.returns-in-Ok-Solve-clause-idle
returns-in-Ok-Solve-clause-idle g c = subst (IsIdleAt c.solve.result.pass) (sym c.solve.ensures.idle) tt

pub returns-in-Ok-Idle-clause-idle : goal.returns-in-Ok-Idle-clause-idle
returns-in-Ok-Idle-clause-idle g c =
    let bank = c.args.bank.now in
    let p = c.args.pass in
    let q = c.claim-after.result.pass in
    let idle = c.in-Ok-Idle in
    let claimed =
    subst (HasClaimed bank p c.told.result q) (idle.is ∙ ap (λ (a : Claimed). Ok a) (rw idle.is at idle.field-0-is)) c.claim-after.ensures.claimed in
    subst (λ (s : PoolPass). IsIdleAt s c.rests.result.idle) (sym c.rests.ensures.pass)
    (subst (IsIdleAt q) (sym c.rests.ensures.idle) (c.claim-after.ensures.length, waits-claimed bank p q c.told.result idle.field-0-0 claimed))

pub returns-in-Ok-Ended-clause-idle : goal.returns-in-Ok-Ended-clause-idle
returns-in-Ok-Ended-clause-idle g c =
    let rests = c.rests-in-Ok-Ended in
    subst (IsIdleAt rests.result.pass) (sym rests.ensures.idle) tt
