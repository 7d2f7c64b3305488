use Rattle.std.proofs.Common.{refl, sym, subst}
use Rattle.worker_team.specs.Passes.{PoolPass}
use Rattle.worker_team.specs.Backs.{HasSolved}
use Rattle.worker_team.specs.Jobs.{HasDoneSolving}
use Rattle.worker_team.proofs.TryLemmas.{asked-out, solving-done, solving-given-up, solving-refused, still-out, still-owned}
use Rattle.worker_team.proofs.job.solve.Goals as goal

pub returns-in_default-clause-done : goal.returns-in_default-clause-done
returns-in_default-clause-done g c =
    let bank = c.args.bank.now in
    let p = c.args.pass in
    let r = c.give_up.result in
    let job = c.args.ticket.job in
    subst (λ (s : PoolPass). HasDoneSolving bank p job s c.broken.result.known) (sym c.broken.ensures.pass)
    (subst (HasDoneSolving bank p job r) (sym c.broken.ensures.known)
    (solving-given-up bank p c.args.ticket c.requires.ticket r (record {}) c.give_up.ensures.given_up))

pub give_up-requires-in-Err-clause-out : goal.give_up-requires-in-Err-clause-out
give_up-requires-in-Err-clause-out g c =
    let bank = c.args.bank.now in
    let p = c.args.pass in
    let q = c.solve_back-after.result.pass in
    let job = c.args.ticket.job in
    let solved = subst (HasSolved bank p job q) c.in-Err.is c.solve_back-after.ensures.solved in
    still-out bank p q job c.requires.pass solved.pass solved.nothing c.requires.ticket.owned (asked-out bank p c.args.ticket c.requires.ticket)

pub give_up-requires-in-Err-clause-owned : goal.give_up-requires-in-Err-clause-owned
give_up-requires-in-Err-clause-owned g c =
    let bank = c.args.bank.now in
    let p = c.args.pass in
    let q = c.solve_back-after.result.pass in
    let job = c.args.ticket.job in
    let solved = subst (HasSolved bank p job q) c.in-Err.is c.solve_back-after.ensures.solved in
    still-owned bank p q job c.requires.pass solved.pass solved.nothing c.requires.ticket.owned

pub returns-in-Ok-stands-clause-done : goal.returns-in-Ok-stands-clause-done
returns-in-Ok-stands-clause-done g c =
    let bank = c.args.bank.now in
    let p = c.args.pass in
    let q = c.solve_back-after.result.pass in
    let job = c.args.ticket.job in
    let solved = subst (HasSolved bank p job q) c.in-Ok-stands.is c.solve_back-after.ensures.solved in
    solving-done bank p c.args.ticket c.requires.ticket q c.args.knowledge c.in-Ok-stands.stands
    (record { index = c.args.knowledge.index; last = c.in-Ok.field-0.last }) c.requires.knows c.in-Ok.ensures.last refl solved

pub returns-in-Err-clause-done : goal.returns-in-Err-clause-done
returns-in-Err-clause-done g c =
    let bank = c.args.bank.now in
    let p = c.args.pass in
    let q = c.solve_back-after.result.pass in
    let r = c.give_up-in-Err.result in
    let job = c.args.ticket.job in
    let solved = subst (HasSolved bank p job q) c.in-Err.is c.solve_back-after.ensures.solved in
    subst (λ (s : PoolPass). HasDoneSolving bank p job s c.broken-in-Err.result.known) (sym c.broken-in-Err.ensures.pass)
    (subst (HasDoneSolving bank p job r) (sym c.broken-in-Err.ensures.known)
    (solving-refused bank p c.args.ticket c.requires.ticket q r c.in-Err.field-0 (record {}) solved c.give_up-in-Err.ensures.given_up))
