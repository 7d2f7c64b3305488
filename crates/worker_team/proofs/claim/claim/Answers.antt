use Rattle.std.proofs.Common.{List, sym, ◌∙◌, subst}
use mathlib.Core.List.{IsPrefix}
use Rattle.turn_lock.specs.History.{AddsOwnKeys}
use Rattle.pool_history.specs.Events.{job_of}
use Rattle.pool_history.specs.declared.event.Event.{Event}
use Rattle.worker_team.specs.Passes.{PoolPass}
use Rattle.worker_team.proofs.ClaimLemmas.{claim-grown, claim-own-keys, has-claimed, turn-by}
use Rattle.worker_team.proofs.claim.claim.Goals as goal

pub give-requires-clause-grown : goal.give-requires-clause-grown
give-requires-clause-grown g c =
    let new = c.claim-claimed.new.self in
    subst (λ (h : List Event). IsPrefix h new.history) (sym c.take-turn.ensures.history)
    (claim-grown c.take-turn.result.state new c.args.told c.claim-claimed.result c.claim-claimed.ensures.answer c.claim-claimed.ensures.unchanged)

pub give-requires-clause-keys : goal.give-requires-clause-keys
give-requires-clause-keys g c =
    let old = c.take-turn.result.state in
    let new = c.claim-claimed.new.self in
    let p = c.args.pass in
    subst (λ (h : List Event). AddsOwnKeys job_of h c.take-turn.result.hold.pass.own new.history) (sym c.take-turn.ensures.history)
    (subst (λ (k : PoolPass). AddsOwnKeys job_of old.history k.own new.history) (sym c.take-turn.ensures.pass)
    (claim-own-keys old new p.own c.args.told c.claim-claimed.result c.claim-claimed.ensures.answer c.claim-claimed.ensures.unchanged
    c.history-before.ensures.lawful c.history-before.ensures.inputs))

pub returns-clause-claimed : goal.returns-clause-claimed
returns-clause-claimed g c =
    let new = c.claim-claimed.new.self in
    let bank = c.args.bank.now in
    let p = c.args.pass in
    let old = c.take-turn.result.state in
    let q = c.give.result in
    let turn =
    turn-by p c.take-turn.result.hold.pass q old new c.take-turn.result.hold.history c.take-turn.ensures.pass c.take-turn.ensures.history
    c.take-turn.ensures.seen c.take-turn.ensures.origin (c.give.ensures.lock ∙ sym c.requires.lock) c.give.ensures.shares c.give.ensures.start
    c.give.ensures.origin c.give.ensures.seen c.give.ensures.own c.give.ensures.added c.give.ensures.keys in
    has-claimed bank p old new q c.args.told c.claim-claimed.result c.requires.pass turn c.claim-claimed.ensures.origin
    c.history-after.ensures.lawful c.claim-claimed.ensures.answer c.claim-claimed.ensures.of_bank c.claim-claimed.ensures.unchanged
